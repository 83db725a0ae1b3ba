-- The maps of regions, what is merged of them, and its snapshot.
use Rattle.std.proofs.Common.{◌≡◌, ℕ, List, [], ◌∷◌, ◌++◌, Option, refl, sym, ap, ◌∙◌}
use Rattle.oct_io.specs.Files.{Files, AreBytes}
use Rattle.std.specs.Prelude.{IfSome}
use Rattle.oct_key.specs.Block.{root_block}
use Rattle.oct_key.specs.Values.{Values, SameValues}
use Rattle.oct_key.specs.Voxel.{Voxel, IsInMap}
use Rattle.oct_key.proofs.Blocks.{root_in_map}
use Rattle.oct_key.proofs.Held.{held_in_map}
use Rattle.oct_map.specs.Ground.{Ground}
use Rattle.oct_merge.specs.Merged.{merged}
use Rattle.oct_odds.specs.Odds.{Odds}
use Rattle.oct_odds.specs.Update.{Value, IsWithin}
use Rattle.oct_script.specs.Lines.{ended, line_of}
use Rattle.oct_snap.specs.Texts.{map_text, snap_text, head_bytes}
use Rattle.oct_snap.proofs.MapNodes.{map_nodes}
use Rattle.oct_snap.proofs.Meanings.{node_is}
use Rattle.oct_session.specs.Building.{last_state}
use Rattle.oct_session.specs.FileCommands.{snapshot_file}
use Rattle.oct_session.specs.History.{State}
use Rattle.oct_session.specs.Session.{lines_of}
use Rattle.oct_session.specs.Setup.{Setup}
use Rattle.oct_promise.specs.Lines.{state_behind}
use Rattle.oct_promise.specs.RegionFiles.{Share, script_for, Plan, Region, Merged, boxes_of}
use Rattle.oct_promise.specs.RegionFiles.{IsBuilt, values_in, AreBuilt, IsJoined}
use Rattle.oct_promise.specs.Regions.{values_within, CoverValues}
use Rattle.oct_promise.specs.States.{IsSetUp}
use Rattle.oct_promise.proofs.RegionFiles.{values_joined, values_covered}
use Rattle.oct_promise.proofs.RegionScripts.{script_lines}
use Rattle.oct_promise.proofs.RegionsKept.{region_part}
use Rattle.oct_promise.proofs.StateCommands.{session_is}

-- ---- snapshots of equal values

same_map_text : (o : Odds) (v w : Values) → ((k : Voxel) → IsInMap k → IsWithin o (v k))
    → SameValues v w → map_text v ≡ map_text w
same_map_text o v w within same =
    let (nodes, is) = map_nodes o v within in
    sym is.text
    ∙ (node_is o w 16 0 root_block nodes refl refl root_in_map is.are
    (λ k held. let low = held_in_map root_block k root_in_map held in
    is.value k low ∙ same k low)).text

-- maps of equal values, with all else alike, have one snapshot
same_file : (s t : State) → s.base ≡ t.base
    → ((k : Voxel) → IsInMap k → IsWithin t.base.odds (t.values k))
    → SameValues s.values t.values → snapshot_file s ≡ snapshot_file t
unfolding snap_text
same_file s t base within same =
    ap (λ (g : Ground). snap_text g.res g.odds g.update_box s.values) base
    ∙ ap (λ bytes. head_bytes t.base.res t.base.odds t.base.update_box ++ bytes)
    (sym (same_map_text t.base.odds t.values s.values within (λ k low. sym (same k low))))

-- ---- regions

module _ (o : Setup) (files : Option Files) (bytes : List ℕ) where
  region_values : (share : Share) → IsBuilt o files bytes share → (k : Voxel)
      → (last_state o share.files (script_for share bytes)).values k
      ≡ values_within (share.box ∷ []) (last_state o files bytes).values k
  region_values share is k =
      ap (λ x. (state_behind o share.files x).values k)
      (script_lines o share.limit bytes is.one_line is.short)
      ∙ (region_part o files share.files share.box (ended (line_of share.limit))
      (lines_of o bytes) is.region).values k

  plan_values : (plan : Plan) → AreBuilt o files bytes plan → (k : Voxel)
      → values_in o bytes plan k
      ≡ values_within (boxes_of plan) (last_state o files bytes).values k
  unfolding AreBuilt values_in boxes_of
  plan_values (Region share) is k = region_values share is k
  plan_values (Merged rule first second) is k =
      ap (λ (v : Value). merged rule v (values_in o bytes second k)) (plan_values first is.0 k)
      ∙ ap (merged rule
      (values_within (boxes_of first) (last_state o files bytes).values k))
      (plan_values second is.1 k)
      ∙ values_joined rule (boxes_of first) (boxes_of second) (last_state o files bytes).values k

  -- regions that leave out no known voxel are joined to the values of the whole
  pub maps_join : (plan : Plan) → AreBuilt o files bytes plan
      → CoverValues (boxes_of plan) (last_state o files bytes).values
      → SameValues (values_in o bytes plan) (last_state o files bytes).values
  maps_join plan is cover = λ k low. plan_values plan is k
      ∙ values_covered (boxes_of plan) (last_state o files bytes).values cover k low

  -- and have its snapshot
  pub snapshots_join : IsSetUp o → IfSome files AreBytes → (plan : Plan)
      → AreBuilt o files bytes plan
      → CoverValues (boxes_of plan) (last_state o files bytes).values → (map : State)
      → IsJoined o files bytes plan map
      → snapshot_file map ≡ snapshot_file (last_state o files bytes)
  snapshots_join set small plan is cover map joined =
      same_file map (last_state o files bytes) joined.base
      (session_is o files (lines_of o bytes) set small).state.values
      (λ k low. joined.values k low ∙ maps_join plan is cover k low)
