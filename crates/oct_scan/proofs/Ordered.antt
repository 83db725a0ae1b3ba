-- Beams that are taken in another order.
use Rattle.std.proofs.Common.{◌≡◌, ℕ, ◌+◌, ◌%◌, ◌^◌, ◌<◌, ◌≤◌, List}
use Rattle.std.proofs.Common.{length, map, get_or, take, sym, subst, ◌∙◌, arith}
use Rattle.std.specs.Prelude.{IsSome, Option}
use Rattle.std.specs.List.{All}
use Rattle.std.specs.List.Sorted.{IsPermutation}
use Rattle.std.proofs.lemmas.List.{get_or-map, get_or_default, length-map, take_all}
use Rattle.std.proofs.lemmas.List.Elements.{All-contains}
use Rattle.std.proofs.lemmas.List.Sorted.{Contains-permutation}
use Rattle.std.proofs.lemmas.List.Sorted.{IsPermutation-map, IsPermutation-sym}
use Rattle.std.proofs.lemmas.List.Sorted.{sum_by-IsPermutation}
use Rattle.oct_key.specs.Boxes.{Window}
use Rattle.oct_key.specs.Voxel.{IsResolution, key_at}
use Rattle.oct_key.specs.PlaceKeys.{AreKeys, keyed_at}
use Rattle.oct_key.specs.declared.point.Point.{Point}
use Rattle.oct_key.proofs.PlaceKeys.{things_moved}
use Rattle.oct_ray.specs.Met.{met_by}
use Rattle.oct_ray.proofs.ComputedAxes.{met_by_walks}
use Rattle.oct_brick.specs.declared.brick.Brick.{Brick}
use Rattle.oct_scan.specs.declared.beam.Beam.{Beam}
use Rattle.oct_scan.specs.declared.beam.PlacedBeam.{PlacedBeam}
use Rattle.oct_scan.specs.Beam.{bare, bare_beam, IsPlaced}
use Rattle.oct_scan.specs.Gathered.{AreGathered, HoldAllGathered, IsBeamHeld, SomeBeam}
use Rattle.oct_scan.specs.Answer.{MeetInAll}
use Rattle.oct_scan.specs.Order.{EndsIn}
use Rattle.oct_scan.proofs.Faults.{AreWalked, cells_of, met_is, met_so}
use Rattle.oct_scan.proofs.Placed.{all_placed, bare_inside}

-- the beam at the place of a key is the next one
pub next_beam : (bs : List PlacedBeam) (keys : List ℕ) (i e : ℕ) (c d : PlacedBeam)
    → i < length keys → AreKeys EndsIn (2 ^ 19) bs keys
    → get_or bs (get_or keys i e % 2 ^ 19) c ≡ get_or (map (keyed_at (2 ^ 19) bs d) keys) i d
next_beam bs keys i e c d l are =
    get_or_default bs (get_or keys i e % 2 ^ 19) c d (are.each i e l).within
    ∙ sym (get_or-map (keyed_at (2 ^ 19) bs d) keys i e d l)

-- after the beam of one key more, bricks hold what is gathered along one beam more
pub all_keyed : (edge : ℕ) (window : Option Window) (o : Point) (bs : List PlacedBeam)
    (keys : List ℕ) (i e : ℕ) (b c d : PlacedBeam) (met : ℕ) (bricks bricks' : List Brick)
    → i < length keys → AreKeys EndsIn (2 ^ 19) bs keys → b ≡ get_or bs (get_or keys i e % 2 ^ 19) c
    → HoldAllGathered edge window o (take i (bare (map (keyed_at (2 ^ 19) bs d) keys))) bricks
    → IsBeamHeld edge window o (bare_beam b) met bricks bricks'
    → HoldAllGathered edge window o (take (i + 1) (bare (map (keyed_at (2 ^ 19) bs d) keys)))
    bricks'
all_keyed edge window o bs keys i e b c d met bricks bricks' l are is held added =
    all_placed edge window o (map (keyed_at (2 ^ 19) bs d) keys) i d met bricks bricks'
    (omega (arith, l, length-map keys (keyed_at (2 ^ 19) bs d))) held
    (subst (λ (x : PlacedBeam). IsBeamHeld edge window o (bare_beam x) met bricks bricks')
    (is ∙ next_beam bs keys i e c d l are) added)

-- of some beam of a list in another order
some_moved : (P : Beam → Type 0) (bs cs : List Beam) → IsPermutation bs cs → SomeBeam P bs
    → SomeBeam P cs
some_moved P bs cs moved (b, there, is) = (b, Contains-permutation bs cs b moved there, is)

gathered_moved : (edge : ℕ) (window : Option Window) (o : Point) (bs cs : List Beam)
    (s h : List ℕ) → IsPermutation bs cs → AreGathered edge window o cs s h
    → AreGathered edge window o bs s h
gathered_moved edge window o bs cs s h moved g =
    let back : IsPermutation cs bs = IsPermutation-sym bs cs moved in
    record {
      marks = λ code. (
        λ m. some_moved _ cs bs back ((g.marks code).0 m),
        λ m. (g.marks code).1 (some_moved _ bs cs moved m),
      );
      ends = λ code. (
        λ m. some_moved _ cs bs back ((g.ends code).0 m),
        λ m. (g.ends code).1 (some_moved _ bs cs moved m),
      );
      part = g.part;
      on_map = λ b there. g.on_map b (Contains-permutation bs cs b moved there);
    }

-- what is gathered along beams is gathered along them in any order
pub held_moved : (edge : ℕ) (window : Option Window) (o : Point) (bs cs : List Beam)
    (bricks : List Brick) → IsResolution edge → IsSome (key_at edge o)
    → All (λ b. IsSome (key_at edge b.end)) bs → IsPermutation bs cs
    → HoldAllGathered edge window o cs bricks → HoldAllGathered edge window o bs bricks
held_moved edge window o bs cs bricks range origin ends moved h =
    let walked : AreWalked edge o bs = λ b there. met_by_walks edge o b.end range origin
    (All-contains (λ b. IsSome (key_at edge b.end)) bs b ends there) in
    let back : IsPermutation cs bs = IsPermutation-sym bs cs moved in
    let total : h.total ≡ cells_of edge o bs =
    met_is edge o cs h.total (λ b there. walked b (Contains-permutation cs bs b back there)) h.met
    ∙ sum_by-IsPermutation (λ b. length (met_by edge o b.end)) bs cs moved in
    record {
      total = h.total;
      met = subst (MeetInAll edge o bs) (sym total) (met_so edge o bs walked);
      all = record {
        scanned = h.all.scanned;
        hits = h.all.hits;
        gathered = gathered_moved edge window o bs cs h.all.scanned h.all.hits moved
            h.all.gathered;
        few = h.all.few;
        held = h.all.held;
      };
    }

-- what is gathered by all keys is gathered along all beams
pub all_moved : (edge : ℕ) (window : Option Window) (o : Point) (bs : List PlacedBeam)
    (keys : List ℕ) (i : ℕ) (d : PlacedBeam) (bricks : List Brick) → IsResolution edge
    → IsSome (key_at edge o) → All (IsPlaced edge) bs → AreKeys EndsIn (2 ^ 19) bs keys
    → length keys ≤ i
    → HoldAllGathered edge window o (take i (bare (map (keyed_at (2 ^ 19) bs d) keys))) bricks
    → HoldAllGathered edge window o (bare bs) bricks
all_moved edge window o bs keys i d bricks range origin placed are all h =
    let cs : List PlacedBeam = map (keyed_at (2 ^ 19) bs d) keys in
    held_moved edge window o (bare bs) (bare cs) bricks range origin (bare_inside edge bs placed)
    (IsPermutation-map bare_beam bs cs (things_moved EndsIn (2 ^ 19) bs keys d are))
    (subst (λ (bs' : List Beam). HoldAllGathered edge window o bs' bricks)
    (take_all i (bare cs)
    (omega (arith, all, length-map keys (keyed_at (2 ^ 19) bs d), length-map cs bare_beam))) h)
