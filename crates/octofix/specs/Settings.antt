-- What a map goes by, and how it stands, as C reads it.
use Rattle.std.specs.Prelude.{◌≡◌, ◌^◌, ◌-◌, min, ℕ, ℤ, pos, ◌&&◌, nat_le, int_le, Bool}
use Rattle.std.specs.Prelude.{if◌then◌else◌, [], is_some, false}
use Rattle.std.specs.Prelude.{Option, Some, None, Result, Ok, Err, ⊤}
use Rattle.oct_arena.specs.declared.node.Node.TheVariants.{Absent}
use Rattle.oct_map.specs.Map.{Map}
use Rattle.oct_map.specs.Memory.{memory_of}
use Rattle.oct_odds.specs.Odds.{Odds, odds, first_bad_field}
use Rattle.oct_odds.specs.declared.model.OddsField.{OddsField}
use Rattle.octofix.specs.declared.refusal.Refusal.{Refusal}
use Rattle.octofix.specs.declared.refusal.Refusal.TheVariants as refusal
use Rattle.octofix.specs.declared.types.LogOdds.{LogOdds}
use Rattle.octofix.specs.declared.types.MapLimits.{MapLimits}
use Rattle.octofix.specs.declared.types.Settings.{Settings}

-- log-odds as C passes them
abbrev pub odds_from : LogOdds → Odds
odds_from o = odds o.hit o.miss o.min o.max o.thr

-- log-odds as C reads them
abbrev pub odds_told : Odds → LogOdds
odds_told o = record { hit = o.hit; miss = o.miss; min = o.min; max = o.max; thr = o.thr }

-- what a map goes by, and how it stands
abbrev pub settings_in : Map → Settings
settings_in m = record {
  res = pos m.tree.res;
  odds = odds_told m.tree.odds;
  limits = record { max_groups = m.max_groups; max_cells = m.max_cells };
  is_stale = m.is_stale;
  is_tracked = is_some m.mark;
}

-- a number of nanometres that may be the edge of a voxel
abbrev pub is_edge : ℤ → Bool
is_edge res = int_le (pos 100000) res && int_le res (pos 100000000000)

-- limits that a map may have
abbrev pub are_limits : MapLimits → Bool
are_limits l = (nat_le 16 l.max_groups && nat_le l.max_groups (2 ^ 26))
    && (nat_le 1 l.max_cells && nat_le l.max_cells (2 ^ 27))

-- the answer to numbers of a model, by the first that is out of its range
abbrev pub model_answer : Option OddsField → Result ⊤ Refusal → Result ⊤ Refusal
model_answer (Some which) rest = Err (refusal.BadModel which)
model_answer None rest = rest

-- the answer to an open of a handle that has no map
abbrev pub making : ℤ → LogOdds → MapLimits → Result ⊤ Refusal
making res o l =
    if is_edge res
    then model_answer (first_bad_field (odds_from o))
    (if are_limits l then Ok tt else Err (refusal.BadArgument 0))
    else Err refusal.BadResolution

-- the answer to an open
abbrev pub opening : Option Map → ℤ → LogOdds → MapLimits → Result ⊤ Refusal
opening None res o l = making res o l
opening (Some m) res o l = Err refusal.Open

-- the answer to a copy of the map of a handle into another handle
abbrev pub copying : Option Map → Option Map → Result ⊤ Refusal
copying None other = Err refusal.Closed
copying (Some m) None = Ok tt
copying (Some m) (Some o) = Err refusal.Open

-- there is a map, that of the unknown world, with these settings, and without a mark
abbrev pub IsNew : Option Map → ℤ → LogOdds → MapLimits → Type 0
IsNew None res o l = ⊥
IsNew (Some m) res o l = (pos m.tree.res ≡ res) × (m ≡ record {
  tree = record { groups = []; root = Absent; res = m.tree.res; odds = odds_from o };
  is_stale = false;
  update_box = None;
  max_groups = l.max_groups;
  max_cells = l.max_cells;
  mark = None;
})

-- the bytes that it has taken, as far as C can read them
abbrev pub bytes_of : Map → ℕ
bytes_of m = min (memory_of m) (2 ^ 64 - 1)
