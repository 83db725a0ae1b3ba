-- A handle whose map stays.
use Rattle.std.proofs.Common.{◌≡◌, Some, sym}
use Rattle.oct_map.specs.Map.{Map}
use Rattle.octofix.specs.HandleLends.{open_with}
use Rattle.octofix.specs.Handles.{Handle}

-- the same map again makes the same handle
pub reopened : (h : Handle) (m : Map) → h.slot.map ≡ Some m → open_with h m ≡ h
reopened h m is = λ i. record {
  slot = record { at = h.slot.at; alloc = h.slot.alloc; map = sym is i };
  is_open = h.is_open;
}
