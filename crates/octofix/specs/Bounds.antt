-- The least box around the voxels of a map.
use Rattle.std.specs.Prelude.{◌≡◌, ℕ, zero, suc, Option, Some, None, Result, Err, IsOkAnd}
use Rattle.oct_key.specs.Boxes.{Window}
use Rattle.oct_map.specs.Map.{Map}
use Rattle.oct_map.specs.Marks.{classes_in}
use Rattle.oct_query.specs.Extent.{IsExtent, IsFound}
use Rattle.oct_query.specs.declared.sought.Sought.{Sought}
use Rattle.oct_query.specs.declared.sought.Sought.TheVariants.{Known, Occupied, Free}
use Rattle.octofix.specs.Limits.{window_code, window_left}
use Rattle.octofix.specs.declared.refusal.Refusal.{Refusal}
use Rattle.octofix.specs.declared.refusal.Refusal.TheVariants as refusal
use Rattle.octofix.specs.declared.types.VoxelBox.{VoxelBox}

-- which voxels a number means
abbrev pub sought_numbered : ℕ → Option Sought
sought_numbered zero = Some Known
sought_numbered (suc zero) = Some Occupied
sought_numbered (suc (suc zero)) = Some Free
sought_numbered (suc (suc (suc n))) = None

-- this is the least box around the voxels of a map that are sought, where these are some
abbrev pub IsBoundsOf : Map → Option Sought → Result (Option Window) Refusal → Type 0
IsBoundsOf m None found = found ≡ Err (refusal.BadArgument 0)
IsBoundsOf m (Some sought) found = IsOkAnd found (IsExtent (IsFound (classes_in m) sought))

-- the same of the map of a handle
abbrev pub IsBounds : Option Map → ℕ → Result (Option Window) Refusal → Type 0
IsBounds None sought found = found ≡ Err refusal.Closed
IsBounds (Some m) sought found = IsBoundsOf m (sought_numbered sought) found

-- What a call leaves that tells the least box around what is sought.
pub record IsBoundsTold (handle : Option Map) (sought code : ℕ) (old new : VoxelBox) : Type 0 where
  pub found : Result (Option Window) Refusal
  pub right : IsBounds handle sought found
  pub coded : code ≡ window_code found
  pub left : new ≡ window_left old found
