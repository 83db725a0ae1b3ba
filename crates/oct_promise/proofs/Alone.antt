-- The values after a history are the folds of each voxel's own events.
use Rattle.std.proofs.Common.{◌≡◌, [], ◌∷◌, refl, ap}
use Rattle.std.specs.List.{fold}
use Rattle.oct_key.specs.Voxel.{Voxel}
use Rattle.oct_session.specs.History.{History, State, after, after_all, start_state, value_after}
use Rattle.oct_session.specs.History.{Alone, alone_by, alone_after}
use Rattle.oct_session.specs.Setup.{Setup}

-- what a state says of one voxel
abbrev alone_in : State → Voxel → Alone
alone_in s k = record { base = s.base; value = s.values k }

folds_alone : (s : State) (h : History) (k : Voxel)
    → alone_in (after_all s h) k ≡ fold (alone_by k) (alone_in s k) h
folds_alone s [] k = refl
folds_alone s (a ∷ h) k = folds_alone (after s a) h k

pub value_alone : (o : Setup) (h : History) (k : Voxel) → value_after o h k ≡ alone_after o h k
value_alone o h k = ap (λ (v : Alone). v.value) (folds_alone (start_state o) h k)
