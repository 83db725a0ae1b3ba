-- Whether a quaternion is 0.
use Rattle.std.proofs.Common.{◌≡◌, ◌≢◌, ℤ, Bool, true, false, ◌&&◌, pos, refl, ◌∙◌}
use Rattle.std.specs.Prelude.{Decides}
use Rattle.std.specs.Ordering.{int_eq}
use Rattle.std.proofs.lemmas.Bool.Decides.{Decides-and, Decides-int_eq}
use Rattle.oct_pose.specs.Reach.{IsZero}
use Rattle.oct_script.specs.declared.command.ScanHead.{ScanHead}
use Rattle.oct_session.specs.ScanBlock.{is_zero}

zero_decides : (head : ScanHead)
    → Decides (is_zero head) (((head.w ≡ pos 0 × head.x ≡ pos 0) × head.y ≡ pos 0) × head.z ≡ pos 0)
zero_decides head =
    Decides-and (int_eq head.w (pos 0) && int_eq head.x (pos 0) && int_eq head.y (pos 0))
    (int_eq head.z (pos 0))
    (Decides-and (int_eq head.w (pos 0) && int_eq head.x (pos 0)) (int_eq head.y (pos 0))
    (Decides-and (int_eq head.w (pos 0)) (int_eq head.x (pos 0)) (Decides-int_eq head.w (pos 0))
    (Decides-int_eq head.x (pos 0))) (Decides-int_eq head.y (pos 0)))
    (Decides-int_eq head.z (pos 0))

untrue : (b : Bool) → b ≢ true → false ≡ b
untrue true never = absurd (never refl)
untrue false never = refl

-- a quaternion that turns isn't 0
pub not_zero : (head : ScanHead) (w x y z : ℤ) → ¬ IsZero w x y z → w ≡ head.w → x ≡ head.x
    → y ≡ head.y → z ≡ head.z → false ≡ is_zero head
not_zero head w x y z turns at_w at_x at_y at_z = untrue (is_zero head)
    (λ is. let zero = (zero_decides head).0 is in
    turns (at_w ∙ zero.0.0.0, at_x ∙ zero.0.0.1, at_y ∙ zero.0.1, at_z ∙ zero.1))
