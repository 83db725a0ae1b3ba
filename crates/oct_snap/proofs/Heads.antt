-- The fields before the nodes, piece by piece.
use Rattle.std.proofs.Common.{◌≡◌, ℕ, Option, Some, List, [], ◌∷◌, ◌++◌, sym, ◌∙◌, ap, append_assoc}
use Rattle.oct_key.specs.Voxel.{Voxel}
use Rattle.oct_key.specs.Boxes.{Window}
use Rattle.oct_snap.specs.Texts.{voxel_bytes, window_bytes}

pub five_put : (old n1 n2 n3 n4 n5 x1 x2 x3 x4 x5 y1 y2 y3 y4 y5 : List ℕ) → n1 ≡ old ++ x1
    → n2 ≡ n1 ++ x2 → n3 ≡ n2 ++ x3 → n4 ≡ n3 ++ x4
    → n5 ≡ n4 ++ x5 → x1 ≡ y1 → x2 ≡ y2 → x3 ≡ y3 → x4 ≡ y4 → x5 ≡ y5
    → n5 ≡ old ++ (y1 ++ (y2 ++ (y3 ++ (y4 ++ y5))))
five_put old n1 n2 n3 n4 n5 x1 x2 x3 x4 x5 y1 y2 y3 y4 y5 a b c d e p q r s t =
    rw (e, d, c, b, a, p, q, r, s, t)
    (append_assoc (((old ++ y1) ++ y2) ++ y3) y4 y5 ∙ append_assoc ((old ++ y1) ++ y2) y3 (y4 ++ y5)
    ∙ append_assoc (old ++ y1) y2 (y3 ++ (y4 ++ y5))
    ∙ append_assoc old y1 (y2 ++ (y3 ++ (y4 ++ y5))))

pub window_put : (old n1 n2 n3 : List ℕ) (lo hi : Voxel) (corners : Window)
    (window : Option Window) → n1 ≡ old ++ (1 ∷ []) → n2 ≡ n1 ++ voxel_bytes lo
    → n3 ≡ n2 ++ voxel_bytes hi → lo ≡ corners.lo → hi ≡ corners.hi → window ≡ Some corners
    → n3 ≡ old ++ window_bytes window
window_put old n1 n2 n3 lo hi corners window a b c low high is =
    c ∙ ap (λ (t : List ℕ). t ++ voxel_bytes hi) (b ∙ ap (λ (t : List ℕ). t ++ voxel_bytes lo) a)
    ∙ append_assoc (old ++ (1 ∷ [])) (voxel_bytes lo) (voxel_bytes hi)
    ∙ append_assoc old (1 ∷ []) (voxel_bytes lo ++ voxel_bytes hi)
    ∙ ap (λ (k : Voxel). old ++ (1 ∷ (voxel_bytes k ++ voxel_bytes hi))) low
    ∙ ap (λ (k : Voxel). old ++ (1 ∷ (voxel_bytes corners.lo ++ voxel_bytes k))) high
    ∙ ap (λ (w : Option Window). old ++ window_bytes w) (sym is)

pub head_put : (n0 n1 n2 n3 n4 m x r o w : List ℕ) → n0 ≡ [] → n1 ≡ n0 ++ m → n2 ≡ n1 ++ x
    → n3 ≡ n2 ++ o → n4 ≡ n3 ++ w → x ≡ r
    → n4 ≡ m ++ (r ++ (o ++ w))
head_put n0 n1 n2 n3 n4 m x r o w a b c d e f =
    rw (e, d, c, b, a, f) (append_assoc (m ++ r) o w ∙ append_assoc m r (o ++ w))
