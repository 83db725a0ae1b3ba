-- Nodes in a row, and their text.
use Rattle.std.proofs.Common.{◌≡◌, ℕ, zero, suc, ◌+◌, ◌++◌, refl, ◌∙◌, ap, arith, append_assoc}
use Rattle.std.specs.Prelude.{Bool, true, false, ◌&&◌}
use Rattle.oct_odds.specs.Odds.{Odds}
use Rattle.oct_odds.specs.Update.{Value}
use Rattle.oct_values.specs.Counts.{is_same_value}
use Rattle.oct_snap.specs.Nodes.{Nodes, End, Whole, Parted, joined, whole_text, text_of, are_all}
use Rattle.oct_snap.specs.Nodes.{AreNodes, group_total}

pub joined_end : (a : Nodes) → joined a End ≡ a
unfolding joined
joined_end End = refl
joined_end (Whole v a) = ap (Whole v) (joined_end a)
joined_end (Parted i a) = ap (Parted i) (joined_end a)

pub joined_assoc : (a b c : Nodes) → joined (joined a b) c ≡ joined a (joined b c)
unfolding joined
joined_assoc End b c = refl
joined_assoc (Whole v a) b c = ap (Whole v) (joined_assoc a b c)
joined_assoc (Parted i a) b c = ap (Parted i) (joined_assoc a b c)

pub text_joined : (a b : Nodes) → text_of (joined a b) ≡ text_of a ++ text_of b
unfolding joined text_of
text_joined End b = refl
text_joined (Whole v a) b =
    rw (text_joined a b, append_assoc (whole_text v) (text_of a) (text_of b)) refl
text_joined (Parted i a) b =
    rw (text_joined a b, append_assoc (text_of i) (text_of a) (text_of b)) refl

pub total_joined : (a b : Nodes) → group_total (joined a b) ≡ group_total a + group_total b
unfolding joined group_total
total_joined End b = omega arith
total_joined (Whole v a) b = total_joined a b
total_joined (Parted i a) b = (let h = total_joined a b in omega (arith, h))

-- a node before others
pub one_joined : (o : Odds) (h n : ℕ) (a b : Nodes) → AreNodes o h 1 a → AreNodes o h n b
    → AreNodes o h (suc n) (joined a b)
unfolding joined
one_joined o h n End b x y = absurd x
one_joined o h n (Whole v End) b (within, x) y = (within, y)
one_joined o h n (Whole v (Whole w a)) b (within, x) y = absurd x
one_joined o zero n (Whole v (Parted i a)) b (within, x) y = absurd x
one_joined o (suc h) n (Whole v (Parted i a)) b (within, x) y = absurd x
one_joined o zero n (Parted i a) b x y = absurd x
one_joined o (suc h) n (Parted i End) b (inner, varied, x) y = (inner, varied, y)
one_joined o (suc h) n (Parted i (Whole w a)) b (inner, varied, x) y = absurd x
one_joined o (suc h) n (Parted i (Parted j a)) b (inner, varied, x) y = absurd x

and_assoc : (a b c : Bool) → (a && (b && c)) ≡ ((a && b) && c)
and_assoc true b c = refl
and_assoc false b c = refl

pub all_joined : (v : Value) (a b : Nodes) → are_all v (joined a b) ≡ (are_all v a && are_all v b)
unfolding joined are_all
all_joined v End b = refl
all_joined v (Whole w a) b = ap (λ x. is_same_value v w && x) (all_joined v a b)
    ∙ and_assoc (is_same_value v w) (are_all v a) (are_all v b)
all_joined v (Parted i a) b = refl
