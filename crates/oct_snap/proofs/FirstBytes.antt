-- A node that was read, by its first byte.
use Rattle.std.proofs.Common.{◌≡◌, ℕ, zero, suc, ◌+◌, ◌-◌, ◌<◌, ◌≤◌, Some, None, List, [], ◌∷◌}
use Rattle.std.proofs.Common.{length, drop, inl, inr, refl, sym, subst, ◌∙◌, ap, arith, cond}
use Rattle.std.specs.Prelude.{Bool, true, false, slice_index, Result, Ok, Err}
use Rattle.std.proofs.lemmas.Bool.{cases_lt}
use Rattle.oct_odds.specs.Odds.{Odds}
use Rattle.oct_odds.specs.Update.{IsWithin}
use Rattle.oct_snap.specs.declared.fault.SnapFault.{SnapFault}
use Rattle.oct_snap.specs.declared.fault.SnapFault.TheVariants.{Truncated, BadSnapshot}
use Rattle.oct_snap.specs.Nodes.{End, Whole, Parted, are_alike}
use Rattle.oct_snap.specs.Reading.{Found, found, number_at, is_within, value_node, parted_node}
use Rattle.oct_snap.specs.Reading.{read_row, read_node}
use Rattle.oct_snap.proofs.Drops.{drop_at, drop_end}
use Rattle.oct_snap.proofs.Exact.{ok_is, err_not_ok, within_test}
use Rattle.oct_snap.proofs.Checks.{few_bytes, drop_length, value_at_place}

no_bytes : (o : Odds) (h at : ℕ) → read_node o h at [] ≡ Err (Truncated at)
unfolding read_node
no_bytes o zero at = refl
no_bytes o (suc h) at = refl

-- the node has a byte
pub node_inside : (o : Odds) (h at : ℕ) (bytes : List ℕ) (f : Found)
    → read_node o h at (drop at bytes) ≡ Ok f → at < length bytes
node_inside o h at bytes f is = elim (cases_lt at (length bytes)) [
  | inl less ↦ less
  | inr more ↦ absurd
      (err_not_ok _ f (sym (no_bytes o h at)
      ∙ ap (read_node o h at) (sym (drop_end bytes at (omega (arith, more)))) ∙ is))
]

by_byte : (o : Odds) (h at byte : ℕ) (bytes : List ℕ) → at < length bytes → slice_index bytes at
    ≡ byte
    → read_node o h at (drop at bytes) ≡ read_node o h at (byte ∷ drop (at + 1) bytes)
by_byte o h at byte bytes inside is = ap (read_node o h at) (drop_at bytes at (at + 1) refl inside)
    ∙ ap (λ (b : ℕ). read_node o h at (b ∷ drop (at + 1) bytes)) is

zero_first : (o : Odds) (h at : ℕ) (rest : List ℕ) → read_node o h at (0 ∷ rest)
    ≡ Ok (found (Whole None End) (at + 1) rest)
unfolding read_node
zero_first o zero at rest = refl
zero_first o (suc h) at rest = refl

one_first : (o : Odds) (h at : ℕ) (rest : List ℕ) → read_node o h at (1 ∷ rest)
    ≡ value_node o at rest
unfolding read_node
one_first o zero at rest = refl
one_first o (suc h) at rest = refl

-- that of an unknown block
pub unknown_node : (o : Odds) (h at : ℕ) (bytes : List ℕ) (f : Found) → slice_index bytes at ≡ 0
    → read_node o h at (drop at bytes) ≡ Ok f
    → found (Whole None End) (at + 1) (drop (at + 1) bytes) ≡ f
unknown_node o h at bytes f first is =
    let inside = node_inside o h at bytes f is in
    ok_is _ f (sym (zero_first o h at (drop (at + 1) bytes))
    ∙ sym (by_byte o h at 0 bytes inside first) ∙ is)

-- that of a value
pub record IsValueNode (o : Odds) (bytes : List ℕ) (at : ℕ) (f : Found) : Type 0 where
  pub inside : at + 5 ≤ length bytes
  pub within : IsWithin o (Some (number_at bytes (at + 1)))
  pub is : found (Whole (Some (number_at bytes (at + 1))) End) (at + 5) (drop (at + 5) bytes) ≡ f

pub value_of_node : (o : Odds) (h at : ℕ) (bytes : List ℕ) (f : Found) → slice_index bytes at ≡ 1
    → read_node o h at (drop at bytes) ≡ Ok f
    → IsValueNode o bytes at f
value_of_node o h at bytes f first is = elim (cases_lt (length bytes) (at + 5)) [
  | inl few ↦ absurd
      (err_not_ok _ f (sym (few_bytes o at (drop (at + 1) bytes) (omega (arith, few, long, inside)))
      ∙ value))
  | inr many ↦ by (is_within o (number_at bytes (at + 1))) refl (omega (arith, many))
]
  where
    inside : at < length bytes
    inside = node_inside o h at bytes f is

    long : at + 1 + length (drop (at + 1) bytes) ≡ length bytes
    long = drop_length bytes (at + 1) (omega (arith, inside))

    value : value_node o at (drop (at + 1) bytes) ≡ Ok f
    value = sym (one_first o h at (drop (at + 1) bytes)) ∙ sym (by_byte o h at 1 bytes inside first)
        ∙ is

    by : (within : Bool) → is_within o (number_at bytes (at + 1)) ≡ within → at + 5 ≤ length bytes
        → IsValueNode o bytes at f
    by false e many =
        absurd (err_not_ok _ f
        (sym (value_at_place o bytes at (number_at bytes (at + 1)) false many refl e) ∙ value))
    by true e many = record {
      inside = many;
      within = within_test o (number_at bytes (at + 1)) e;
      is = ok_is _ f (sym (value_at_place o bytes at (number_at bytes (at + 1)) true many refl e)
          ∙ value);
    }

-- that of eight others
pub record IsPartedNode (o : Odds) (d : ℕ) (bytes : List ℕ) (at : ℕ) (f : Found) : Type 0 where
  pub low : d < 16
  pub eight : Found
  pub read : read_row (read_node o (16 - (d + 1))) 8 (found End (at + 1) (drop (at + 1) bytes))
      ≡ Ok eight
  pub varied : are_alike eight.nodes ≡ false
  pub is : found (Parted eight.nodes End) eight.at eight.rest ≡ f

parted_of_eight : (o : Odds) (d h at : ℕ) (bytes : List ℕ) (f : Found) → 16 - d ≡ suc h
    → parted_node at (read_row (read_node o h) 8 (found End (at + 1) (drop (at + 1) bytes))) ≡ Ok f
    → IsPartedNode o d bytes at f
parted_of_eight o d h at bytes f deep is =
    by (read_row (read_node o h) 8 (found End (at + 1) (drop (at + 1) bytes))) refl is
  where
    below : h ≡ 16 - (d + 1)
    below = omega (arith, deep)

    by_kind : (g : Found) → read_row (read_node o h) 8 (found End (at + 1) (drop (at + 1) bytes))
        ≡ Ok g → (alike : Bool)
        → are_alike g.nodes ≡ alike
        → cond {A = Result Found SnapFault} alike (Err (BadSnapshot at))
        (Ok (found (Parted g.nodes End) g.at g.rest)) ≡ Ok f
        → IsPartedNode o d bytes at f
    by_kind g read true e is = absurd (err_not_ok _ f is)
    by_kind g read false e is = record {
      low = omega (arith, deep);
      eight = g;
      read = subst (λ (h : ℕ). read_row (read_node o h) 8 (found End (at + 1) (drop (at + 1) bytes))
          ≡ Ok g) below read;
      varied = e;
      is = ok_is _ f is;
    }

    by : (r : Result Found SnapFault)
        → read_row (read_node o h) 8 (found End (at + 1) (drop (at + 1) bytes)) ≡ r
        → parted_node at r ≡ Ok f → IsPartedNode o d bytes at f
    by (Err fault) e is = absurd (err_not_ok fault f is)
    by (Ok g) e is = by_kind g e (are_alike g.nodes) refl is

pub parted_of_node : (o : Odds) (d at : ℕ) (bytes : List ℕ) (f : Found)
    → (slice_index bytes at ≡ 0 → ⊥) → (slice_index bytes at ≡ 1 → ⊥)
    → read_node o (16 - d) at (drop at bytes) ≡ Ok f → IsPartedNode o d bytes at f
unfolding read_node
parted_of_node o d at bytes f some more is =
    by (16 - d) (slice_index bytes at) refl some more
    (sym (by_byte o (16 - d) at (slice_index bytes at) bytes
    (node_inside o (16 - d) at bytes f is) refl) ∙ is)
  where
    by : (h byte : ℕ) → 16 - d ≡ h → (byte ≡ 0 → ⊥) → (byte ≡ 1 → ⊥)
        → read_node o h at (byte ∷ drop (at + 1) bytes) ≡ Ok f
        → IsPartedNode o d bytes at f
    by h zero deep some more is = absurd (some refl)
    by h (suc zero) deep some more is = absurd (more refl)
    by zero (suc (suc zero)) deep some more is = absurd (err_not_ok _ f is)
    by (suc h) (suc (suc zero)) deep some more is = parted_of_eight o d h at bytes f deep is
    by zero (suc (suc (suc n))) deep some more is = absurd (err_not_ok _ f is)
    by (suc h) (suc (suc (suc n))) deep some more is = absurd (err_not_ok _ f is)
