-- The length of a node, from those of its children.
use Rattle.std.proofs.Common.{◌≡◌, ℕ, ◌+◌, ◌-◌, ◌<◌, Bool, true, false, None, length, refl}
use Rattle.std.proofs.Common.{sym, ◌∙◌, ap, arith}
use Rattle.std.specs.Prelude.{not, ◌&&◌, ◌↔◌, IsTrue, is_some}
use Rattle.std.proofs.lemmas.Bool.{false≢true}
use Rattle.oct_key.specs.Values.{Values}
use Rattle.oct_key.specs.Block.{Cube, child_of}
use Rattle.oct_key.proofs.Blocks.{child_in_map}
use Rattle.oct_odds.specs.Update.{Value}
use Rattle.oct_snap.specs.declared.common.Common.{Common as Shared}
use Rattle.oct_snap.specs.declared.common.Common.TheVariants.{Value as OfValue, Several}
use Rattle.oct_snap.specs.Common.{value_of_common}
use Rattle.oct_snap.specs.Texts.{common_value, node_text}
use Rattle.oct_snap.proofs.Places.{IsAbove}
use Rattle.oct_snap.proofs.Commons.{common_first, common_next, common_other, several_up}
use Rattle.oct_snap.proofs.Writes.{child_text, node_of_one}

-- the first n children have the one value of the first, or else the block has several
pub record IsAlikeSoFar (values : Values) (b : Cube) (first : Shared) (alike : Bool) (n : ℕ)
    : Type 0 where
  pub one : alike ≡ true → first ≡ Several → ⊥
  pub same : alike ≡ true → (j : ℕ) → j < n
      → common_value values (child_of b j) ≡ value_of_common first
  pub several : alike ≡ false → None ≡ common_value values b

-- the first child alone
pub alike_first : (values : Values) (d : ℕ) (b : Cube) (first : Shared) (is_several : Bool)
    → IsAbove d b → value_of_common first ≡ common_value values (child_of b 0)
    → IsTrue is_several ↔ (first ≡ Several)
    → IsAlikeSoFar values b first (not is_several) 1
alike_first values d b first true a is tells = record {
  one = λ h. absurd (false≢true h);
  same = λ h. absurd (false≢true h);
  several = λ h. sym (several_up values b 0 a.ok a.low (omega arith)
      (sym is ∙ ap value_of_common (tells.0 refl)));
}
alike_first values d b first false a is tells = record {
  one = λ h several. false≢true (tells.1 several);
  same = λ h. common_first values b first is;
  several = λ h. absurd (false≢true (sym h));
}

-- and one child more
pub alike_next : (values : Values) (d : ℕ) (b : Cube) (first child : Shared) (alike is_same : Bool)
    (n : ℕ) → IsAbove d b → 0 < n → n < 8 → IsAlikeSoFar values b first alike n
    → value_of_common child ≡ common_value values (child_of b n)
    → IsTrue is_same ↔ (child ≡ first)
    → IsAlikeSoFar values b first (alike && is_same) (n + 1)
alike_next values d b first child false is_same n a some few before is tells = record {
  one = λ h. absurd (false≢true h);
  same = λ h. absurd (false≢true h);
  several = before.several;
}
alike_next values d b first child true true n a some few before is tells = record {
  one = before.one;
  same = λ h. common_next values b first n (before.same refl)
      (sym is ∙ ap value_of_common (tells.0 refl));
  several = λ h. absurd (false≢true (sym h));
}
alike_next values d b first child true false n a some few before is tells = record {
  one = λ h. absurd (false≢true h);
  same = λ h. absurd (false≢true h);
  several = λ h. common_other values b first child n a.ok a.low some few (before.same refl) is
      (λ same. false≢true (tells.1 same));
}

-- where all children are alike, the node is as long as that of the first
pub length_alike : (values : Values) (d : ℕ) (b : Cube) (first : Shared) (n : ℕ) → IsAbove d b
    → (first ≡ Several → ⊥) → value_of_common first ≡ common_value values b
    → value_of_common first ≡ common_value values (child_of b 0)
    → n ≡ length (child_text values d b 0) → n ≡ length (node_text (16 - d) values b)
length_alike values d b (OfValue v) n a one whole first is =
    is ∙ ap length (node_of_one (16 - (d + 1)) values (child_of b 0) v
    (child_in_map b 0 a.ok a.low) first ∙ sym (node_of_one (16 - d) values b v a.ok whole))
length_alike values d b Several n a one whole first is = absurd (one refl)

-- several values aren't one
pub not_one : (v : Value) → Several ≡ OfValue v → ⊥
not_one v is = false≢true (ap is_some (ap value_of_common is))
