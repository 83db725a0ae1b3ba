-- What a cast answers, voxel by voxel.
use Rattle.std.proofs.Common.{◌≡◌, Bool, true, false, List, [], ◌∷◌, Option, Some, None, refl, sym}
use Rattle.std.proofs.Common.{ap, ◌∙◌}
use Rattle.std.specs.Option.{unwrap_or}
use Rattle.oct_key.specs.Voxel.{Voxel}
use Rattle.oct_key.specs.Values.{Values}
use Rattle.oct_odds.specs.declared.event.Class.{Class}
use Rattle.oct_odds.specs.Odds.{Odds}
use Rattle.oct_odds.specs.Update.{Value, class_of}
use Rattle.oct_values.specs.Classes.{Classes, classes_of}
use Rattle.oct_cast.specs.declared.outcome.Cast.{Cast}
use Rattle.oct_cast.specs.declared.outcome.Cast.TheVariants.{Clear}
use Rattle.oct_cast.specs.Cast.{stops, stopped_at, cast_through}
use Rattle.oct_cast.specs.Way.{stop_at}

-- the first voxel stops it, or the others say
pub cast_first : (ignore : Bool) (classes : Classes) (k : Voxel) (ks : List Voxel)
    → cast_through ignore classes (k ∷ ks) ≡ unwrap_or (stop_at ignore (classes k) k)
    (cast_through ignore classes ks)
cast_first ignore classes k ks = by_test (stops ignore (classes k)) refl
  where
    by_test : (b : Bool) → stops ignore (classes k) ≡ b
        → cast_through ignore classes (k ∷ ks) ≡ unwrap_or (stop_at ignore (classes k) k)
        (cast_through ignore classes ks)
    by_test true e = rw e refl
    by_test false e = rw e refl

-- a voxel that doesn't stop it is passed
pub cast_passed : (ignore : Bool) (classes : Classes) (k : Voxel) (ks : List Voxel)
    → stops ignore (classes k) ≡ false
    → cast_through ignore classes (k ∷ ks) ≡ cast_through ignore classes ks
cast_passed ignore classes k ks e = rw e refl

-- where no voxel stops it, it is clear
pub cast_clear : (ignore : Bool) (classes : Classes) (ks : List Voxel) → ((k : Voxel)
    → stops ignore (classes k) ≡ false)
    → cast_through ignore classes ks ≡ Clear
cast_clear ignore classes [] none = refl
cast_clear ignore classes (k ∷ ks) none = cast_passed ignore classes k ks (none k)
    ∙ cast_clear ignore classes ks none

-- a voxel that stops nothing
pub none_stops : (ignore : Bool) (class : Class) (k : Voxel) → stop_at ignore class k ≡ None
    → stops ignore class ≡ false
none_stops ignore class k e = by_test (stops ignore class) refl
  where
    by_test : (b : Bool) → stops ignore class ≡ b → stops ignore class ≡ false
    by_test false h = h
    by_test true h = (let some : stop_at ignore class k ≡ Some (stopped_at class k) = rw h refl in
        absurd (clash (sym some ∙ e)))
      where
        clash : {x : Cast} → ◌≡◌ {A = Option Cast} (Some x) None → ⊥
        clash q = cc

-- the answer at the first voxel: that one stops it, or the others say
pub answer_first : (ignore : Bool) (classes : Classes) (k : Voxel) (ks walk : List Voxel)
    (found : Option Cast) → walk ≡ k ∷ ks → found ≡ stop_at ignore (classes k) k
    → unwrap_or found (cast_through ignore classes ks) ≡ cast_through ignore classes walk
answer_first ignore classes k ks walk found given told =
    ap (λ (o : Option Cast). unwrap_or o (cast_through ignore classes ks)) told
    ∙ sym (cast_first ignore classes k ks) ∙ ap (cast_through ignore classes) (sym given)

-- where all voxels have its value, none of the others stops it
pub answer_alike : (ignore : Bool) (odds : Odds) (values : Values) (k : Voxel)
    (ks walk : List Voxel) (value : Value) (found : Option Cast) → walk ≡ k ∷ ks
    → ((q : Voxel) → values q ≡ value) → found ≡ stop_at ignore (class_of odds value) k
    → unwrap_or found Clear ≡ cast_through ignore (classes_of odds values) walk
answer_alike ignore odds values k ks walk value found given alike told =
    by_found (stop_at ignore (class_of odds value) k) refl
  where
    whole : unwrap_or found (cast_through ignore (classes_of odds values) ks) ≡ cast_through ignore
        (classes_of odds values) walk
    whole = answer_first ignore (classes_of odds values) k ks walk found given
        (told ∙ ap (λ v. stop_at ignore (class_of odds v) k) (sym (alike k)))

    by_found : (o : Option Cast) → stop_at ignore (class_of odds value) k ≡ o
        → unwrap_or found Clear ≡ cast_through ignore (classes_of odds values) walk
    by_found (Some x) e =
        ap (λ (p : Option Cast). unwrap_or p Clear) (told ∙ e)
        ∙ sym (ap (λ (p : Option Cast). unwrap_or p
        (cast_through ignore (classes_of odds values) ks)) (told ∙ e)) ∙ whole
    by_found None e =
        (let pass : stops ignore (class_of odds value) ≡ false = none_stops ignore
        (class_of odds value) k e in
        let clear : cast_through ignore (classes_of odds values) ks ≡ Clear =
        cast_clear ignore (classes_of odds values) ks
        (λ q. ap (λ v. stops ignore (class_of odds v)) (alike q) ∙ pass) in
        ap (unwrap_or found) (sym clear) ∙ whole)
