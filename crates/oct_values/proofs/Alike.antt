-- Blocks whose voxels have one answer, in words of voxels.
use Rattle.std.proofs.Common.{◌≡◌, ◌↔◌, Bool, true, false, Option, Some, None, refl, sym, ◌∙◌, ap}
use Rattle.std.proofs.Common.{cond}
use Rattle.std.specs.Prelude.{IsTrue, is_some}
use Rattle.std.proofs.lemmas.Bool.{false≢true}
use Rattle.oct_key.specs.Voxel.{Voxel, IsInMap}
use Rattle.oct_key.specs.Block.{Cube, IsBlock, HoldsVoxel, lowest_voxel}
use Rattle.oct_key.proofs.Blocks.{lowest_held}
use Rattle.oct_key.proofs.Held.{held_in_map, only_voxel}
use Rattle.oct_odds.specs.declared.event.Class.{Class}
use Rattle.oct_odds.specs.declared.event.Class.TheVariants.{Unknown, Free, Occupied}
use Rattle.oct_values.specs.Classes.{is_same_class}
use Rattle.oct_values.specs.Uniform.{IsUniform, is_uniform_by, uniform_answer}
use Rattle.oct_values.proofs.Equality.{IsEquality}
use Rattle.oct_values.proofs.Held.{all_pass, each_passes}

-- the test for uniform blocks tells them
pub uniform_by_exactly : {A : Type 0} (same : A → A → Bool) (answers : Voxel → A) (b : Cube)
    → IsEquality same → IsBlock b
    → IsTrue (is_uniform_by same answers b) ↔ IsUniform answers b
unfolding is_uniform_by
uniform_by_exactly same answers b equal ok =
    let to : IsTrue (is_uniform_by same answers b) → IsUniform answers b = λ h j k held_j held_k.
    (let like = λ (q : Voxel) (held : HoldsVoxel b q).
    (equal (answers q) (answers (lowest_voxel b))).0
    (each_passes (λ k. same (answers k) (answers (lowest_voxel b))) b ok h q held) in
    like j held_j ∙ sym (like k held_k)) in
    let from : IsUniform answers b → IsTrue (is_uniform_by same answers b) = λ h.
    all_pass (λ k. same (answers k) (answers (lowest_voxel b))) b ok
    (λ k held. (equal (answers k) (answers (lowest_voxel b))).1
    (h k (lowest_voxel b) held (lowest_held b))) in
    (to, from)

-- the answer of a block whose voxels all have this one
pub answer_of_all : {A : Type 0} (same : A → A → Bool) (answers : Voxel → A) (b : Cube) (x : A)
    → IsEquality same → IsBlock b
    → ((k : Voxel) → HoldsVoxel b k → answers k ≡ x) → uniform_answer same answers b ≡ Some x
unfolding uniform_answer
answer_of_all same answers b x equal ok h =
    let one : is_uniform_by same answers b ≡ true =
    (uniform_by_exactly same answers b equal ok).1
    (λ j k held_j held_k. h j held_j ∙ sym (h k held_k)) in
    rw one (ap Some (h (lowest_voxel b) (lowest_held b)))

-- the other way
pub answer_of_each : {A : Type 0} (same : A → A → Bool) (answers : Voxel → A) (b : Cube) (x : A)
    (k : Voxel)
    → IsEquality same → IsBlock b
    → uniform_answer same answers b ≡ Some x → HoldsVoxel b k → answers k ≡ x
unfolding uniform_answer
answer_of_each {A} same answers b x k equal ok h held =
    by_test (is_uniform_by same answers b) refl h
  where
    some_is : Option A → A → A
    some_is None y = y
    some_is (Some z) y = z

    by_test : (one : Bool) → is_uniform_by same answers b ≡ one
        → cond (is_uniform_by same answers b) (Some (answers (lowest_voxel b))) None ≡ Some x
        → answers k ≡ x
    by_test true e at =
        (let here : cond {A = Option A} true (Some (answers (lowest_voxel b))) None
        ≡ Some x = rw e at at in
        (uniform_by_exactly same answers b equal ok).0 e k (lowest_voxel b) held (lowest_held b)
        ∙ ap (λ o. some_is o x) here)
    by_test false e at =
        (let here : cond {A = Option A} false (Some (answers (lowest_voxel b))) None
        ≡ Some x = rw e at at in
        absurd (false≢true (ap is_some here)))

-- answers that agree in the map make the same of a block
pub same_uniform_answer : {A : Type 0} (same : A → A → Bool) (f g : Voxel → A) (b : Cube)
    → IsEquality same → IsBlock b
    → ((k : Voxel) → IsInMap k → f k ≡ g k) → uniform_answer same f b ≡ uniform_answer same g b
same_uniform_answer {A} same f g b equal ok agree =
    by_answer (uniform_answer same f b) (uniform_answer same g b) refl refl
  where
    by_answer : (one two : Option A) → uniform_answer same f b ≡ one → uniform_answer same g b ≡ two
        → uniform_answer same f b ≡ uniform_answer same g b
    by_answer (Some x) two is_x is_two =
        is_x
        ∙ sym (answer_of_all same g b x equal ok
        (λ k held. sym (agree k (held_in_map b k ok held))
        ∙ answer_of_each same f b x k equal ok is_x held))
    by_answer None (Some y) is_x is_y =
        answer_of_all same f b y equal ok
        (λ k held. agree k (held_in_map b k ok held)
        ∙ answer_of_each same g b y k equal ok is_y held)
        ∙ sym is_y
    by_answer None None is_x is_y = is_x ∙ sym is_y

-- a voxel has one answer
pub answer_of_voxel : {A : Type 0} (same : A → A → Bool) (answers : Voxel → A) (b : Cube)
    → IsEquality same → b.depth ≡ 16 → IsBlock b
    → uniform_answer same answers b ≡ Some (answers (lowest_voxel b))
answer_of_voxel same answers b equal e ok =
    answer_of_all same answers b (answers (lowest_voxel b)) equal ok
    (λ k held. ap answers (only_voxel b k e held))

-- a class passes the test with itself, and with no other
pub is_same_class_refl : (c : Class) → is_same_class c c ≡ true
is_same_class_refl Unknown = refl
is_same_class_refl Free = refl
is_same_class_refl Occupied = refl

pub is_same_class_exact : (c e : Class) → is_same_class c e ≡ true → c ≡ e
is_same_class_exact Unknown Unknown h = refl
is_same_class_exact Unknown Free h = absurd (false≢true h)
is_same_class_exact Unknown Occupied h = absurd (false≢true h)
is_same_class_exact Free Unknown h = absurd (false≢true h)
is_same_class_exact Free Free h = refl
is_same_class_exact Free Occupied h = absurd (false≢true h)
is_same_class_exact Occupied Unknown h = absurd (false≢true h)
is_same_class_exact Occupied Free h = absurd (false≢true h)
is_same_class_exact Occupied Occupied h = refl

pub same_class_equality : IsEquality is_same_class
same_class_equality c e = (is_same_class_exact c e, λ is. rw is (is_same_class_refl e))
