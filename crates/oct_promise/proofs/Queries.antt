-- What a session answers to questions, in the words of blocks, segments and marks.
use Rattle.std.proofs.Common.{◌≡◌, ℕ, ◌<◌, ◌≤◌, List, Bool, true, false, cond, nat_lt}
use Rattle.std.proofs.Common.{◌&&◌, Option, Some, None, IsSome, Result, Ok, Err, inl, inr, refl}
use Rattle.std.proofs.Common.{sym, ap, subst, ◌∙◌, arith}
use Rattle.std.proofs.lemmas.Bool.{cases_lt, le-ltb, lt-ltb}
use Rattle.oct_cast.specs.Cast.{cast_along}
use Rattle.oct_cast.specs.declared.outcome.Cast.{Cast}
use Rattle.oct_cast.proofs.Firsts.{right_answer}
use Rattle.oct_change.specs.Changes.{changes_between}
use Rattle.oct_change.proofs.Exact.{right_changes}
use Rattle.oct_io.specs.Files.{Files}
use Rattle.oct_key.specs.Block.{Cube, IsBlock, HoldsVoxel, block_of}
use Rattle.oct_key.specs.Values.{Values}
use Rattle.oct_key.specs.Voxel.{Voxel, key_at}
use Rattle.oct_key.specs.declared.point.Point.{Point}
use Rattle.oct_key.proofs.Blocks.{only_block}
use Rattle.oct_key.proofs.Faces.{key_at-Holds}
use Rattle.oct_map.specs.Answers.{get_answer, get_answer_at, block_answer}
use Rattle.oct_map.specs.Casts.{cast_answer_at}
use Rattle.oct_map.specs.Marks.{changes_answer}
use Rattle.oct_map.specs.declared.fault.MapFault.{MapFault}
use Rattle.oct_map.specs.declared.fault.MapFault.TheVariants as fault
use Rattle.oct_odds.specs.Update.{Value}
use Rattle.oct_ray.specs.Met.{met_by}
use Rattle.oct_ray.proofs.ComputedAxes.{met_by_walks}
use Rattle.oct_script.specs.Lines.{Line}
use Rattle.oct_script.specs.declared.command.Command.TheVariants as command
use Rattle.oct_script.specs.declared.reply.Refusal.TheVariants as refusal
use Rattle.oct_script.specs.declared.reply.Reply.TheVariants.{Changed, Refused}
use Rattle.oct_values.specs.Classes.{Classes}
use Rattle.oct_values.specs.Depths.{depth_value}
use Rattle.oct_values.proofs.Largest.{answer_exactly}
use Rattle.oct_session.specs.Commands.{get_reply, cast_reply, changes_reply, value_reply}
use Rattle.oct_session.specs.History.{State, state_after}
use Rattle.oct_session.specs.Session.{Progress, Effect, effect_of, progress}
use Rattle.oct_session.specs.Setup.{Setup}
use Rattle.oct_promise.specs.Lines.{IsLine, classes_in, state_behind}
use Rattle.oct_promise.specs.Promise.{GetsGreatest, NeedsRefresh, CastsFirst, TellsChanges}
use Rattle.oct_promise.specs.Promise.{NeedsMark}
use Rattle.oct_promise.specs.States.{IsSetUp}
use Rattle.oct_promise.proofs.GivenBack.{effect_next}
use Rattle.oct_promise.proofs.MarksLive.{stale_exactly, fresh, marked_then, unmarked}
use Rattle.oct_promise.proofs.StateCommands.{res_of}
use Rattle.oct_promise.proofs.Telling.{next_line, line_replied}

-- ---- blocks

-- a block of a depth of the map is asked, unless it lies above a voxel and inner values may be out
-- of date
asked : (is_stale : Bool) (depth : ℕ) → (depth < 16 → is_stale ≡ false)
    → (is_stale && nat_lt depth 16) ≡ false
asked false depth holds = refl
asked true depth holds = elim (cases_lt depth 16) [
  | inl above ↦ absurd (let never : true ≡ false = holds above in let h : ⊥ = cc in h)
  | inr there ↦ le-ltb depth 16 there
]

found_at : (is_stale : Bool) (s : State) (depth : ℕ) (k : Voxel) → depth ≤ 16
    → (is_stale && nat_lt depth 16) ≡ false
    → block_answer is_stale s.values depth k ≡ Ok (depth_value s.values (block_of depth k))
found_at is_stale s depth k few asks =
    ap (λ b. cond {A = Result Value MapFault} b (Err fault.BadDepth)
    (cond {A = Result Value MapFault} (is_stale && nat_lt depth 16) (Err fault.Stale)
    (Ok (depth_value s.values (block_of depth k))))) (le-ltb 16 depth few)
    ∙ ap (λ b. cond {A = Result Value MapFault} b (Err fault.Stale)
    (Ok (depth_value s.values (block_of depth k)))) asks

found_in_block : (s : State) (p : Point) (depth : ℕ) (k : Voxel) (b : Cube)
    → key_at s.base.res p ≡ Some k → IsBlock b → b.depth ≡ depth → HoldsVoxel b k
    → (depth < 16 → s.is_stale ≡ false)
    → get_answer s.base s.is_stale s.values p depth ≡ Ok (depth_value s.values b)
found_in_block s p depth k b key ok at held still =
    let few : depth ≤ 16 = subst (λ d. d ≤ 16) at ok.depth in
    ap (get_answer_at s.is_stale s.values depth) key
    ∙ found_at s.is_stale s depth k few (asked s.is_stale depth still)
    ∙ ap (λ c. Ok (depth_value s.values c)) (sym (only_block depth k b at held))

-- `get` answers the greatest value of a block
pub gets_greatest : (o : Setup) → IsSetUp o → (files : Option Files) (bytes : List ℕ)
    (before : List Line) (line : Line) (p : Point) (depth : ℕ)
    → IsLine o files bytes before line None (Ok (command.Get p depth))
    → GetsGreatest o files bytes before p depth
gets_greatest o set files bytes before line p depth is k b low holds ok at held never =
    let r : Progress = progress o files before in
    let s : State = state_after o r.history in
    let key : key_at s.base.res p ≡ Some k =
    subst (λ n. key_at n p ≡ Some k) (sym (res_of o r.history))
    (key_at-Holds o.res p k (let least = set.res.0 in omega (arith, least)) low holds) in
    let found = found_in_block s p depth k b key ok at held
    (λ above. fresh o files before (never above)) in
    let replied : (effect_of o r line).reply
    ≡ Some (value_reply s.base.odds (depth_value s.values b)) =
    ap (λ (e : Effect). e.reply) (effect_next o r line (command.Get p depth)
    (next_line o files bytes before line (command.Get p depth) is))
    ∙ ap (get_reply s.base.odds) found in (
      depth_value s.values b,
      (answer_exactly s.values b (depth_value s.values b) ok).1 refl,
      line_replied o files bytes before line None (Ok (command.Get p depth))
          (value_reply s.base.odds (depth_value s.values b)) is replied,
    )

-- the inner values of a stale map aren't asked
stale_block : (b : Bool) (values : Values) (depth : ℕ) (k : Voxel) → b ≡ true → depth < 16
    → block_answer b values depth k ≡ Err fault.Stale
stale_block b values depth k is above =
    ap (λ x. cond {A = Result Value MapFault} x (Err fault.BadDepth)
    (cond {A = Result Value MapFault} (b && nat_lt depth 16) (Err fault.Stale)
    (Ok (depth_value values (block_of depth k))))) (le-ltb 16 depth (omega (arith, above)))
    ∙ ap (λ x. cond {A = Result Value MapFault} x (Err fault.Stale)
    (Ok (depth_value values (block_of depth k))))
    (ap (λ x. x && nat_lt depth 16) is ∙ lt-ltb depth 16 above)

pub needs_refresh : (o : Setup) → IsSetUp o → (files : Option Files) (bytes : List ℕ)
    (before : List Line) (line : Line) (p : Point) (depth : ℕ)
    → IsLine o files bytes before line None (Ok (command.Get p depth))
    → NeedsRefresh o files bytes before p depth
needs_refresh o set files bytes before line p depth is k low holds above left =
    let r : Progress = progress o files before in
    let s : State = state_after o r.history in
    let key : key_at s.base.res p ≡ Some k =
    subst (λ n. key_at n p ≡ Some k) (sym (res_of o r.history))
    (key_at-Holds o.res p k (let least = set.res.0 in omega (arith, least)) low holds) in
    let answer : get_answer s.base s.is_stale s.values p depth ≡ Err fault.Stale =
    ap (get_answer_at s.is_stale s.values depth) key
    ∙ stale_block s.is_stale s.values depth k ((stale_exactly o files before).1 left) above in
    let replied : (effect_of o r line).reply ≡ Some (Refused refusal.Stale) =
    ap (λ (e : Effect). e.reply) (effect_next o r line (command.Get p depth)
    (next_line o files bytes before line (command.Get p depth) is))
    ∙ ap (get_reply s.base.odds) answer in
    line_replied o files bytes before line None (Ok (command.Get p depth)) _ is replied

-- ---- casts

between_voxels : (a b : Option Voxel) (c : Cast) → IsSome a → IsSome b
    → cast_answer_at a b c ≡ Ok c
between_voxels None b c first last = cc
between_voxels (Some k) None c first last = cc
between_voxels (Some k) (Some l) c first last = refl

-- `cast` answers the first voxel that stops it
pub casts_first : (o : Setup) → IsSetUp o → (files : Option Files) (bytes : List ℕ)
    (before : List Line) (line : Line) (from to : Point) (ignore : Bool)
    → IsLine o files bytes before line None (Ok (command.Cast from to ignore))
    → CastsFirst o files bytes before from to ignore
casts_first o set files bytes before line from to ignore is first last =
    let r : Progress = progress o files before in
    let s : State = state_after o r.history in
    let found : Cast = cast_along o.res from to ignore (classes_in s) in
    let replied : (effect_of o r line).reply ≡ cast_reply (Ok found) =
    ap (λ (e : Effect). e.reply) (effect_next o r line (command.Cast from to ignore)
    (next_line o files bytes before line (command.Cast from to ignore) is))
    ∙ ap (λ n. cast_reply (cast_answer_at (key_at n from) (key_at n to)
    (cast_along n from to ignore (classes_in s)))) (res_of o r.history)
    ∙ ap cast_reply (between_voxels (key_at o.res from) (key_at o.res to) found first last) in (
      found,
      right_answer o.res from to ignore (classes_in s) (met_by o.res from to)
          (met_by_walks o.res from to set.res first last),
      line_replied o files bytes before line None (Ok (command.Cast from to ignore)) _ is replied,
    )

-- ---- changes

-- `changes` answers how classes differ from those at the mark
pub changes_told : (o : Setup) (files : Option Files) (bytes : List ℕ) (before : List Line)
    (line : Line) → IsLine o files bytes before line None (Ok command.Changes)
    → TellsChanges o files bytes before
changes_told o files bytes before line is early since =
    let r : Progress = progress o files before in
    let then : State = state_behind o files early in
    let s : State = state_after o r.history in
    let replied : (effect_of o r line).reply
    ≡ Some (Changed (changes_between (classes_in then) (classes_in s))) =
    ap (λ (e : Effect). e.reply) (effect_next o r line command.Changes
    (next_line o files bytes before line command.Changes is))
    ∙ ap (λ (m : Option Classes). changes_reply (changes_answer m (classes_in s)))
    (marked_then o files before early since) in (
      changes_between (classes_in then) (classes_in s),
      right_changes (classes_in then) (classes_in s),
      line_replied o files bytes before line None (Ok command.Changes) _ is replied,
    )

-- and is refused where there is none
pub needs_mark : (o : Setup) (files : Option Files) (bytes : List ℕ) (before : List Line)
    (line : Line) → IsLine o files bytes before line None (Ok command.Changes)
    → NeedsMark o files bytes before
needs_mark o files bytes before line is never =
    let r : Progress = progress o files before in
    let s : State = state_after o r.history in
    let replied : (effect_of o r line).reply ≡ Some (Refused refusal.NotTracked) =
    ap (λ (e : Effect). e.reply) (effect_next o r line command.Changes
    (next_line o files bytes before line command.Changes is))
    ∙ ap (λ (m : Option Classes). changes_reply (changes_answer m (classes_in s)))
    (unmarked o files before never) in
    line_replied o files bytes before line None (Ok command.Changes) _ is replied
