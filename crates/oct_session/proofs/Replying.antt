-- What a command or a scan answers, and what the map then stands for.
use Rattle.std.specs.Prelude.{⊤, List}
use Rattle.std.proofs.Common.{◌≡◌, ◌≢◌, ℕ, ℤ, [], ◌||◌, ◌&&◌, nat_lt, Bool, true, false, cond}
use Rattle.std.proofs.Common.{IsTrue, IsSome, Option, Some, None, Result, Ok, Err, IfOk, IfErr}
use Rattle.std.proofs.Common.{OnOk, OnErr, inl, inr, refl, sym, ap, subst, ◌∙◌, ◌∷◌, is_some}
use Rattle.std.proofs.Math.Bool.{or-false}
use Rattle.oct_key.specs.declared.point.Point.{Point}
use Rattle.oct_odds.specs.declared.event.Event.{Event}
use Rattle.oct_odds.specs.Update.{Value}
use Rattle.oct_map.specs.Answers.{edit_answer, scan_answer, get_answer, get_answer_at, block_answer}
use Rattle.oct_map.specs.Answers.{IsAnswerOrMemory, box_answer, limit_answer}
use Rattle.oct_cast.specs.declared.outcome.Cast.{Cast}
use Rattle.oct_cast.specs.Cast.{cast_along}
use Rattle.oct_map.specs.Casts.{cast_answer, cast_answer_at}
use Rattle.oct_values.specs.Classes.{classes_of}
use Rattle.oct_map.specs.Ground.{Ground}
use Rattle.oct_map.specs.Map.{Map, ground_of, values_of}
use Rattle.oct_map.specs.Edits.{IsMapEdited, IsMapRefused, outcome_in}
use Rattle.oct_map.specs.Outcome.{corner_events, corner_box}
use Rattle.oct_map.specs.Lists.{list_answer}
use Rattle.oct_map.specs.Marks.{marked_of, classes_in, changes_answer}
use Rattle.oct_change.specs.declared.kind.Change.{Change}
use Rattle.oct_query.specs.Shown.{Shown}
use Rattle.oct_map.specs.declared.fault.MapFault.{MapFault}
use Rattle.oct_map.specs.declared.fault.MapFault.TheVariants as fault
use Rattle.oct_map.specs.declared.done.ScanDone.{ScanDone}
use Rattle.oct_query.specs.declared.totals.Counts.{Counts}
use Rattle.oct_key.specs.Block.{block_of}
use Rattle.oct_key.specs.Values.{Values, SameValues}
use Rattle.oct_key.specs.Voxel.{Voxel, key_at}
use Rattle.oct_scan.specs.Beam.{Sighting}
use Rattle.oct_tree.specs.Shape.{IsPruned}
use Rattle.oct_values.specs.Counts.{group_count, node_count}
use Rattle.oct_values.specs.Depths.{depth_value}
use Rattle.oct_values.specs.Events.{event_at, updated}
use Rattle.oct_values.proofs.Uniform.{same_group_count, same_node_count}
use Rattle.oct_script.specs.declared.command.Edit.{Edit}
use Rattle.oct_script.specs.declared.reply.Reply.{Reply}
use Rattle.oct_script.specs.declared.reply.Reply.TheVariants as reply_of
use Rattle.oct_script.specs.Replies.{is_refusal}
use Rattle.oct_session.specs.Commands.{order_answer, order_reply, order_action}
use Rattle.oct_session.specs.Commands.{accepted, edit_reply}
use Rattle.oct_session.specs.Commands.{get_reply, cast_reply, list_reply, changes_reply}
use Rattle.oct_session.specs.declared.kinds.Order.{Order}
use Rattle.oct_session.specs.declared.kinds.Order.TheVariants as order
use Rattle.oct_session.specs.declared.kinds.Question.{Question}
use Rattle.oct_session.specs.declared.kinds.Question.TheVariants as question
use Rattle.oct_session.specs.Refusals.{fault_reply}
use Rattle.oct_session.specs.History.{History, State, Scanned, edit_event, after, after_all}
use Rattle.oct_session.specs.Leaving.{StandsFor}
use Rattle.oct_session.specs.ScanBlock.{is_zero, scan_reply, block_reply, block_action}
use Rattle.oct_session.specs.ScanSoFar.{ScanSoFar, sighting_so_far}
use Rattle.oct_session.specs.Standing.{HasAnswered, HasCarriedOut, HasObeyed, HasTold, HasScanned}
use Rattle.oct_session.specs.Standing.{Tells}
use Rattle.oct_session.specs.declared.scan_block.ScanBlock.TheVariants.{Scanning}
use Rattle.oct_session.proofs.Answering.{same_edit, same_get, same_cast, same_scan, same_box}
use Rattle.oct_session.proofs.Answering.{same_list, same_changed}
use Rattle.oct_session.proofs.NonemptyReplies.{edit_some, block_some, box_some, list_some}
use Rattle.oct_session.proofs.NonemptyReplies.{changes_some, limit_some}
use Rattle.oct_session.proofs.MapHistory.{Keeps, stands_same, stands_edited, stands_scanned}
use Rattle.oct_session.proofs.MapHistory.{stands_pruned, stands_boxed, stands_limited}

-- a command that does nothing that later replies may depend on
accepted_none : (r : Option Reply) (actions : History) → actions ≡ [] → accepted r actions ≡ []
accepted_none r actions none =
    elim (is_refusal r) as (λ b. cond b [] actions ≡ []) [ true ↦ refl | false ↦ none ]

-- a scan whose points were all read was
abbrev Scans : Map → Map → ScanSoFar → Option Reply → Type 0
Scans m n scan r = HasAnswered (λ s. block_reply s (Scanning scan))
    (λ s. block_action (Scanning scan)) m n r

-- nothing that is accepted leaves the state
stands_kept : (m : Map) (s : State) (more : History) → more ≡ [] → StandsFor m s
    → StandsFor m (after_all s more)
stands_kept m s more none at = subst (λ x. StandsFor m (after_all s x)) (sym none) at

-- what was done for the order that was read
pub carried_as : (r : Result ⊤ MapFault) (m n : Map) (o read : Order) → o ≡ read
    → HasCarriedOut m n read r → HasCarriedOut m n o r
carried_as r m n o read is done = subst (λ x. HasCarriedOut m n x r) (sym is) done

-- what was told for the question that was read
pub told_as : {E : Type 0} (r : Result (Option Reply) E) (m n : Map) (q read : Question) → q ≡ read
    → HasTold m n read r → HasTold m n q r
told_as r m n q read is told = subst (λ x. HasTold m n x r) (sym is) told

pub tells_as : (a : Option Reply) (m n : Map) (q read : Question) → q ≡ read → Tells m n read a
    → Tells m n q a
tells_as a m n q read is told = subst (λ x. Tells m n x a) (sym is) told

-- a reply to a refusal of the map is a refusal
pub refuses : (f : MapFault) (r : Option Reply) → IsSome r → r ≡ fault_reply f → is_refusal r ≡ true
refuses (fault.Outside point) r some is = ap is_refusal is
refuses fault.BadDepth r some is = ap is_refusal is
refuses fault.BadBox r some is = ap is_refusal is
refuses (fault.TooManyBlocks count) r some is = ap is_refusal is
refuses fault.Stale r some is = ap is_refusal is
refuses (fault.Full groups need) r some is = ap is_refusal is
refuses fault.OriginOutside r some is = ap is_refusal is
refuses (fault.PointOutside index) r some is = ap is_refusal is
refuses (fault.TooManyCells index cells) r some is = ap is_refusal is
refuses fault.BadMagic r some is = ap is_refusal is
refuses (fault.Truncated at) r some is = ap is_refusal is
refuses (fault.TrailingBytes at) r some is = ap is_refusal is
refuses (fault.BadSnapshot at) r some is = ap is_refusal is
refuses (fault.OtherResolution file session) r some is = ap is_refusal is
refuses (fault.WideWhileTracked count) r some is = ap is_refusal is
refuses fault.NotTracked r some is = ap is_refusal is
refuses fault.Memory r some is = let none : IsSome (fault_reply fault.Memory) =
    subst IsSome is some in cc

-- a reply to a fault of memory there is none
pub no_reply : (f : MapFault) (r : Option Reply) → IsSome r → r ≡ fault_reply f → f ≡ fault.Memory
    → ⊥
no_reply f r some is none = let absent : IsSome (fault_reply fault.Memory) =
    subst IsSome (is ∙ ap fault_reply none) some in cc

-- an order that the map carried out
pub order_done : (m n : Map) (o : Order) → HasCarriedOut m n o (Ok tt)
    → HasAnswered (λ s. order_reply s o) (λ s. order_action o ∷ []) m n (Some reply_of.Ok)
order_done m n o done = λ s at. let was = done s at in (ap edit_reply was.0, was.1)

refused_so : (a : Option Reply) (r : Result ⊤ MapFault) (f : MapFault) → a ≡ fault_reply f
    → IsSome a → IsAnswerOrMemory r (Err f) → a ≡ edit_reply r
refused_so a r f is some (inl answer) = is ∙ ap edit_reply answer
refused_so a r f is some (inr memory) = absurd (no_reply f a some is cc)

-- an order that the map refused
pub order_refused : {E : Type 0} (r : Result (Option Reply) E) (m n : Map) (o : Order)
    (f : MapFault) → IfOk r (λ a. a ≡ fault_reply f) → IfOk r IsSome → HasCarriedOut m n o (Err f)
    → HasObeyed m n o r
order_refused (Ok a) m n o f is some kept = λ s at. let was = kept s at in (
  refused_so a (order_answer s o) f is some was.0,
  stands_kept n s (accepted a (order_action o ∷ []))
      (ap (λ b. cond b [] (order_action o ∷ [])) (refuses f a some is)) was.2,
)
order_refused (Err x) m n o f is some kept = λ s at. let was = kept s at in (was.1, was.2)

-- an edit, which the map did or refused
pub edit_carried : (r : Result ⊤ MapFault) (m n : Map) (p : Point) (e : Edit) (lazy : Bool)
    (event : Event) (need : ℕ) → event ≡ edit_event m.tree.odds e →
    IsAnswerOrMemory (edit_answer (ground_of m) (values_of m) p) r →
    OnOk r (IsMapEdited m n (event_at (key_at m.tree.res p) event) need lazy)
    → IfErr r (λ f. IsMapRefused m n f need) → Keeps m n → HasCarriedOut m n (order.Edit p e lazy) r
edit_carried (Ok done) m n p e lazy event need is (inl answer) edited refused setup = λ s at. (
  answer ∙ same_edit m s p at,
  stands_edited m n s p e lazy event is edited.values edited.stale
      (λ eager. (edited.eager eager).pruned) setup at,
)
edit_carried (Ok done) m n p e lazy event need is (inr memory) edited refused setup = cc
edit_carried (Err f) m n p e lazy event need is answer edited refused setup = λ s at. (
  subst (λ x. IsAnswerOrMemory x (Err f)) (same_edit m s p at) answer,
  edit_some s.base s.values p,
  stands_same m n s refused.values refused.stale refused.pruned setup at,
)

-- an edit of a box, which the map did or refused
pub box_carried : (r : Result ⊤ MapFault) (m n : Map) (lo hi : Point) (e : Edit) (event : Event)
    (need : ℕ) → event ≡ edit_event m.tree.odds e →
    IsAnswerOrMemory (box_answer (ground_of m) (is_some m.mark) (values_of m) lo hi) r →
    OnOk r (IsMapEdited m n
    (corner_events (key_at m.tree.res lo) (key_at m.tree.res hi) event) need false)
    → IfErr r (λ f. IsMapRefused m n f need) → Keeps m n → HasCarriedOut m n (order.Box lo hi e)
    r
box_carried (Ok done) m n lo hi e event need is (inl answer) edited refused setup = λ s at. (
  answer ∙ same_box m s lo hi at,
  stands_boxed m n s lo hi e event is edited.values (edited.stale ∙ or-false m.is_stale)
      (edited.eager (λ lazy. cc)).pruned setup at,
)
box_carried (Ok done) m n lo hi e event need is (inr memory) edited refused setup = cc
box_carried (Err f) m n lo hi e event need is answer edited refused setup = λ s at. (
  subst (λ x. IsAnswerOrMemory x (Err f)) (same_box m s lo hi at) answer,
  box_some s.base (is_some s.marked) s.values lo hi,
  stands_same m n s refused.values refused.stale refused.pruned setup at,
)

-- a limit, which the map took or refused
pub limit_carried : (r : Result ⊤ MapFault) (m n : Map) (lo hi : Point)
    → r ≡ limit_answer (ground_of m) lo hi →
    OnOk r (n ≡ record m {
      update_box = corner_box (key_at m.tree.res lo) (key_at m.tree.res hi);
    })
    → OnErr r (n ≡ m) → HasCarriedOut m n (order.Limit lo hi) r
limit_carried (Ok done) m n lo hi answer limited same = λ s at. (
  answer ∙ ap (λ g. limit_answer g lo hi) at.base,
  stands_limited m n s lo hi limited at,
)
limit_carried (Err f) m n lo hi answer limited same = λ s at. (
  inl (answer ∙ ap (λ g. limit_answer g lo hi) at.base),
  limit_some s.base lo hi,
  subst (λ (t : Map). StandsFor t s) (sym same) at,
)

-- a query doesn't run out of memory
cases_calm : (deep stale : Bool) (value : Value)
    → ◌≡◌ {A = Result Value MapFault}
    (cond deep (Err fault.BadDepth) (cond stale (Err fault.Stale) (Ok value))) (Err fault.Memory)
    → ⊥
cases_calm true stale value is = cc
cases_calm false true value is = cc
cases_calm false false value is = cc

block_calm : (stale : Bool) (values : Values) (depth : ℕ) (k : Voxel)
    → block_answer stale values depth k ≡ Err fault.Memory → ⊥
block_calm stale values depth k is =
    cases_calm (nat_lt 16 depth) (stale && nat_lt depth 16) (depth_value values (block_of depth k))
    is

get_calm : (stale : Bool) (values : Values) (depth : ℕ) (key : Option Voxel)
    → get_answer_at stale values depth key ≡ Err fault.Memory → ⊥
get_calm stale values depth None is = cc
get_calm stale values depth (Some k) is = block_calm stale values depth k is

pub query_calm : (m : Map) (p : Point) (depth : ℕ) (r : Result Value MapFault)
    → r ≡ get_answer (ground_of m) m.is_stale (values_of m) p depth → r ≢ Err fault.Memory
query_calm m p depth r answer memory =
    get_calm m.is_stale (values_of m) depth (key_at m.tree.res p) (sym answer ∙ memory)

-- the value of a block, as the map answered it
pub get_told : (a : Option Reply) (m : Map) (p : Point) (depth : ℕ) (r : Result Value MapFault)
    → a ≡ get_reply m.tree.odds r
    → r ≡ get_answer (ground_of m) m.is_stale (values_of m) p depth
    → Tells m m (question.Get p depth) a
get_told a m p depth r is answer = λ q at. (
  is ∙ ap (λ (g : Ground). get_reply g.odds r) at.base
      ∙ ap (get_reply q.base.odds) (answer ∙ same_get m q p depth at),
  stands_kept m q (accepted a []) (accepted_none a [] refl) at,
)

-- a cast doesn't run out of memory
cast_calm_at : (key_o key_e : Option Voxel) (found : Cast)
    → cast_answer_at key_o key_e found ≡ Err fault.Memory → ⊥
cast_calm_at None key_e found is = cc
cast_calm_at (Some k) None found is = cc
cast_calm_at (Some k) (Some l) found is = cc

pub cast_calm : (m : Map) (o e : Point) (ignore : Bool) (r : Result Cast MapFault)
    → r ≡ cast_answer (ground_of m) (values_of m) o e ignore → r ≢ Err fault.Memory
cast_calm m o e ignore r answer = λ memory.
    cast_calm_at (key_at m.tree.res o) (key_at m.tree.res e)
    (cast_along m.tree.res o e ignore (classes_of m.tree.odds (values_of m))) (sym answer ∙ memory)

-- what a cast found, as the map answered it
pub cast_told : (a : Option Reply) (m : Map) (o e : Point) (ignore : Bool)
    (r : Result Cast MapFault) → a ≡ cast_reply r
    → r ≡ cast_answer (ground_of m) (values_of m) o e ignore
    → Tells m m (question.Cast o e ignore) a
cast_told a m o e ignore r is answer = λ q at. (
  is ∙ ap cast_reply (answer ∙ same_cast m q o e ignore at),
  stands_kept m q (accepted a []) (accepted_none a [] refl) at,
)

-- the counts of the map, which is pruned for them
pub counts_done : (m n : Map) (counts : Counts) → counts.groups ≡ group_count (values_of m)
    → counts.nodes ≡ node_count (values_of m) →
    SameValues (values_of m) (values_of n) → n.is_stale ≡ m.is_stale → IsPruned n.tree → Keeps m n
    → Tells m n question.Counts (Some (reply_of.Counted counts))
counts_done m n counts groups nodes values stale pruned setup = λ q at.
    let g : counts.groups ≡ group_count q.values = groups
    ∙ sym (same_group_count q.values (values_of m) at.values) in
    let k : counts.nodes ≡ node_count q.values = nodes
    ∙ sym (same_node_count q.values (values_of m) at.values) in (
      ap (λ x. Some (reply_of.Counted (record { groups = x; nodes = counts.nodes }))) g
          ∙ ap (λ x. Some
          (reply_of.Counted (record { groups = group_count q.values; nodes = x }))) k,
      stands_pruned m n q values stale pruned setup at,
    )

-- a list, as the map answered it
pub list_told : {E : Type 0} (r : Result (Option Reply) E) (m : Map) (lo hi : Point) (depth : ℕ)
    (listed : Result (List Shown) MapFault) (threshold : ℤ)
    → IfOk r (λ a. a ≡ list_reply threshold listed) → IfOk r IsSome → threshold ≡ m.tree.odds.thr
    → IsAnswerOrMemory (list_answer (ground_of m) m.is_stale (values_of m) lo hi depth) listed
    → HasTold m m (question.List lo hi depth) r
list_told (Ok a) m lo hi depth listed threshold is some thr (inl answer) = λ q at. (
  is ∙ ap (λ t. list_reply t listed) (thr ∙ ap (λ (g : Ground). g.odds.thr) at.base)
      ∙ ap (list_reply q.base.odds.thr) (answer ∙ same_list m q lo hi depth at),
  stands_kept m q (accepted a []) (accepted_none a [] refl) at,
)
list_told (Ok a) m lo hi depth listed threshold is some thr (inr memory) =
    absurd (no_reply fault.Memory a some (is ∙ ap (list_reply threshold) memory) refl)
list_told (Err x) m lo hi depth listed threshold is some thr answer =
    λ q at. (list_some q.base.odds.thr q.base q.is_stale q.values lo hi depth, at)

-- what has changed, as the map answered it
pub changes_done : (m : Map) (changes : List Change)
    → IsAnswerOrMemory (changes_answer (marked_of m) (classes_in m)) (Ok changes)
    → Tells m m question.Changes (Some (reply_of.Changed changes))
changes_done m changes (inl answer) = λ q at. (
  ap changes_reply (answer ∙ same_changed m q at),
  stands_kept m q (accepted (Some (reply_of.Changed changes)) [])
      (accepted_none (Some (reply_of.Changed changes)) [] refl) at,
)
changes_done m changes (inr memory) = cc

-- what has changed, where the map refused it
pub changes_refused : {E : Type 0} (r : Result (Option Reply) E) (m : Map) (f : MapFault)
    → IfOk r (λ a. a ≡ fault_reply f) → IfOk r IsSome →
    IsAnswerOrMemory (changes_answer (marked_of m) (classes_in m)) (Err f)
    → HasTold m m question.Changes r
changes_refused (Ok a) m f is some (inl answer) = λ q at. (
  is ∙ ap changes_reply (answer ∙ same_changed m q at),
  stands_kept m q (accepted a []) (accepted_none a [] refl) at,
)
changes_refused (Ok a) m f is some (inr memory) = absurd (no_reply f a some is cc)
changes_refused (Err x) m f is some answer =
    λ q at. (changes_some q.marked (classes_of q.base.odds q.values), at)

-- the reply to a scan whose quaternion isn't 0
scan_replied : (m : Map) (q : State) (scan : ScanSoFar) (s : Sighting)
    (r : Result ScanDone MapFault) → is_zero scan.head ≡ false → s ≡ sighting_so_far scan
    → StandsFor m q →
    r ≡ scan_answer (ground_of m) (values_of m) s → scan_reply r ≡ block_reply q (Scanning scan)
scan_replied m q scan s r turns saw at answer =
    rw turns (ap scan_reply (answer ∙ same_scan m q s at ∙ ap (scan_answer q.base q.values) saw))

-- a scan that the map did
pub scan_done : (m n : Map) (scan : ScanSoFar) (s : Sighting) (lazy : Bool) (done : ScanDone)
    → is_zero scan.head ≡ false → s ≡ sighting_so_far scan → lazy ≡ scan.head.lazy →
    IsAnswerOrMemory (scan_answer (ground_of m) (values_of m) s) (Ok done) →
    SameValues (updated m.tree.odds (outcome_in m s) (values_of m)) (values_of n)
    → n.is_stale ≡ (m.is_stale || lazy) →
    ((IsTrue lazy → ⊥) → IsPruned m.tree → IsPruned n.tree) → Keeps m n
    → Scans m n scan (Some (reply_of.Scanned (record { hits = done.hits; frees = done.frees })))
scan_done m n scan s lazy done turns saw late (inl answer) values stale pruned setup = λ q at. (
  scan_replied m q scan s (Ok done) turns saw at answer,
  subst (λ x. StandsFor n (after q (Scanned x scan.head.lazy))) saw
      (subst (λ x. StandsFor n (after q (Scanned s x))) late
      (stands_scanned m n q s lazy values stale pruned setup at)),
)
scan_done m n scan s lazy done turns saw late (inr memory) values stale pruned setup = cc

-- a scan that the map refused
pub scan_refused : {E : Type 0} (r : Result (Option Reply) E) (m n : Map) (scan : ScanSoFar)
    (s : Sighting) (f : MapFault) → is_zero scan.head ≡ false → s ≡ sighting_so_far scan →
    IfOk r (λ a. a ≡ fault_reply f) → IfOk r IsSome
    → IsAnswerOrMemory (scan_answer (ground_of m) (values_of m) s) (Err f) →
    SameValues (values_of m) (values_of n) → n.is_stale ≡ m.is_stale
    → (IsPruned m.tree → IsPruned n.tree) → Keeps m n → HasScanned m n (Scanning scan) r
scan_refused (Ok a) m n scan s f turns saw is some (inl answer) values stale pruned setup =
    λ q at. (
      is ∙ scan_replied m q scan s (Err f) turns saw at answer,
      stands_kept n q (accepted a (block_action (Scanning scan)))
          (ap (λ b. cond b [] (block_action (Scanning scan))) (refuses f a some is))
          (stands_same m n q values stale pruned setup at),
    )
scan_refused (Ok a) m n scan s f turns saw is some (inr memory) values stale pruned setup =
    absurd (no_reply f a some is cc)
scan_refused (Err x) m n scan s f turns saw is some answer values stale pruned setup =
    λ q at. (block_some q scan, stands_same m n q values stale pruned setup at)
