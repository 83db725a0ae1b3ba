-- What `list` and `counts` show of a state, in words of blocks.
use Rattle.std.proofs.Common.{◌≡◌, ◌≢◌, ℕ, ◌≤◌, List, [], ◌∷◌, map, Bool, true, false, cond, nat_lt}
use Rattle.std.proofs.Common.{◌&&◌, ◌↔◌, Option, Some, None, Result, Ok, Err, inl, inr, refl, sym}
use Rattle.std.proofs.Common.{ap, subst, ◌∙◌, arith, length, ◌+◌, AllPairs}
use Rattle.std.proofs.lemmas.Bool.{cases_lt, lt-ltb}
use Rattle.std.proofs.lemmas.List.Elements.{All-contains}
use Rattle.std.proofs.lemmas.List.Kept.{AllPairs-filter, IsStrictlySortedBy-filter}
use Rattle.std.proofs.lemmas.List.Sums.{length-filter}
use Rattle.std.specs.List.{Contains, filter, filter_map, cons_option}
use Rattle.std.specs.List.Sorted.{IsStrictlySortedBy}
use Rattle.std.specs.Prelude.{ℤ, is_some, not, option_map}
use Rattle.oct_brick.proofs.Lists.{contains_none, contains_here, contains_later, contains_cases}
use Rattle.oct_brick.proofs.Lists.{all_contained}
use Rattle.oct_io.specs.Files.{Files}
use Rattle.oct_key.specs.Block.{Cube, IsBlock, is_same_block}
use Rattle.oct_key.specs.Boxes.{MeetsBox, is_box}
use Rattle.oct_key.specs.Order.{block_cmp, blocks_in_order}
use Rattle.oct_key.specs.Values.{Values}
use Rattle.oct_key.specs.Voxel.{Voxel, key_at}
use Rattle.oct_key.specs.declared.point.Point.{Point}
use Rattle.oct_key.proofs.Blocks.{is_same_block_refl}
use Rattle.oct_key.proofs.InOrder.{blocks_exactly, blocks_sorted}
use Rattle.oct_map.specs.Lists.{list_answer_at, blocks_answer, list_most}
use Rattle.oct_map.specs.declared.fault.MapFault.{MapFault}
use Rattle.oct_map.specs.declared.fault.MapFault.TheVariants as fault
use Rattle.oct_odds.specs.Update.{Value}
use Rattle.oct_query.specs.Leaves.{leaves_of}
use Rattle.oct_query.specs.Listed.{met_blocks, listed_blocks, shown}
use Rattle.oct_query.specs.Shown.{Shown}
use Rattle.oct_query.proofs.LeafLists.{leaf_list}
use Rattle.oct_query.proofs.LeastParts.{nodes_are}
use Rattle.oct_script.specs.Lines.{Line}
use Rattle.oct_script.specs.declared.command.Command.TheVariants as command
use Rattle.oct_script.specs.declared.reply.Reply.TheVariants as reply_of
use Rattle.oct_values.specs.Blocks.{blocks_above_voxels}
use Rattle.oct_values.specs.Boxes.{is_met_by}
use Rattle.oct_values.specs.Counts.{is_uniform, group_count, node_count}
use Rattle.oct_values.specs.Depths.{depth_value}
use Rattle.oct_values.specs.Uniform.{IsUniform}
use Rattle.oct_values.proofs.Boxes.{met_by_voxels}
use Rattle.oct_values.proofs.Largest.{answer_exactly}
use Rattle.oct_values.proofs.Listed.{all_above_voxels, block_listed_once, holds_of_block}
use Rattle.oct_values.proofs.Uniform.{uniform_exactly}
use Rattle.oct_session.specs.Commands.{list_reply}
use Rattle.oct_session.specs.History.{State, state_after}
use Rattle.oct_session.specs.Session.{Progress, Effect, effect_of, progress}
use Rattle.oct_session.specs.Setup.{Setup}
use Rattle.oct_promise.specs.Lines.{IsLine}
use Rattle.oct_promise.specs.Listed.{AreListed, ListsBlocks, AreCounted, CountsNeeded}
use Rattle.oct_promise.specs.States.{IsSetUp}
use Rattle.oct_promise.proofs.EditsDone.{AreKeys, corners, positive_at}
use Rattle.oct_promise.proofs.GivenBack.{effect_next}
use Rattle.oct_promise.proofs.Passing.{passing_exactly, each_once}
use Rattle.oct_promise.proofs.Telling.{next_line, line_replied}

-- ---- the blocks of a list

module _ (values : Values) where
  -- what is shown of some blocks is what is known of one of them
  shown_came : (bs : List Cube) (s : Shown) → Contains (filter_map (shown values) bs) s
      → Contains bs s.block × (depth_value values s.block ≡ Some s.value)
  shown_came [] s there = absurd (contains_none s there)
  shown_came (b ∷ bs) s there =
      by_value (depth_value values b) refl there (λ below. shown_came bs s below)
    where
      by_value : (v : Value) → depth_value values b ≡ v
          → Contains (cons_option (option_map (λ x. record { block = b; value = x }) v)
          (filter_map (shown values) bs)) s
          → (Contains (filter_map (shown values) bs) s
          → Contains bs s.block × (depth_value values s.block ≡ Some s.value))
          → Contains (b ∷ bs) s.block × (depth_value values s.block ≡ Some s.value)
      by_value None is there below =
          let came = below there in (contains_later b s.block bs came.0, came.1)
      by_value (Some x) is there below =
          elim (contains_cases (record { block = b; value = x }) s (filter_map (shown values) bs)
          there) [
            | inl e ↦ (
              subst (λ (t : Shown). Contains (b ∷ bs) t.block) e (contains_here b bs),
              subst (λ (t : Shown). depth_value values t.block ≡ Some t.value) e is,
            )
            | inr k ↦ let came = below k in (contains_later b s.block bs came.0, came.1)
          ]

  -- and each block of which something is known is shown
  shown_more : (o : Option Shown) (rest : List Shown) (s : Shown) → Contains rest s
      → Contains (cons_option o rest) s
  shown_more None rest s there = there
  shown_more (Some t) rest s there = contains_later t s rest there

  shown_kept : (bs : List Cube) (b : Cube) (x : ℤ) → Contains bs b
      → depth_value values b ≡ Some x
      → Contains (filter_map (shown values) bs) (record { block = b; value = x })
  shown_kept [] b x there is = absurd (contains_none b there)
  shown_kept (c ∷ bs) b x there is = elim (contains_cases c b bs there) [
    | inl e ↦
        subst (λ (v : Value). Contains (cons_option (option_map
        (λ y. record { block = c; value = y }) v) (filter_map (shown values) bs))
        (record { block = b; value = x })) (sym (ap (depth_value values) e ∙ is))
        (subst (λ (d : Cube). Contains (record { block = c; value = x }
        ∷ filter_map (shown values) bs) (record { block = d; value = x })) e
        (contains_here (record { block = c; value = x }) (filter_map (shown values) bs)))
    | inr below ↦ shown_more (shown values c) (filter_map (shown values) bs)
        (record { block = b; value = x }) (shown_kept bs b x below is)
  ]

  -- their blocks are those that pass a test
  blocks_shown : (bs : List Cube) → map (λ (s : Shown). s.block) (filter_map (shown values) bs)
      ≡ filter (λ b. is_some (depth_value values b)) bs
  blocks_shown [] = refl
  blocks_shown (b ∷ bs) =
      elim (depth_value values b) as (λ v. map (λ (s : Shown). s.block)
      (cons_option (option_map (λ x. record { block = b; value = x }) v)
      (filter_map (shown values) bs))
      ≡ cond {A = List Cube} (is_some v) (b ∷ filter (λ b. is_some (depth_value values b)) bs)
      (filter (λ b. is_some (depth_value values b)) bs)) [
        | None ↦ blocks_shown bs
        | Some x ↦ ap (λ (l : List Cube). b ∷ l) (blocks_shown bs)
      ]

-- the blocks of a depth that meet a box
met_exactly : (lo hi : Voxel) (depth : ℕ) (b : Cube) → depth ≤ 16
    → Contains (met_blocks lo hi depth) b
    ↔ (IsBlock b × (b.depth ≡ depth) × MeetsBox lo hi b)
unfolding met_blocks
met_exactly lo hi depth b few = (
  λ there. (let parts = (passing_exactly (is_met_by lo hi) (blocks_in_order depth) b).0 there in
      let ok = (blocks_exactly depth b few).1 parts.0 in
      (ok.0, ok.1, (met_by_voxels lo hi b ok.0).0 parts.1)),
  λ (ok, at, met). (passing_exactly (is_met_by lo hi) (blocks_in_order depth) b).1
      ((blocks_exactly depth b few).0 (ok, at), (met_by_voxels lo hi b ok).1 met),
)

met_sorted : (lo hi : Voxel) (depth : ℕ) → IsStrictlySortedBy block_cmp (met_blocks lo hi depth)
unfolding met_blocks
met_sorted lo hi depth =
    IsStrictlySortedBy-filter block_cmp (is_met_by lo hi) (blocks_in_order depth)
    (blocks_sorted depth)

listed : (values : Values) (lo hi : Voxel) (depth : ℕ) → depth ≤ 16
    → AreListed values lo hi depth (listed_blocks values lo hi depth)
unfolding listed_blocks
listed values lo hi depth few = record {
  order = subst (IsStrictlySortedBy block_cmp)
      (sym (blocks_shown values (met_blocks lo hi depth)))
      (IsStrictlySortedBy-filter block_cmp (λ b. is_some (depth_value values b))
      (met_blocks lo hi depth) (met_sorted lo hi depth));
  blocks = λ s. (
    λ there. (let (among, known) = shown_came values (met_blocks lo hi depth) s there in
        let (ok, at, met) = (met_exactly lo hi depth s.block few).0 among in (
          ok,
          at,
          met,
          (answer_exactly values s.block (Some s.value) ok).1 (sym known),
        )),
    λ (ok, at, met, greatest). shown_kept values (met_blocks lo hi depth) s.block s.value
        ((met_exactly lo hi depth s.block few).1 (ok, at, met))
        (sym ((answer_exactly values s.block (Some s.value) ok).0 greatest)),
  );
}

shows : (values : Values) (lo hi : Voxel) (depth : ℕ) (list : List Shown) → depth ≤ 16
    → list ≡ listed_blocks values lo hi depth → AreListed values lo hi depth list
shows values lo hi depth list few is =
    subst (AreListed values lo hi depth) (sym is) (listed values lo hi depth few)

-- ---- its reply

-- the box that a list was asked for, where it isn't refused
record IsAnswered (values : Values) (depth : ℕ) (low high : Option Voxel) (list : List Shown)
    (same : Type 0) : Type 0 where
  keys : AreKeys low high
  few : depth ≤ 16
  blocks : list ≡ listed_blocks values keys.lo keys.hi depth
  class : same

module _ (stale : Bool) (values : Values) (depth : ℕ) (threshold said : ℤ) (list : List Shown)
  where
    told_of : (low high : Option Voxel)
        → list_reply threshold (list_answer_at stale values depth low high)
        ≡ Some (reply_of.Blocks list said)
        → IsAnswered values depth low high list (said ≡ threshold)
    told_of None high told = absurd cc
    told_of (Some lo) None told = absurd cc
    told_of (Some lo) (Some hi) told = by_depth (nat_lt 16 depth) refl told
      where
        by_count : (b : Bool) → depth ≤ 16 → is_box lo hi ≡ true
            → list_reply threshold (cond {A = Result (List Shown) MapFault} b
            (Err (fault.TooManyBlocks (length (met_blocks lo hi depth))))
            (Ok (listed_blocks values lo hi depth))) ≡ Some (reply_of.Blocks list said)
            → IsAnswered values depth (Some lo) (Some hi) list (said ≡ threshold)
        by_count true few is told = absurd cc
        by_count false few is told = record {
          keys = record { lo = lo; hi = hi; is_low = refl; is_high = refl; box = is };
          few = few;
          blocks = cc;
          class = cc;
        }

        by_stale : (b : Bool) → depth ≤ 16 → is_box lo hi ≡ true
            → list_reply threshold (cond {A = Result (List Shown) MapFault} b (Err fault.Stale)
            (blocks_answer (length (met_blocks lo hi depth)) (listed_blocks values lo hi depth)))
            ≡ Some (reply_of.Blocks list said)
            → IsAnswered values depth (Some lo) (Some hi) list (said ≡ threshold)
        by_stale true few is told = absurd cc
        by_stale false few is told =
            by_count (nat_lt list_most (length (met_blocks lo hi depth))) few is told

        by_box : (b : Bool) → depth ≤ 16 → is_box lo hi ≡ b
            → list_reply threshold (cond {A = Result (List Shown) MapFault} b
            (cond {A = Result (List Shown) MapFault} (stale && nat_lt depth 16) (Err fault.Stale)
            (blocks_answer (length (met_blocks lo hi depth)) (listed_blocks values lo hi depth)))
            (Err fault.BadBox)) ≡ Some (reply_of.Blocks list said)
            → IsAnswered values depth (Some lo) (Some hi) list (said ≡ threshold)
        by_box true few is told = by_stale (stale && nat_lt depth 16) few is told
        by_box false few is told = absurd cc

        at_most : nat_lt 16 depth ≡ false → depth ≤ 16
        at_most is = elim (cases_lt 16 depth) [
          | inl more ↦ absurd (let no : true ≡ false = sym (lt-ltb 16 depth more) ∙ is in cc)
          | inr few ↦ few
        ]

        by_depth : (b : Bool) → nat_lt 16 depth ≡ b
            → list_reply threshold (cond {A = Result (List Shown) MapFault} b (Err fault.BadDepth)
            (cond {A = Result (List Shown) MapFault} (is_box lo hi)
            (cond {A = Result (List Shown) MapFault} (stale && nat_lt depth 16) (Err fault.Stale)
            (blocks_answer (length (met_blocks lo hi depth)) (listed_blocks values lo hi depth)))
            (Err fault.BadBox))) ≡ Some (reply_of.Blocks list said)
            → IsAnswered values depth (Some lo) (Some hi) list (said ≡ threshold)
        by_depth true is told = absurd cc
        by_depth false is told = by_box (is_box lo hi) (at_most is) refl told

-- a list that isn't refused shows the blocks of its box
pub list_done : (o : Setup) → IsSetUp o → (files : Option Files) (bytes : List ℕ)
    (before : List Line) (line : Line) (from to : Point) (depth : ℕ) (list : List Shown)
    (threshold : ℤ) → IsLine o files bytes before line None (Ok (command.List from to depth))
    → (effect_of o (progress o files before) line).reply ≡ Some (reply_of.Blocks list threshold)
    → ListsBlocks o files bytes before from to depth list threshold
list_done o set files bytes before line from to depth list threshold is answer =
    let r : Progress = progress o files before in
    let s : State = state_after o r.history in
    let does = effect_next o r line (command.List from to depth)
    (next_line o files bytes before line (command.List from to depth) is) in
    let told : list_reply s.base.odds.thr
    (list_answer_at s.is_stale s.values depth (key_at s.base.res from) (key_at s.base.res to))
    ≡ Some (reply_of.Blocks list threshold) =
    ap (λ (e : Effect). e.reply) (sym does) ∙ answer in
    let asked = told_of s.is_stale s.values depth s.base.odds.thr threshold list
    (key_at s.base.res from) (key_at s.base.res to) told in
    record {
      told = line_replied o files bytes before line None (Ok (command.List from to depth)) _ is
          answer;
      class = asked.class;
      lo = asked.keys.lo;
      hi = asked.keys.hi;
      corners = corners s from to (positive_at o set r.history) asked.keys;
      shown = shows s.values asked.keys.lo asked.keys.hi depth list asked.few asked.blocks;
    }

-- ---- counts

above_once : AllPairs (λ (b c : Cube). b ≢ c) blocks_above_voxels
above_once =
    each_once is_same_block is_same_block_refl blocks_above_voxels (λ b there.
    let ok = All-contains (λ b. IsBlock b × (b.depth ≤ 15)) blocks_above_voxels b all_above_voxels
    there in
    let once = block_listed_once b ok.0 ok.1 in omega (arith, once))

above_all : (b : Cube) → IsBlock b → b.depth ≤ 15 → Contains blocks_above_voxels b
above_all = holds_of_block (λ b. Contains blocks_above_voxels b)
    (all_contained (λ b. Contains blocks_above_voxels b) blocks_above_voxels (λ b there. there))

varied_exactly : (values : Values) (b : Cube)
    → Contains (filter (λ b. not (is_uniform values b)) blocks_above_voxels) b
    ↔ (IsBlock b × (b.depth ≤ 15) × ¬ IsUniform values b)
varied_exactly values b = (
  λ there. (let parts = (passing_exactly (λ b. not (is_uniform values b)) blocks_above_voxels b).0
      there in
      let ok = All-contains (λ b. IsBlock b × (b.depth ≤ 15)) blocks_above_voxels b
      all_above_voxels parts.0 in (
        ok.0,
        ok.1,
        λ one. absurd (both (is_uniform values b) parts.1
            ((uniform_exactly values b ok.0).1 one)),
      )),
  λ (ok, low, several). (passing_exactly (λ b. not (is_uniform values b)) blocks_above_voxels b).1 (
    above_all b ok low,
    passes (is_uniform values b) (λ is. several ((uniform_exactly values b ok).0 is)),
  ),
)
  where
    both : (t : Bool) → not t ≡ true → t ≡ true → ⊥
    both true isnt is = cc
    both false isnt is = cc

    passes : (t : Bool) → ¬ (t ≡ true) → not t ≡ true
    passes true never = absurd (never refl)
    passes false never = refl

counts_are : (values : Values) → AreCounted values (group_count values) (node_count values)
unfolding group_count
counts_are values =
    let counted = sym (length-filter (λ b. not (is_uniform values b)) blocks_above_voxels) in
    record {
      varied = filter (λ b. not (is_uniform values b)) blocks_above_voxels;
      varied_once = AllPairs-filter (λ (b c : Cube). b ≢ c) (λ b. not (is_uniform values b))
          blocks_above_voxels above_once;
      varied_are = varied_exactly values;
      leaves = leaves_of values;
      leaves_are = leaf_list values;
      groups_are = counted;
      nodes_are = nodes_are values ∙ ap (λ n. n + length (leaves_of values)) counted;
    }

pub counts_done : (o : Setup) (files : Option Files) (bytes : List ℕ) (before : List Line)
    (line : Line) → IsLine o files bytes before line None (Ok command.Counts)
    → CountsNeeded o files bytes before
counts_done o files bytes before line is =
    let r : Progress = progress o files before in
    let s : State = state_after o r.history in
    let replied : (effect_of o r line).reply ≡ Some (reply_of.Counted (record {
      groups = group_count s.values;
      nodes = node_count s.values;
    })) =
    ap (λ (e : Effect). e.reply) (effect_next o r line command.Counts
    (next_line o files bytes before line command.Counts is)) in
    record {
      groups = group_count s.values;
      nodes = node_count s.values;
      told = line_replied o files bytes before line None (Ok command.Counts) _ is replied;
      needed = counts_are s.values;
    }
