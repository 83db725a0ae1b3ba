use Rattle.std.proofs.Common.{◌≡◌, ◌+◌, ◌≤◌, ◌∙◌, sym, subst, ap, arith, false}
use Rattle.std.proofs.lemmas.Bool.{false≢true}
use Rattle.std.specs.Prelude.{is_some}
use Rattle.oct_odds.specs.Update.{IsWithin}
use Rattle.oct_odds.specs.Odds.{Odds}
use Rattle.oct_arena.specs.Entries.{live, spare}
use Rattle.oct_key.specs.Block.{root_block}
use Rattle.oct_tree.specs.Tree.{Tree, IsOver, value_at}
use Rattle.oct_tree.proofs.Paths.{value_within}
use Rattle.oct_edit.specs.Edits.{IsEdited, IsEagerEdit, IsTidyAlong}
use Rattle.oct_edit.proofs.Wholes.{same_total, whole_edited, whole_eager, whole_paths, whole_known}
use Rattle.oct_edit.specs.Steps.{IsTouched}
use Rattle.oct_merge.specs.Need.{merge_need}
use Rattle.oct_merge.specs.Walk.{need_in}
use Rattle.oct_merge.proofs.Homes.{need_by_blocks}
use Rattle.oct_merge.proofs.Joined.{merge_after, merge_sets}
use Rattle.oct_edit.proofs.NodesOver.{over_root}
use Rattle.oct_merge.proofs.Parts.{events_of}
use Rattle.oct_merge.proofs.merging.merge.Goals as goal

pub merge_at-requires-clause-over : goal.merge_at-requires-clause-over
merge_at-requires-clause-over c =
    subst (λ b. IsOver c.args.other.now b c.root.result) (sym c.whole_map.ensures)
    (λ k held. over_root c.args.other.now k held ∙ sym c.root.ensures.exact)

pub merge_at-requires-clause-room : goal.merge_at-requires-clause-room
merge_at-requires-clause-room c =
    subst (λ b. need_in c.args.into.now c.args.other.now b ≤ spare c.args.into.now.groups)
    (sym c.whole_map.ensures)
    (subst (λ n. n ≤ spare c.args.into.now.groups)
    (need_by_blocks c.args.into.now c.args.other.now c.requires.into.linked
    c.requires.other.linked)
    c.requires.room)

pub note-requires : goal.note-requires
note-requires c =
    whole_known c.args.into.now c.merge_at.new.tree
    (events_of c.args.rule c.args.into.now c.args.other.now) false c.tidiness-known.result
    (subst (λ b. IsTouched c.args.into.now c.merge_at.new.tree b
    (events_of c.args.rule c.args.into.now c.args.other.now) false)
    c.whole_map.ensures c.merge_at.ensures.touched)
    (λ h. false≢true h) c.tidiness-known.ensures.so

-- the edit within the whole map
touched : (c : goal.After-note)
    → IsTouched c.args.into.now c.merge_at.new.tree root_block
    (events_of c.args.rule c.args.into.now c.args.other.now) false
touched c =
    subst (λ b. IsTouched c.args.into.now c.merge_at.new.tree b
    (events_of c.args.rule c.args.into.now c.args.other.now) false)
    c.whole_map.ensures c.merge_at.ensures.touched

pub returns-clause-values : goal.returns-clause-values
returns-clause-values c k v =
    let edited =
    whole_edited c.args.into.now c.merge_at.new.tree
    (events_of c.args.rule c.args.into.now c.args.other.now) false
    (touched c) c.requires.into in
    let within =
    subst (λ (o : Odds). IsWithin o (value_at c.args.other.now k)) (sym c.requires.odds)
    (value_within c.args.other.now k c.requires.other.linked) in
    ap (λ (u : Tree). value_at u k) c.note.ensures.same ∙ sym (edited.values k v)
    ∙ merge_after c.args.into.now.odds c.args.rule (value_at c.args.into.now k)
    (value_at c.args.other.now k) (value_within c.args.into.now k c.requires.into.linked) within

pub returns-clause-edited : goal.returns-clause-edited
returns-clause-edited c =
    subst (λ u. IsEdited c.args.into.now u (events_of c.args.rule c.args.into.now c.args.other.now))
    (sym c.note.ensures.same)
    (whole_edited c.args.into.now c.merge_at.new.tree
    (events_of c.args.rule c.args.into.now c.args.other.now) false
    (touched c) c.requires.into)

pub returns-clause-eager : goal.returns-clause-eager
returns-clause-eager c =
    subst (λ u. IsEagerEdit c.args.into.now u
    (events_of c.args.rule c.args.into.now c.args.other.now))
    (sym c.note.ensures.same)
    (whole_eager c.args.into.now c.merge_at.new.tree
    (events_of c.args.rule c.args.into.now c.args.other.now) false
    (touched c) (λ h. false≢true h))

pub returns-clause-path : goal.returns-clause-path
returns-clause-path c k v known =
    let (m, is, _) =
    merge_sets c.args.rule (value_at c.args.into.now k) (value_at c.args.other.now k) known in
    subst (λ u. IsTidyAlong u k) (sym c.note.ensures.same)
    (whole_paths c.args.into.now c.merge_at.new.tree
    (events_of c.args.rule c.args.into.now c.args.other.now) false
    (touched c) (λ h. false≢true h) k v (ap is_some is))

pub returns-clause-room : goal.returns-clause-room
returns-clause-room c =
    subst (λ (u : Tree). live u.groups + spare u.groups ≡ live c.args.into.now.groups + spare
    c.args.into.now.groups)
    (sym c.note.ensures.same)
    (same_total c.args.into.now.groups c.merge_at.new.tree.groups
    (touched c).apart.outside.length)

pub returns-clause-groups : goal.returns-clause-groups
returns-clause-groups c =
    let total =
    same_total c.args.into.now.groups c.merge_at.new.tree.groups
    (touched c).apart.outside.length in
    let room =
    subst (λ b. spare c.args.into.now.groups ≤ spare c.merge_at.new.tree.groups + need_in
    c.args.into.now c.args.other.now b)
    c.whole_map.ensures c.merge_at.ensures.room in
    let need =
    need_by_blocks c.args.into.now c.args.other.now c.requires.into.linked
    c.requires.other.linked in
    subst (λ (u : Tree). live u.groups ≤ live c.args.into.now.groups + merge_need c.args.into.now
    c.args.other.now)
    (sym c.note.ensures.same) (omega (arith, total, room, need))
