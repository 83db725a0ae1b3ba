-- What a group says is what its entry says, and which trees are well-formed.
use Rattle.std.proofs.Common.{◌≡◌, ℕ, ◌+◌, sym, ◌∙◌, ap, inl, inr, Some}
use Rattle.std.specs.Prelude.{ℤ, option_map}
use Rattle.oct_key.specs.Block.{Cube, child_of}
use Rattle.oct_key.proofs.Blocks.{depth_child_of}
use Rattle.oct_arena.specs.declared.node.Node.TheVariants.{Absent, Leaf}
use Rattle.oct_arena.specs.Nodes.{stored_in}
use Rattle.oct_arena.specs.Entries.{Groups, IsLive, entry, home_at, node_at, node_of}
use Rattle.oct_tree.specs.declared.place.Place.{Place}
use Rattle.oct_tree.specs.declared.place.Place.TheVariants.{Slot}
use Rattle.oct_tree.specs.Nodes.{IsCollapsible, IsKnown, IsGreatest}
use Rattle.oct_tree.specs.Tree.{Tree, IsLinked, node_in}
use Rattle.oct_tree.specs.Shape.{IsWellFormed}
use Rattle.oct_tree.specs.Changes.{IsWritten}
use Rattle.oct_tree.proofs.Paths.{some_injective, live_home, homed_entry}
use Rattle.oct_tree.proofs.Links.{same_place}
use Rattle.oct_tree.proofs.Frames.{id_of}

-- facts of a group are facts of its entry
pub known_of : (gs hs : Groups) (x : ℕ) → entry hs x ≡ entry gs x → IsKnown gs x → IsKnown hs x
known_of gs hs x e h =
    (let (i, l, some) = h in (i, l, λ f. some (ap (λ r. node_of r i) (sym e) ∙ f)))

pub collapsible_of : (gs hs : Groups) (x : ℕ) → entry hs x ≡ entry gs x → IsCollapsible hs x
    → IsCollapsible gs x
collapsible_of gs hs x e (inl none) = inl (λ i l. ap (λ r. node_of r i) (sym e) ∙ none i l)
collapsible_of gs hs x e (inr (v, leaf)) = inr (v, λ i l. ap (λ r. node_of r i) (sym e) ∙ leaf i l)

pub greatest_of : (gs hs : Groups) (x : ℕ) (m : ℤ) → entry hs x ≡ entry gs x → IsGreatest gs x m
    → IsGreatest hs x m
greatest_of gs hs x m e h = record {
  there = (let (i, l, is) = h.there in (i, l, ap (λ r. stored_in (node_of r i)) e ∙ is));
  most = λ i v l is. h.most i v l (ap (λ r. stored_in (node_of r i)) (sym e) ∙ is);
}

leaf_known : (v : ℤ) → Leaf v ≡ Absent → ⊥
leaf_known v h = cc

-- a leaf that is put at a place keeps the tree well-formed
pub leaf_formed : (t u : Tree) (p : Place) (v : ℤ) → IsWellFormed t → IsWritten t u p (Leaf v)
    → IsLinked u → IsWellFormed u
leaf_formed t u p v f w l = record { linked = l; known = known }
  where
    known : (x : ℕ) → IsLive u.groups x → IsKnown u.groups x
    known x h =
        let (b, e) = live_home (entry u.groups x) h in
        let live : IsLive t.groups x = homed_entry _ b (sym (w.homes x) ∙ e) in
        let (id, is) = id_of t f.linked x live in
        let (i, li, ne) = f.known x live in (
          i,
          li,
          λ a. elim (same_place (Slot id i) p) [
            | inl g ↦ leaf_known v
                (sym w.there ∙ ap (node_in u) (sym g) ∙ ap (λ n. node_at u.groups n i) is ∙ a)
            | inr g ↦ ne
                (ap (λ n. node_at t.groups n i) (sym is) ∙ sym (w.others (Slot id i) g)
                ∙ ap (λ n. node_at u.groups n i) is ∙ a)
          ],
        )

-- the block of a slot is one deeper than its group's home
pub child_depth : (t : Tree) (id i depth : ℕ) (b : Cube) → home_at t.groups id ≡ Some b
    → b.depth ≡ depth → (c : Cube)
    → option_map (λ b. child_of b i) (home_at t.groups id) ≡ Some c → c.depth ≡ depth + 1
child_depth t id i depth b home deep c e =
    let is : child_of b i ≡ c =
    some_injective (sym (ap (option_map (λ b. child_of b i)) home) ∙ e) in
    ap (λ (d : Cube). d.depth) (sym is) ∙ depth_child_of b i ∙ ap (λ n. n + 1) deep
