-- Counting a block: its kind and its data, from its last child to its first.
use Rattle.std.proofs.Common.{◌≡◌, ◌⊎◌, ℕ, zero, suc, ◌+◌, ◌-◌, ◌*◌, ◌<◌, ◌≤◌, Option, Some}
use Rattle.std.proofs.Common.{None, List, inl, inr, refl, sym, subst, ◌∙◌, ap, arith}
use Rattle.std.specs.Prelude.{Bool, false, is_some, IsTrue, IsSome, ◌↔◌}
use Rattle.std.proofs.lemmas.Bool.{false≢true, cases_lt}
use Rattle.oct_key.specs.Block.{Cube, child_of, root_block}
use Rattle.oct_arena.specs.declared.node.Node.{Node}
use Rattle.oct_arena.specs.Nodes.{link_of}
use Rattle.oct_odds.specs.declared.event.Class.{Class}
use Rattle.oct_odds.specs.declared.event.Class.TheVariants as class
use Rattle.oct_values.specs.Classes.{Classes, class_of_block}
use Rattle.oct_bt.specs.declared.counting.BlockCount.{BlockCount}
use Rattle.oct_bt.specs.declared.counting.Kind.{Kind}
use Rattle.oct_bt.specs.declared.counting.Kind.TheVariants.{Unknown, Free, Occupied, Several}
use Rattle.oct_bt.specs.declared.mixture.Mixture.TheVariants.{Pure, Mixed}
use Rattle.oct_bt.specs.Canonical.{data_of_child, data_below}
use Rattle.oct_bt.specs.Counts.{class_of_kind, IsBlockCount}
use Rattle.oct_bt.specs.Mixtures.{entry_nodes, IsCounted}
use Rattle.oct_bt.proofs.Uniform.{one_class_up, one_class_down}
use Rattle.oct_bt.proofs.Mixtures.{IsAbove}
use Rattle.oct_bt.proofs.Encodings.{IsDataCount, counted_leaves, counted_parted}
use Rattle.oct_bt.proofs.Counts.{AreTallied, to_tally, from_tally, child_above, tallied_pure}
use Rattle.oct_bt.proofs.Counts.{tallied_mixed, tallied_all}

-- kinds of one class are one
kind_from : Option Class → Kind
kind_from None = Several
kind_from (Some class.Unknown) = Unknown
kind_from (Some class.Free) = Free
kind_from (Some class.Occupied) = Occupied

kind_back : (k : Kind) → kind_from (class_of_kind k) ≡ k
unfolding kind_from
kind_back Unknown = refl
kind_back Free = refl
kind_back Occupied = refl
kind_back Several = refl

same_kind : (j k : Kind) → class_of_kind j ≡ class_of_kind k → j ≡ k
same_kind j k e = sym (kind_back j) ∙ ap kind_from e ∙ kind_back k

-- two kinds are one or not
kind_number : Kind → ℕ
kind_number Unknown = 0
kind_number Free = 1
kind_number Occupied = 2
kind_number Several = 3

numbered : ℕ → Kind
numbered zero = Unknown
numbered (suc zero) = Free
numbered (suc (suc zero)) = Occupied
numbered (suc (suc (suc n))) = Several

number_back : (k : Kind) → numbered (kind_number k) ≡ k
unfolding numbered kind_number
number_back Unknown = refl
number_back Free = refl
number_back Occupied = refl
number_back Several = refl

one_or_not : (j k : Kind) → (j ≡ k) ⊎ (j ≡ k → ⊥)
one_or_not j k = elim (cases_lt (kind_number j) (kind_number k)) [
  | inl less ↦ inr
      (λ e. (let same : kind_number j ≡ kind_number k = ap kind_number e in
      absurd (omega (arith, less, same))))
  | inr past ↦ elim (cases_lt (kind_number k) (kind_number j)) [
    | inl more ↦ inr
        (λ e. (let same : kind_number j ≡ kind_number k = ap kind_number e in
        absurd (omega (arith, more, same))))
    | inr under ↦ (let same : kind_number j ≡ kind_number k = omega (arith, past, under) in
        inl (sym (number_back j) ∙ ap numbered same ∙ number_back k))
  ]
]

-- what the kind of the children from the n-th on says
pub record IsKindFrom (c : Classes) (b : Cube) (n : ℕ) (k : Kind) : Type 0 where
  pub alike : (x : Class) → class_of_kind k ≡ Some x → (j : ℕ) → n ≤ j → j < 8
      → class_of_block c (child_of b j) ≡ Some x
  pub several : class_of_kind k ≡ None → class_of_block c b ≡ None

pub kind_first : (c : Classes) (b : Cube) → IsKindFrom c b 8 Unknown
kind_first c b = record {
  alike = λ x e j low high. absurd (omega arith);
  several = λ e. absurd (false≢true (ap is_some (sym e)));
}

-- with one child before them
pub kind_next : (c : Classes) (d : ℕ) (b : Cube) (done : ℕ) (k next r : Kind) → done < 8
    → IsAbove d b
    → class_of_block c (child_of b (7 - done)) ≡ class_of_kind next → IsKindFrom c b (8 - done) k
    → (done ≡ 0 → r ≡ next) → (k ≡ next → r ≡ next)
    → ((done ≡ 0 → ⊥) → (k ≡ next → ⊥) → r ≡ Several)
    → IsKindFrom c b (8 - (done + 1)) r
kind_next c d b done k next r less a is s first same other = elim (cases_lt 0 done) [
  | inr none ↦ (let zero_is : done ≡ 0 = omega (arith, none) in
      subst (IsKindFrom c b (8 - (done + 1))) (sym (first zero_is)) (record {
        alike = λ x e j low high. (let last : 7 - done ≡ j = omega (arith, zero_is, low, high) in
            subst (λ (j : ℕ). class_of_block c (child_of b j) ≡ Some x) last (is ∙ e));
        several = λ e. no_class (class_of_block c b) refl (λ x whole. absurd (false≢true (ap is_some
            (sym (is ∙ e) ∙ one_class_down c b (7 - done) x a.ok a.low (omega arith) whole))));
      }))
  | inl some ↦ by_kind some (one_or_not k next)
]
  where
    no_class : (o : Option Class) → class_of_block c b ≡ o
        → ((x : Class) → class_of_block c b ≡ Some x → class_of_block c b ≡ None)
        → class_of_block c b ≡ None
    no_class None e h = e
    no_class (Some x) e h = h x e

    joined : k ≡ next → IsKindFrom c b (8 - (done + 1)) r
    joined e = subst (IsKindFrom c b (8 - (done + 1))) (sym (same e)) (record {
      alike = λ x f j low high. elim (cases_lt (7 - done) j) [
        | inl later ↦ s.alike x (ap class_of_kind e ∙ f) j (omega (arith, later, less)) high
        | inr here ↦ (let at : 7 - done ≡ j = omega (arith, low, here, less) in
            subst (λ (j : ℕ). class_of_block c (child_of b j) ≡ Some x) at (is ∙ f))
      ];
      several = λ f. s.several (ap class_of_kind e ∙ f);
    })

    differ : 0 < done → (k ≡ next → ⊥) → class_of_block c b ≡ None
        → IsKindFrom c b (8 - (done + 1)) r
    differ some ne whole = subst (IsKindFrom c b (8 - (done + 1)))
        (sym (other (λ e. absurd (omega (arith, some, e))) ne)) (record {
          alike = λ x f j low high. absurd (false≢true (ap is_some f));
          several = λ f. whole;
        })

    unlike : (x : Class) → class_of_kind k ≡ Some x → 0 < done → (k ≡ next → ⊥) → class_of_block c b
        ≡ None
    unlike x e some ne = no_class (class_of_block c b) refl (λ y whole. absurd (ne (same_kind k next
        (e ∙ sym (s.alike x e 7 (omega (arith, some)) (omega arith))
        ∙ one_class_down c b 7 y a.ok a.low (omega arith) whole
        ∙ sym (one_class_down c b (7 - done) y a.ok a.low (omega arith) whole) ∙ is))))

    whole : 0 < done → (k ≡ next → ⊥) → (o : Option Class) → class_of_kind k ≡ o
        → class_of_block c b ≡ None
    whole some ne None e = s.several e
    whole some ne (Some x) e = unlike x e some ne

    by_kind : 0 < done → ((k ≡ next) ⊎ (k ≡ next → ⊥)) → IsKindFrom c b (8 - (done + 1)) r
    by_kind some (inl e) = joined e
    by_kind some (inr ne) = differ some ne (whole some ne (class_of_kind k) refl)

-- all children
pub kind_all : (c : Classes) (d : ℕ) (b : Cube) (done : ℕ) (k : Kind) → done ≡ 8 → IsAbove d b
    → IsKindFrom c b (8 - done) k
    → class_of_block c b ≡ class_of_kind k
kind_all c d b done k end a s = by (class_of_kind k) refl
  where
    by : (o : Option Class) → class_of_kind k ≡ o → class_of_block c b ≡ o
    by None e = s.several e
    by (Some x) e = one_class_up c b x a.ok a.low (λ i li. s.alike x e i (omega (arith, end)) li)

-- ---- the sums

-- a child with what it adds
pub counted_next : (c : Classes) (d : ℕ) (b : Cube) (done nodes number : ℕ) (k : Kind)
    (more_nodes more : ℕ) → done < 8 → IsAbove d b
    → class_of_block c (child_of b (7 - done)) ≡ class_of_kind k
    → IsCounted (data_of_child (class_of_block c (child_of b (7 - done)))
    (data_below c (16 - (d + 1)) (child_of b (7 - done)))) more_nodes more
    → AreTallied c d b done nodes number
    → AreTallied c d b (done + 1) (nodes + (entry_nodes (class_of_kind k) + more_nodes))
    (number + more)
counted_next c d b done nodes number k more_nodes more less a is counted s = by (class_of_kind k) is
  where
    not_mixed : (x y : Class) (way : ℕ) → Pure x ≡ Mixed y way → ⊥
    not_mixed x y way e = cc

    below : List ℕ
    below = data_below c (16 - (d + 1)) (child_of b (7 - done))

    by : (o : Option Class) → class_of_block c (child_of b (7 - done)) ≡ o
        → AreTallied c d b (done + 1) (nodes + (entry_nodes o + more_nodes)) (number + more)
    by None e =
        (let there = subst (λ o. IsCounted (data_of_child o below) more_nodes more) e counted in
        let sum : nodes + 1 + more_nodes ≡ nodes + (1 + more_nodes) = omega arith in
        subst (λ (n : ℕ). AreTallied c d b (done + 1) n (number + more)) sum
        (tallied_mixed c d b done nodes number more_nodes more less a e
        (to_tally c (d + 1)
        (child_of b (7 - done)) more_nodes more (child_above c d b (7 - done) a e) there) s))
    by (Some x) e =
        (let there = subst (λ o. IsCounted (data_of_child o below) more_nodes more) e counted in
        let none : 0 ≡ more_nodes = there.known in
        let no : 0 ≡ 2 * more = there.records in
        let sum : nodes + entry_nodes (Some x) ≡ nodes + (entry_nodes (Some x) + more_nodes) =
        omega (arith, none) in
        let same : number ≡ number + more = omega (arith, no) in
        subst (λ (n : ℕ). AreTallied c d b (done + 1) n (number + more)) sum
        (subst (λ (n : ℕ). AreTallied c d b (done + 1) (nodes + entry_nodes (Some x)) n) same
        (tallied_pure c d b done nodes number (Pure x) less e (not_mixed x) s)))

-- the whole block, of several classes
pub counted_several : (c : Classes) (d : ℕ) (b : Cube) (done nodes number : ℕ) (k : Kind) → done ≡ 8
    → IsAbove d b
    → IsKindFrom c b (8 - done) k → AreTallied c d b done nodes number → k ≡ Several
    → IsBlockCount c (16 - d) b (record { kind = k; known = nodes; records = number })
counted_several c d b done nodes number k end a kinds s is = record {
  kind = whole;
  counted = subst (λ o. IsCounted (data_of_child o (data_below c (16 - d) b)) nodes number)
      (sym (whole ∙ ap class_of_kind is))
      (from_tally c d b nodes number a (tallied_all c d b done nodes number end s));
}
  where
    whole : class_of_block c b ≡ class_of_kind k
    whole = kind_all c d b done k end a kinds

-- or of one
pub counted_one : (c : Classes) (h : ℕ) (b : Cube) (k : Kind) → class_of_block c b ≡ class_of_kind k
    → (k ≡ Several → ⊥)
    → IsBlockCount c h b (record { kind = k; known = 0; records = 0 })
counted_one c h b k is other = record { kind = is; counted = by k is other }
  where
    nothing : (x : Class) → class_of_block c b ≡ Some x
        → IsCounted (data_of_child (class_of_block c b) (data_below c h b)) 0 0
    nothing x e = subst (λ o. IsCounted (data_of_child o (data_below c h b)) 0 0) (sym e) (record {
      known = refl;
      records = refl;
    })

    by : (k : Kind) → class_of_block c b ≡ class_of_kind k → (k ≡ Several → ⊥)
        → IsCounted (data_of_child (class_of_block c b) (data_below c h b)) 0 0
    by Unknown e other = nothing class.Unknown e
    by Free e other = nothing class.Free e
    by Occupied e other = nothing class.Occupied e
    by Several e other = absurd (other refl)

-- a node that isn't Inner links nothing
pub no_link : (n : Node) (test : Bool) → (IsTrue test ↔ IsSome (link_of n)) → test ≡ false
    → link_of n ≡ None
no_link n test is e = by (link_of n) refl
  where
    by : (o : Option ℕ) → link_of n ≡ o → link_of n ≡ None
    by None f = f
    by (Some id) f = absurd (false≢true (sym e ∙ is.1 (ap is_some f)))

-- a leaf
pub counted_leaf : (c : Classes) (h : ℕ) (b : Cube) (k : Kind) (x : Class) → class_of_block c b
    ≡ Some x → class_of_kind k ≡ Some x
    → IsBlockCount c h b (record { kind = k; known = 0; records = 0 })
counted_leaf c h b k x is e =
    counted_one c h b k (is ∙ sym e)
    (λ f. absurd (false≢true (ap is_some (sym (ap class_of_kind f) ∙ e))))

-- ---- the whole map

-- of several classes
pub map_several : (c : Classes) (count : BlockCount) → IsBlockCount c 16 root_block count
    → count.kind ≡ Several
    → IsDataCount c count.known count.records
map_several c count s is =
    let none : class_of_block c root_block ≡ None = s.kind ∙ ap class_of_kind is in
    counted_parted c count.known count.records none
    (subst (λ o. IsCounted (data_of_child o (data_below c 16 root_block)) count.known count.records)
    none s.counted)

-- of one
one_known : (c : Classes) (count : BlockCount) (x : Class) → IsBlockCount c 16 root_block count
    → class_of_kind count.kind ≡ Some x
    → (0 ≡ count.known) × (0 ≡ count.records)
one_known c count x s e =
    let there = subst
    (λ o. IsCounted (data_of_child o (data_below c 16 root_block)) count.known count.records)
    (s.kind ∙ e) s.counted in
    let records = there.records in
    (there.known, omega (arith, records))

pub map_unknown : (c : Classes) (count : BlockCount) → IsBlockCount c 16 root_block count
    → count.kind ≡ Unknown
    → IsDataCount c count.known count.records
map_unknown c count s is =
    let (known, records) = one_known c count class.Unknown s (ap class_of_kind is) in
    subst (λ (n : ℕ). IsDataCount c n count.records) known
    (subst (λ (n : ℕ). IsDataCount c 0 n) records
    (counted_leaves c class.Unknown 0 0 (s.kind ∙ ap class_of_kind is)
    (record { known = refl; records = refl }) (omega arith, omega arith)))

pub map_known : (c : Classes) (count : BlockCount) → IsBlockCount c 16 root_block count
    → ((count.kind ≡ Free) ⊎ (count.kind ≡ Occupied))
    → IsDataCount c 8 1
map_known c count s (inl is) =
    counted_leaves c class.Free 8 1 (s.kind ∙ ap class_of_kind is)
    (record { known = refl; records = refl }) (omega arith, omega arith)
map_known c count s (inr is) =
    counted_leaves c class.Occupied 8 1 (s.kind ∙ ap class_of_kind is)
    (record { known = refl; records = refl }) (omega arith, omega arith)

-- what isn't all of a known class
pub map_other : (c : Classes) (count : BlockCount) → IsBlockCount c 16 root_block count
    → (((count.kind ≡ Free) ⊎ (count.kind ≡ Occupied)) → ⊥)
    → IsDataCount c count.known count.records
map_other c count s other = by count.kind refl
  where
    by : (k : Kind) → count.kind ≡ k → IsDataCount c count.known count.records
    by Unknown e = map_unknown c count s e
    by Free e = absurd (other (inl e))
    by Occupied e = absurd (other (inr e))
    by Several e = map_several c count s e
