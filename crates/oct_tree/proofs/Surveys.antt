-- What a pass over a group's eight nodes finds.
use Rattle.std.proofs.Common.{◌≡◌, ℕ, zero, suc, ◌+◌, ◌<◌, sym, refl, ◌∙◌, ap, subst, arith, inl}
use Rattle.std.proofs.Common.{inr, Some, None}
use Rattle.std.specs.Prelude.{◌^◌, ◌≢◌, Option, ℤ, pos, neg_ℤ, ◌≤ℤ◌, ◌⊎◌}
use Rattle.std.proofs.lemmas.Bool.{cases_lt}
use Rattle.std.proofs.lemmas.Int.{ints}
use Rattle.oct_odds.specs.Update.{Value}
use Rattle.oct_arena.specs.declared.node.Node.{Node}
use Rattle.oct_arena.specs.declared.node.Node.TheVariants.{Absent, Leaf, Inner}
use Rattle.oct_arena.specs.Entries.{Groups, node_at}
use Rattle.oct_tree.specs.Nodes.{IsAll, IsCollapsible, IsKnown, IsGreatest}
use Rattle.oct_arena.specs.Nodes.{link_of, stored_in, IsRankOf}

same_some : {A : Type 0} {x y : A} {o : Option A} → o ≡ Some x → o ≡ Some y → x ≡ y
same_some p q = cc

up_to : (a b c : ℤ) → a ≤ℤ b → b ≤ℤ c → a ≤ℤ c
up_to a b c p q = omega (arith, ints)

below : (i n : ℕ) → i < n + 1 → (i < n) ⊎ (i ≡ n)
below i n l = elim (cases_lt i n) [ inl m ↦ inl m | inr m ↦ inr (omega arith) ]

-- the least number of 32 bits
abbrev least : ℤ
least = neg_ℤ (pos (2 ^ 31))

-- m is the greatest rank of a group's first n nodes, or the least number where n is 0
pub record IsGreatestRank (gs : Groups) (id n : ℕ) (m : ℤ) : Type 0 where
  pub there : (m ≡ least) ⊎ ((i : ℕ) × (i < n) × (stored_in (node_at gs id i) ≡ Some m))
  pub most : (i : ℕ) (v : ℤ) → i < n → stored_in (node_at gs id i) ≡ Some v → v ≤ℤ m
  pub fits : (i : ℕ) (v : ℤ) → i < n → stored_in (node_at gs id i) ≡ Some v → least ≤ℤ v

stored_of : (gs : Groups) (id i n : ℕ) (o : Value) → i ≡ n → stored_in (node_at gs id n) ≡ o
    → stored_in (node_at gs id i) ≡ o
stored_of gs id i n o e f = ap (λ j. stored_in (node_at gs id j)) e ∙ f

-- one more node, of which the stored value is o: the greater of the ranks
pub rank_more : (gs : Groups) (id n : ℕ) (o : Value) (m r x : ℤ) → IsGreatestRank gs id n m
    → stored_in (node_at gs id n) ≡ o → IsRankOf o r → m ≤ℤ x → r ≤ℤ x → (x ≡ m) ⊎ (x ≡ r)
    → IsGreatestRank gs id (n + 1) x
rank_more gs id n None m r x h at rank lm lr which = record {
  there = elim which [
    | inl same ↦ elim h.there [
      | inl low ↦ inl (same ∙ low)
      | inr (i, l, f) ↦ inr (i, omega arith, f ∙ ap Some (sym same))
    ]
    | inr same ↦ inl (same ∙ rank)
  ];
  most = λ i v l f. elim (below i n l) [
    | inl before ↦ up_to v m x (h.most i v before f) lm
    | inr here ↦ let none = stored_of gs id i n None here at in cc
  ];
  fits = λ i v l f. elim (below i n l) [
    | inl before ↦ h.fits i v before f
    | inr here ↦ let none = stored_of gs id i n None here at in cc
  ];
}
rank_more gs id n (Some w) m r x h at rank lm lr which = record {
  there = elim which [
    | inl same ↦ elim h.there [
      | inl low ↦ inl (same ∙ low)
      | inr (i, l, f) ↦ inr (i, omega arith, f ∙ ap Some (sym same))
    ]
    | inr same ↦ inr (n, omega arith, at ∙ ap Some (sym (same ∙ rank.0)))
  ];
  most = λ i v l f. elim (below i n l) [
    | inl before ↦ up_to v m x (h.most i v before f) lm
    | inr here ↦
        let one : v ≡ w = same_some f (stored_of gs id i n (Some w) here at) in
        subst (λ y. y ≤ℤ x) (rank.0 ∙ sym one) lr
  ];
  fits = λ i v l f. elim (below i n l) [
    | inl before ↦ h.fits i v before f
    | inr here ↦
        let one : v ≡ w = same_some f (stored_of gs id i n (Some w) here at) in
        subst (λ y. least ≤ℤ y) (sym one) rank.1
  ];
}

stored_some : (n : Node) → n ≢ Absent → (v : ℤ) × (stored_in n ≡ Some v)
stored_some Absent some = absurd (some refl)
stored_some (Leaf v) some = (v, refl)
stored_some (Inner v id) some = (v, refl)

-- of all eight, where one isn't absent, the greatest rank is the greatest value
pub rank_greatest : (gs : Groups) (id : ℕ) (m : ℤ) → IsGreatestRank gs id 8 m → IsKnown gs id
    → IsGreatest gs id m
rank_greatest gs id m h (k, l, some) =
    let (v, f) = stored_some (node_at gs id k) some in
    let up : v ≤ℤ m = h.most k v l f in
    let low : least ≤ℤ v = h.fits k v l f in
    record {
      there = elim h.there [
        | inl is ↦
            let same : v ≡ m = omega (arith, ints, up, low, is) in
            (k, l, f ∙ ap Some same)
        | inr at ↦ at
      ];
      most = h.most;
    }

absent_or : (n : Node) → (n ≡ Absent) ⊎ (n ≢ Absent)
absent_or Absent = inl refl
absent_or (Leaf v) = inr (λ e. cc)
absent_or (Inner v id) = inr (λ e. cc)

known_or : (gs : Groups) (id n : ℕ)
    → ((i : ℕ) × (i < n) × (node_at gs id i ≢ Absent))
    ⊎ ((i : ℕ) → i < n → node_at gs id i ≡ Absent)
known_or gs id zero = inr (λ i l. absurd (omega arith))
known_or gs id (suc n) = elim (known_or gs id n) [
  | inl (i, l, some) ↦ inl (i, omega arith, some)
  | inr none ↦ elim (absent_or (node_at gs id n)) [
    | inl is ↦ inr (λ i l. elim (below i n (omega arith)) [
      | inl before ↦ none i before
      | inr here ↦ ap (node_at gs id) here ∙ is
    ])
    | inr some ↦ inl (n, omega arith, some)
  ]
]

-- a group that isn't collapsible has a node that isn't absent
pub uncollapsible_known : (gs : Groups) (id : ℕ) → (IsCollapsible gs id → ⊥) → IsKnown gs id
uncollapsible_known gs id not = elim (known_or gs id 8) [
  | inl known ↦ known
  | inr none ↦ absurd (not (inl none))
]

-- a group whose nodes are all one node that is not Inner is collapsible
pub all_collapsible : (gs : Groups) (id : ℕ) (n : Node) → link_of n ≡ None → IsAll gs id n
    → IsCollapsible gs id
all_collapsible gs id Absent h all = inl all
all_collapsible gs id (Leaf v) h all = inr (v, all)
all_collapsible gs id (Inner v y) h all = cc
