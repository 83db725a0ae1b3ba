-- Bricks that are gathered beam by beam hold the codes that are.
use Rattle.std.proofs.Common.{◌≡◌, ◌≢◌, ℕ, ◌+◌, ◌-◌, ◌/◌, ◌^◌, ◌<◌, ◌⊎◌, ◌↔◌, inl, inr, true, false}
use Rattle.std.proofs.Common.{Bool, cond, List, [], ◌∷◌, ◌++◌, map, length, take, get_or, Option}
use Rattle.std.proofs.Common.{Some, refl, sym, subst, ◌∙◌, ap, arith, append_assoc}
use Rattle.std.specs.Prelude.{slice_get}
use Rattle.std.specs.List.{All, AllPairs, Contains}
use Rattle.std.proofs.lemmas.List.Elements.{All-contains, Contains-push, Contains-push_cases}
use Rattle.std.proofs.lemmas.List.Elements.{Contains-append_left, Contains-append_right}
use Rattle.std.proofs.lemmas.List.Elements.{Contains-append_cases}
use Rattle.oct_key.specs.Voxel.{Voxel, IsInMap, key_at}
use Rattle.oct_key.specs.Boxes.{Window}
use Rattle.oct_key.specs.Morton.{morton_of}
use Rattle.oct_key.specs.declared.point.Point.{Point}
use Rattle.oct_key.proofs.Interleavings.{morton_injective}
use Rattle.oct_ray.specs.Segment.{IsWalkAlong}
use Rattle.oct_brick.specs.declared.brick.Brick.{Brick}
use Rattle.oct_brick.specs.Masks.{HasCode}
use Rattle.oct_brick.specs.Bricks.{scanned_codes, hit_codes, IsBrick, HitsAreScanned}
use Rattle.oct_brick.proofs.Bits.{none_set}
use Rattle.oct_brick.proofs.BrickCodes.{codes_by}
use Rattle.oct_scan.specs.declared.beam.Beam.{Beam}
use Rattle.oct_scan.specs.Gathered.{HoldGathered, HoldAllGathered, IsBeamHeld, IsHeld}
use Rattle.oct_scan.specs.Gathered.{IsCurrent}
use Rattle.oct_scan.specs.Gathered.{end_codes, is_mute, kept}
use Rattle.oct_brick.proofs.Lists.{contains_none, contains_here, contains_later, contains_cases}
use Rattle.oct_brick.proofs.Lists.{contains_map, contains_from_map}
use Rattle.oct_scan.proofs.Kept.{kept_from, kept_listed}
use Rattle.oct_scan.proofs.Gathering.{IsBeamAdded, ends_with, once_last, gathered_none}
use Rattle.oct_scan.proofs.Gathering.{gathered_next, few_more, met_next}

-- an empty mask has no code
pub none_of : (mask b c : ℕ) → mask ≡ 0 → HasCode b mask c → ⊥
none_of mask b c e h = none_set b c (subst (λ m. HasCode b m c) e h)

-- one brick more, in which nothing is hit
pub pushed_unhit : (bs bs' : List Brick) (b : Brick)
    → ((c : ℕ) → Contains (hit_codes bs') c ↔ (Contains (hit_codes bs) c ⊎ HasCode b.code b.hits c))
    → b.hits ≡ 0 → (c : ℕ) → Contains (hit_codes bs') c ↔ Contains (hit_codes bs) c
pushed_unhit bs bs' b both none c = (
  λ h. elim ((both c).0 h) [ inl k ↦ k | inr k ↦ absurd (none_of b.hits b.code c none k) ],
  λ h. (both c).1 (inl h),
)

pub kept_scanned : (bs : List Brick) (b : Brick) → b.scanned ≡ 0 → (c : ℕ)
    → Contains (scanned_codes bs) c ↔ IsHeld bs b c
kept_scanned bs b none c =
    (λ h. inl h, λ h. elim h [ inl k ↦ k | inr k ↦ absurd (none_of b.scanned b.code c none k) ])

-- the end of a beam that isn't cut is a brick more, with one code
end_code : (t : Bool) (end c : ℕ) → t ≡ false → (Contains (cond t [] (end ∷ [])) c) ↔ (end ≡ c)
end_code true end c e = absurd (let h : ⊥ = cc in h)
end_code false end c e = (
  λ h. elim (contains_cases end c [] h) [ inl s ↦ s | inr k ↦ absurd (contains_none c k) ],
  λ h. subst (Contains (end ∷ [])) h (contains_here end []),
)

-- the bricks have the codes of others, in one mask, and those of one brick more
abbrev pub HasMore : (Brick → ℕ) → List Brick → List Brick → Brick → Type 0
HasMore f bs bs' b = (c : ℕ)
    → Contains (codes_by f bs') c ↔ (Contains (codes_by f bs) c ⊎ HasCode b.code (f b) c)

end_by : (f : Brick → ℕ) (bs bs' : List Brick) (around b : Brick) (end : ℕ) (t : Bool) → t ≡ false
    → HasMore f bs bs' b → f around ≡ 0
    → ((c : ℕ) → HasCode b.code (f b) c ↔ (HasCode around.code (f around) c ⊎ (end ≡ c))) → (c : ℕ)
    → Contains (codes_by f bs') c ↔ (Contains (codes_by f bs) c ⊎ Contains (cond t [] (end ∷ [])) c)
end_by f bs bs' around b end t whole more none both c =
    let one = end_code t end c whole in (
      λ h. elim ((more c).0 h) [
        | inl k ↦ inl k
        | inr k ↦ inr (elim ((both c).0 k)
            [ inl m ↦ absurd (none_of (f around) around.code c none m) | inr m ↦ one.1 m ])
      ],
      λ h. (more c).1 (elim h [ inl k ↦ inl k | inr k ↦ inr ((both c).1 (inr (one.0 k))) ]),
    )

pub end_scanned : (bs bs' : List Brick) (around b : Brick) (end : ℕ) (t : Bool) → t ≡ false
    → HasMore (λ b. b.scanned) bs bs' b → around.scanned ≡ 0
    → ((c : ℕ) → HasCode b.code b.scanned c ↔ (HasCode around.code around.scanned c ⊎ (end ≡ c)))
    → (c : ℕ) → Contains (scanned_codes bs') c
    ↔ (Contains (scanned_codes bs) c ⊎ Contains (cond t [] (end ∷ [])) c)
end_scanned bs bs' around b end t whole e none both =
    end_by (λ b. b.scanned) bs bs' around b end t whole e none both

pub end_hits : (bs bs' : List Brick) (around b : Brick) (end : ℕ) (t : Bool) → t ≡ false
    → HasMore (λ b. b.hits) bs bs' b → around.hits ≡ 0
    → ((c : ℕ) → HasCode b.code b.hits c ↔ (HasCode around.code around.hits c ⊎ (end ≡ c)))
    → (c : ℕ) → Contains (hit_codes bs') c
    ↔ (Contains (hit_codes bs) c ⊎ Contains (cond t [] (end ∷ [])) c)
end_hits bs bs' around b end t whole e none both =
    end_by (λ b. b.hits) bs bs' around b end t whole e none both

-- this many codes of a walk are still to come, without that of the end
abbrev pub ToCome : ℕ → List Voxel → ℕ → Type 0
ToCome end ks c = Contains (map morton_of ks) c × (end ≢ c)

-- the bricks, the current one and what is still to come are what there was and the walk
abbrev pub IsOnWay : ℕ → (ℕ → Type 0) → List Voxel → List Brick → Brick → List Voxel → Type 0
IsOnWay end old walk bs b ks = (c : ℕ)
    → (IsHeld bs b c ⊎ ToCome end ks c) ↔ (old c ⊎ ToCome end walk c)

-- the codes of bricks
abbrev pub codes_in : List Brick → ℕ → Type 0
codes_in bs c = Contains (scanned_codes bs) c

-- at first there is the current brick, or nothing in it
pub way_begun : (end : ℕ) (bs : List Brick) (walk : List Voxel) (b : Brick)
    → IsOnWay end (IsHeld bs b) walk bs b walk
way_begun end bs walk b c = (λ h. h, λ h. h)

pub way_none : (end : ℕ) (bs : List Brick) (walk : List Voxel) (b : Brick) → b.scanned ≡ 0
    → IsOnWay end (codes_in bs) walk bs b walk
way_none end bs walk b none c = (
  λ h. elim h [ inl k ↦ inl ((kept_scanned bs b none c).1 k) | inr k ↦ inr k ],
  λ h. elim h [ inl k ↦ inl (inl k) | inr k ↦ inr k ],
)

-- the code of the end is passed over
pub way_passed : (end : ℕ) (old : ℕ → Type 0) (walk : List Voxel) (bs : List Brick) (b : Brick)
    (ks ks' : List Voxel) (k : Voxel) (code : ℕ) → ks ≡ k ∷ ks' → code ≡ morton_of k → code ≡ end
    → IsOnWay end old walk bs b ks → IsOnWay end old walk bs b ks'
way_passed end old walk bs b ks ks' k code first is same h c = (
  λ m. (h c).0 (elim m [
    | inl p ↦ inl p
    | inr p ↦ inr (subst (λ l. ToCome end l c) (sym first)
        (contains_later (morton_of k) c (map morton_of ks') p.0, p.1))
  ]),
  λ m. elim ((h c).1 m) [
    | inl p ↦ inl p
    | inr p ↦ (let q : ToCome end (k ∷ ks') c = subst (λ l. ToCome end l c) first p in
        elim (contains_cases (morton_of k) c (map morton_of ks') q.0) [
          | inl e ↦ absurd (q.1 (sym same ∙ is ∙ e))
          | inr r ↦ inr (r, q.1)
        ])
  ],
)

-- another code is marked
pub way_marked : (end : ℕ) (old : ℕ → Type 0) (walk : List Voxel) (bs bs' : List Brick)
    (b b' : Brick) (ks ks' : List Voxel) (k : Voxel) (code : ℕ) → ks ≡ k ∷ ks' → code ≡ morton_of k
    → code ≢ end → ((c : ℕ) → IsHeld bs' b' c ↔ (IsHeld bs b c ⊎ (code ≡ c)))
    → IsOnWay end old walk bs b ks → IsOnWay end old walk bs' b' ks'
way_marked end old walk bs bs' b b' ks ks' k code first is other marked h c = (
  λ m. (h c).0 (elim m [
    | inl p ↦ elim ((marked c).0 p) [
      | inl q ↦ inl q
      | inr q ↦ inr (subst (λ l. ToCome end l c) (sym first) (
        subst (λ d. Contains (map morton_of (k ∷ ks')) d) (sym is ∙ q)
            (contains_here (morton_of k) (map morton_of ks')),
        λ e. other (q ∙ sym e),
      ))
    ]
    | inr p ↦ inr (subst (λ l. ToCome end l c) (sym first)
        (contains_later (morton_of k) c (map morton_of ks') p.0, p.1))
  ]),
  λ m. elim ((h c).1 m) [
    | inl p ↦ inl ((marked c).1 (inl p))
    | inr p ↦ (let q : ToCome end (k ∷ ks') c = subst (λ l. ToCome end l c) first p in
        elim (contains_cases (morton_of k) c (map morton_of ks') q.0) [
          | inl e ↦ inl ((marked c).1 (inr (is ∙ e)))
          | inr r ↦ inr (r, q.1)
        ])
  ],
)

-- at the end of the walk the current brick is added
pub way_all : (end : ℕ) (old : ℕ → Type 0) (walk : List Voxel) (bs bs' : List Brick) (b : Brick)
    (ks : List Voxel) → ks ≡ [] → ((c : ℕ) → Contains (scanned_codes bs') c ↔ IsHeld bs b c)
    → IsOnWay end old walk bs b ks → (c : ℕ)
    → Contains (scanned_codes bs') c ↔ (old c ⊎ ToCome end walk c)
way_all end old walk bs bs' b ks none pushed h c = (
  λ m. (h c).0 (inl ((pushed c).0 m)),
  λ m. elim ((h c).1 m) [
    | inl p ↦ (pushed c).1 p
    | inr p ↦ absurd (contains_none c
        (subst (λ (l : List Voxel). Contains (map morton_of l) c) none p.0))
  ],
)

-- the codes that are kept of a walk but that of its last voxel are those kept of the voxels before
front_codes : (window : Option Window) (front : List Voxel) (k : Voxel) (c : ℕ)
    → AllPairs (λ a b. a ≢ b) (front ++ k ∷ []) → All IsInMap (front ++ k ∷ [])
    → ToCome (morton_of k) (kept window (front ++ k ∷ [])) c
    ↔ Contains (map morton_of (kept window front)) c
front_codes window front k c once on_map = (
  λ h. (let r = contains_from_map morton_of (kept window (front ++ k ∷ [])) c h.0 in
      let in_box = kept_from window (front ++ k ∷ []) r.0 r.1 in
      elim (Contains-push_cases front k r.0 in_box.0) [
        | inl p ↦ subst (Contains (map morton_of (kept window front))) r.2
            (contains_map morton_of (kept window front) r.0
            (kept_listed window front r.0 p in_box.1))
        | inr e ↦ absurd (h.1 (ap morton_of e ∙ r.2))
      ]),
  λ h. (let r = contains_from_map morton_of (kept window front) c h in
      let in_box = kept_from window front r.0 r.1 in
      let there : Contains (front ++ k ∷ []) r.0 =
      Contains-append_left front (k ∷ []) r.0 in_box.0 in (
        subst (Contains (map morton_of (kept window (front ++ k ∷ [])))) r.2
            (contains_map morton_of (kept window (front ++ k ∷ [])) r.0
            (kept_listed window (front ++ k ∷ []) r.0 there in_box.1)),
        λ e. once_last front k r.0 once in_box.0
            (morton_injective r.0 k (All-contains IsInMap (front ++ k ∷ []) r.0 on_map there)
            (All-contains IsInMap (front ++ k ∷ []) k on_map (Contains-push front k))
            (r.2 ∙ sym e)),
      )),
)

-- a walk whose codes were marked, and whose end was added, is a beam held
pub beam_held : (edge : ℕ) (window : Option Window) (o : Point) (b : Beam) (met end : ℕ)
    (mute : Bool) (old mid new : List Brick) (walk : List Voxel) (k : Voxel)
    → IsWalkAlong edge o b.end walk → slice_get walk (length walk - 1) ≡ key_at edge b.end
    → key_at edge b.end ≡ Some k → All IsInMap walk → met ≡ length walk → end ≡ morton_of k
    → mute ≡ is_mute window b k →
    ((c : ℕ) → Contains (scanned_codes mid) c
    ↔ (Contains (scanned_codes old) c ⊎ ToCome end (kept window walk) c))
    → ((c : ℕ) → Contains (hit_codes mid) c ↔ Contains (hit_codes old) c) →
    ((c : ℕ) → Contains (scanned_codes new) c
    ↔ (Contains (scanned_codes mid) c ⊎ Contains (cond mute [] (end ∷ [])) c))
    → ((c : ℕ) → Contains (hit_codes new) c
    ↔ (Contains (hit_codes mid) c ⊎ Contains (cond mute [] (end ∷ [])) c))
    → IsBeamHeld edge window o b met old new
beam_held edge window o b met end mute old mid new walk k along last ended on_map counted is silent
    way unhit marked hit =
    let parts = ends_with walk k (last ∙ ended) in
    let front : List Voxel = parts.0 in
    let along' = subst (IsWalkAlong edge o b.end) parts.1 along in
    let on_map' = subst (All IsInMap) parts.1 on_map in
    let codes : (c : ℕ) → ToCome end (kept window walk) c
    ↔ Contains (map morton_of (kept window front)) c = λ c.
    subst (λ (w : List Voxel). ToCome end (kept window w) c
    ↔ Contains (map morton_of (kept window front)) c) (sym parts.1)
    (subst (λ e. ToCome e (kept window (front ++ k ∷ [])) c
    ↔ Contains (map morton_of (kept window front)) c) (sym is)
    (front_codes window front k c along'.once on_map')) in
    let judged : (c : ℕ) → Contains (cond mute [] (end ∷ [])) c
    ↔ Contains (end_codes window b k) c =
    λ c. subst (λ t. Contains (cond t [] (end ∷ [])) c ↔ Contains (end_codes window b k) c)
    (sym silent) (subst (λ e. Contains (cond (is_mute window b k) [] (e ∷ [])) c
    ↔ Contains (end_codes window b k) c) (sym is) (λ h. h, λ h. h)) in
    record {
      front = front;
      end = k;
      walk = along';
      on_map = on_map';
      ended = ended;
      counted = sym (counted ∙ ap length parts.1);
      marks = λ c. (
        λ h. elim ((marked c).0 h) [
          | inl m ↦ elim ((way c).0 m) [
            | inl p ↦ inl p
            | inr p ↦
                inr (Contains-append_left (map morton_of (kept window front)) (end_codes window b k)
                c
                ((codes c).0 p))
          ]
          | inr m ↦ inr (Contains-append_right (map morton_of (kept window front))
              (end_codes window b k) c ((judged c).0 m))
        ],
        λ h. (marked c).1 (elim h [
          | inl m ↦ inl ((way c).1 (inl m))
          | inr m ↦ elim (Contains-append_cases (map morton_of (kept window front))
              (end_codes window b k) c m) [
                | inl p ↦ inl ((way c).1 (inr ((codes c).1 p)))
                | inr p ↦ inr ((judged c).1 p)
              ]
        ]),
      );
      ends = λ c. (
        λ h. elim ((hit c).0 h) [ inl m ↦ inl ((unhit c).0 m) | inr m ↦ inr ((judged c).0 m) ],
        λ h. (hit c).1 (elim h [ inl m ↦ inl ((unhit c).1 m) | inr m ↦ inr ((judged c).1 m) ]),
      );
    }

pub held_none : (edge : ℕ) (window : Option Window) (o : Point)
    → HoldGathered edge window o [] [] 0
held_none edge window o = record {
  scanned = [];
  hits = [];
  gathered = gathered_none edge window o;
  few = omega arith;
  held = record { same_scanned = λ c. (λ h. h, λ h. h); same_hits = λ c. (λ h. h, λ h. h) };
}

-- lists that grow alike have the same codes
grown : (s t : List ℕ) (A B : ℕ → Type 0) → ((c : ℕ) → Contains s c ↔ A c)
    → ((c : ℕ) → B c ↔ (A c ⊎ Contains t c)) → (c : ℕ) → Contains (s ++ t) c ↔ B c
grown s t A B same more c = (
  λ h. (more c).1 (elim (Contains-append_cases s t c h)
      [ inl k ↦ inl ((same c).0 k) | inr k ↦ inr k ]),
  λ h. elim ((more c).0 h)
      [ inl k ↦ Contains-append_left s t c ((same c).1 k) | inr k ↦ Contains-append_right s t c k ],
)

-- after one beam more, bricks hold what is gathered along one beam more
pub held_next : (edge : ℕ) (window : Option Window) (o : Point) (bs : List Beam) (i : ℕ) (d : Beam)
    (met total : ℕ) (bricks bricks' : List Brick) → i < length bs
    → HoldGathered edge window o (take i bs) bricks total
    → IsBeamHeld edge window o (get_or bs i d) met bricks bricks'
    → HoldGathered edge window o (take (i + 1) bs) bricks' (total + met)
held_next edge window o bs i d met total bricks bricks' l h a =
    let b : Beam = get_or bs i d in
    let front : List ℕ = map morton_of (kept window a.front) in
    let end : List ℕ = end_codes window b a.end in
    let added : IsBeamAdded edge window o b met h.scanned ((h.scanned ++ front) ++ end) h.hits
    (h.hits ++ end) = record {
      front = a.front;
      end = a.end;
      walk = a.walk;
      on_map = a.on_map;
      ended = a.ended;
      counted = a.counted;
      marks = refl;
      ends = refl;
    } in
    record {
      scanned = (h.scanned ++ front) ++ end;
      hits = h.hits ++ end;
      gathered = gathered_next edge window o bs i d met h.scanned ((h.scanned ++ front) ++ end)
          h.hits (h.hits ++ end) l h.gathered added;
      few = (let n = few_more edge window o b met h.scanned ((h.scanned ++ front) ++ end) h.hits
          (h.hits ++ end) added in let f = h.few in omega (arith, n, f));
      held = record {
        same_scanned = λ c. subst
            (λ (l : List ℕ). Contains l c ↔ Contains (scanned_codes bricks') c)
            (sym (append_assoc h.scanned front end))
            (grown h.scanned (front ++ end) (λ c. Contains (scanned_codes bricks) c)
            (λ c. Contains (scanned_codes bricks') c) h.held.same_scanned a.marks c);
        same_hits = grown h.hits end (λ c. Contains (hit_codes bricks) c)
            (λ c. Contains (hit_codes bricks') c) h.held.same_hits a.ends;
      };
    }

-- a brick in which nothing is hit has its hits among its voxels
pub none_hit : (b : Brick) → b.hits ≡ 0 → HitsAreScanned b
none_hit b none = λ c k. absurd (none_of b.hits b.code c none k)

-- the brick around a voxel of the map is one of the map
pub around_below : (code end : ℕ) → code ≡ end / 64 → end < 2 ^ 48 → code < 2 ^ 42
around_below code end is below = omega (arith, is, below)

-- the current brick, with a voxel in it, is a brick
pub current_brick : (b : Brick) → IsCurrent b → b.scanned < 2 ^ 64 → b.scanned ≢ 0 → IsBrick b
current_brick b h fits some = record {
  code = h.code;
  fits = fits;
  hits_fit = (let e = h.unhit in omega (arith, e));
  some = omega (arith, some);
  part = none_hit b h.unhit;
}

pub all_none : (edge : ℕ) (window : Option Window) (o : Point)
    → HoldAllGathered edge window o [] []
all_none edge window o = record { total = 0; met = refl; all = held_none edge window o }

-- the same, with how many voxels are met
pub all_next : (edge : ℕ) (window : Option Window) (o : Point) (bs : List Beam) (i : ℕ) (d : Beam)
    (met : ℕ) (bricks bricks' : List Brick) → i < length bs
    → HoldAllGathered edge window o (take i bs) bricks
    → IsBeamHeld edge window o (get_or bs i d) met bricks bricks'
    → HoldAllGathered edge window o (take (i + 1) bs) bricks'
all_next edge window o bs i d met bricks bricks' l h a = record {
  total = h.total + met;
  met = met_next edge o bs i d h.total met l h.met
      (record { voxels = a.front ++ a.end ∷ []; walk = a.walk; counted = a.counted });
  all = held_next edge window o bs i d met h.total bricks bricks' l h.all a;
}
