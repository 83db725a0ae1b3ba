-- What is accepted is the text of its fields and of the values that it gives.
use Rattle.std.proofs.Common.{◌≡◌, ℕ, zero, suc, ◌+◌, ◌<◌, ◌≤◌, Option, Some, None, List, [], ◌∷◌}
use Rattle.std.proofs.Common.{◌++◌, length, drop, get_or, append-nil, append_assoc, refl, sym, ◌∙◌}
use Rattle.std.proofs.Common.{ap, arith}
use Rattle.std.specs.Prelude.{true, nat_eq, codes, slice_index, Ok}
use Rattle.std.specs.List.{starts_with}
use Rattle.std.proofs.lemmas.Bool.Decides.{Decides-eqb}
use Rattle.std.proofs.lemmas.List.Elements.{All-drop, All-get_or}
use Rattle.std.proofs.lemmas.Nat.{be_bytes_2, be_bytes_8}
use Rattle.std.proofs.lemmas.Slice.Eq.{starts_is}
use Rattle.oct_key.specs.Voxel.{Voxel, IsInMap}
use Rattle.oct_key.specs.Values.{Values}
use Rattle.oct_key.specs.Boxes.{Window}
use Rattle.oct_odds.specs.Odds.{Odds}
use Rattle.oct_snap.specs.Nodes.{Nodes, number_bytes, value_in}
use Rattle.oct_snap.specs.Texts.{odds_bytes, axis_bytes, voxel_bytes, window_bytes, res_bytes}
use Rattle.oct_snap.specs.Texts.{head_bytes, map_text, snap_text, old_text}
use Rattle.oct_snap.specs.Reading.{Snapshot, number_at, axis_at, voxel_at, odds_at, res_at}
use Rattle.oct_snap.specs.Reading.{read_snapshot, values_of}
use Rattle.oct_snap.proofs.Drops.{drop_at, drop_four}
use Rattle.oct_snap.proofs.Exact.{AreSmall}
use Rattle.oct_snap.proofs.Numbers.{bytes_back}
use Rattle.oct_snap.proofs.Meanings.{map_is}
use Rattle.oct_snap.proofs.WholeFills.{whole_read}
use Rattle.oct_snap.proofs.Again.{IsBoxAt, IsOldFile, IsNewFile}

-- ---- pieces at their places

small_at : (bytes : List ℕ) (at : ℕ) → AreSmall bytes → at < length bytes
    → slice_index bytes at < 256
small_at bytes at small inside = All-get_or (λ b. b < 256) bytes at 0 inside small

number_there : (bytes : List ℕ) (at : ℕ) → AreSmall bytes → at + 4 ≤ length bytes
    → drop at bytes ≡ number_bytes (number_at bytes at) ++ drop (at + 4) bytes
number_there bytes at small inside =
    drop_four bytes at inside ∙ ap (λ (t : List ℕ). t ++ drop (at + 4) bytes)
    (sym (bytes_back (slice_index bytes at) (slice_index bytes (at + 1))
    (slice_index bytes (at + 2)) (slice_index bytes (at + 3)) (
      small_at bytes at small (omega (arith, inside)),
      small_at bytes (at + 1) small (omega (arith, inside)),
      small_at bytes (at + 2) small (omega (arith, inside)),
      small_at bytes (at + 3) small (omega (arith, inside)),
    )))

two_small : (a b i : ℕ) → a < 256 → b < 256 → get_or (a ∷ b ∷ []) i 0 < 256
two_small a b zero x y = x
two_small a b (suc zero) x y = y
two_small a b (suc (suc i)) x y = omega arith

axis_there : (bytes : List ℕ) (at : ℕ) → AreSmall bytes → at + 2 ≤ length bytes
    → drop at bytes ≡ axis_bytes (axis_at bytes at) ++ drop (at + 2) bytes
axis_there bytes at small inside =
    let one : at + 1 + 1 ≡ at + 2 = omega arith in
    let a = slice_index bytes at in
    let b = slice_index bytes (at + 1) in
    drop_at bytes at (at + 1) refl (omega (arith, inside))
    ∙ ap (λ (t : List ℕ). a ∷ t) (drop_at bytes (at + 1) (at + 2) (sym one) (omega (arith, inside)))
    ∙ ap (λ (t : List ℕ). t ++ drop (at + 2) bytes)
    (sym (be_bytes_2 (a ∷ b ∷ []) (axis_at bytes at) refl
    (λ i. two_small a b i (small_at bytes at small (omega (arith, inside)))
    (small_at bytes (at + 1) small (omega (arith, inside)))) refl))

eight_small : (a b c d e f g h i : ℕ) → (a < 256) × (b < 256) × (c < 256) × (d < 256) × (e < 256)
    × (f < 256) × (g < 256) × (h < 256)
    → get_or (a ∷ b ∷ c ∷ d ∷ e ∷ f ∷ g ∷ h ∷ []) i 0 < 256
eight_small a b c d e f g h i (r, s, t, u, v, w, x, y) = by i
  where
    by : (i : ℕ) → get_or (a ∷ b ∷ c ∷ d ∷ e ∷ f ∷ g ∷ h ∷ []) i 0 < 256
    by zero = r
    by (suc zero) = s
    by (suc (suc zero)) = t
    by (suc (suc (suc zero))) = u
    by (suc (suc (suc (suc zero)))) = v
    by (suc (suc (suc (suc (suc zero))))) = w
    by (suc (suc (suc (suc (suc (suc zero)))))) = x
    by (suc (suc (suc (suc (suc (suc (suc zero))))))) = y
    by (suc (suc (suc (suc (suc (suc (suc (suc i)))))))) = omega arith

res_there : (bytes : List ℕ) → AreSmall bytes → 16 ≤ length bytes
    → drop 8 bytes ≡ res_bytes (res_at bytes) ++ drop 16 bytes
res_there bytes small inside =
    let s = λ (i : ℕ). slice_index bytes i in
    drop_four bytes 8 (omega (arith, inside))
    ∙ ap (λ (t : List ℕ). s 8 ∷ s 9 ∷ s 10 ∷ s 11 ∷ t) (drop_four bytes 12 (omega (arith, inside)))
    ∙ ap (λ (t : List ℕ). t ++ drop 16 bytes)
    (sym (be_bytes_8 (s 8 ∷ s 9 ∷ s 10 ∷ s 11 ∷ s 12 ∷ s 13 ∷ s 14 ∷ s 15 ∷ [])
    (res_at bytes) refl
    (λ i. eight_small (s 8) (s 9) (s 10) (s 11) (s 12) (s 13) (s 14) (s 15) i (
      small_at bytes 8 small (omega (arith, inside)),
      small_at bytes 9 small (omega (arith, inside)),
      small_at bytes 10 small (omega (arith, inside)),
      small_at bytes 11 small (omega (arith, inside)),
      small_at bytes 12 small (omega (arith, inside)),
      small_at bytes 13 small (omega (arith, inside)),
      small_at bytes 14 small (omega (arith, inside)),
      small_at bytes 15 small (omega (arith, inside)),
    )) refl))

three_joined : (a b c r : List ℕ) → a ++ (b ++ (c ++ r)) ≡ (a ++ (b ++ c)) ++ r
three_joined a b c r =
    sym (append_assoc a (b ++ c) r ∙ ap (λ (t : List ℕ). a ++ t) (append_assoc b c r))

five_joined : (a b c d e r : List ℕ) → a ++ (b ++ (c ++ (d ++ (e ++ r))))
    ≡ (a ++ (b ++ (c ++ (d ++ e)))) ++ r
five_joined a b c d e r = ap (λ (t : List ℕ). a ++ (b ++ t)) (three_joined c d e r)
    ∙ three_joined a b (c ++ (d ++ e)) r

voxel_there : (bytes : List ℕ) (at : ℕ) → AreSmall bytes → at + 6 ≤ length bytes
    → drop at bytes ≡ voxel_bytes (voxel_at bytes at) ++ drop (at + 6) bytes
voxel_there bytes at small inside =
    let two : at + 2 + 2 ≡ at + 4 = omega arith in
    let four : at + 4 + 2 ≡ at + 6 = omega arith in
    axis_there bytes at small (omega (arith, inside))
    ∙ ap (λ (t : List ℕ). axis_bytes (axis_at bytes at) ++ t)
    (axis_there bytes (at + 2) small (omega (arith, inside))
    ∙ ap (λ (n : ℕ). axis_bytes (axis_at bytes (at + 2)) ++ drop n bytes) two
    ∙ ap (λ (t : List ℕ). axis_bytes (axis_at bytes (at + 2)) ++ t)
    (axis_there bytes (at + 4) small (omega (arith, inside))
    ∙ ap (λ (n : ℕ). axis_bytes (axis_at bytes (at + 4)) ++ drop n bytes) four))
    ∙ three_joined (axis_bytes (axis_at bytes at)) (axis_bytes (axis_at bytes (at + 2)))
    (axis_bytes (axis_at bytes (at + 4))) (drop (at + 6) bytes)

odds_there : (bytes : List ℕ) → AreSmall bytes → 36 ≤ length bytes
    → drop 16 bytes ≡ odds_bytes (odds_at bytes) ++ drop 36 bytes
odds_there bytes small inside =
    number_there bytes 16 small (omega (arith, inside))
    ∙ ap (λ (t : List ℕ). number_bytes (number_at bytes 16) ++ t)
    (number_there bytes 20 small (omega (arith, inside))
    ∙ ap (λ (t : List ℕ). number_bytes (number_at bytes 20) ++ t)
    (number_there bytes 24 small (omega (arith, inside))
    ∙ ap (λ (t : List ℕ). number_bytes (number_at bytes 24) ++ t)
    (number_there bytes 28 small (omega (arith, inside))
    ∙ ap (λ (t : List ℕ). number_bytes (number_at bytes 28) ++ t)
    (number_there bytes 32 small (omega (arith, inside))))))
    ∙ five_joined (number_bytes (number_at bytes 16)) (number_bytes (number_at bytes 20))
    (number_bytes (number_at bytes 24))
    (number_bytes (number_at bytes 28)) (number_bytes (number_at bytes 32)) (drop 36 bytes)

magic_there : (bytes magic : List ℕ) → starts_with nat_eq bytes magic ≡ true
    → bytes ≡ magic ++ drop (length magic) bytes
magic_there bytes magic is =
    (starts_is Decides-eqb bytes magic (starts_with nat_eq bytes magic) refl).0 is

-- ---- the box

corners_are : (w : Window) (lo hi : Voxel) (rest : List ℕ) → w.lo ≡ lo → w.hi ≡ hi
    → 1 ∷ (voxel_bytes lo ++ (voxel_bytes hi ++ rest)) ≡ window_bytes (Some w) ++ rest
corners_are w lo hi rest low high =
    ap (λ (k : Voxel). 1 ∷ (voxel_bytes k ++ (voxel_bytes hi ++ rest))) (sym low)
    ∙ ap (λ (k : Voxel). 1 ∷ (voxel_bytes w.lo ++ (voxel_bytes k ++ rest))) (sym high)
    ∙ ap (λ (t : List ℕ). 1 ∷ t) (sym (append_assoc (voxel_bytes w.lo) (voxel_bytes w.hi) rest))

window_there : (bytes : List ℕ) (window : Option Window) (start : ℕ) → AreSmall bytes
    → 37 ≤ length bytes → IsBoxAt bytes window start
    → drop 36 bytes ≡ window_bytes window ++ drop start bytes
window_there bytes None start small inside (first, at) =
    drop_at bytes 36 37 refl (omega (arith, inside)) ∙ ap (λ (b : ℕ). b ∷ drop 37 bytes) first
    ∙ ap (λ (n : ℕ). 0 ∷ drop n bytes) (sym at)
window_there bytes (Some w) start small inside (first, all, low, high, at) =
    drop_at bytes 36 37 refl (omega (arith, inside)) ∙ ap (λ (b : ℕ). b ∷ drop 37 bytes) first
    ∙ ap (λ (t : List ℕ). 1 ∷ t) (voxel_there bytes 37 small (omega (arith, all))
    ∙ ap (λ (t : List ℕ). voxel_bytes (voxel_at bytes 37) ++ t)
    (voxel_there bytes 43 small (omega (arith, all))))
    ∙ corners_are w (voxel_at bytes 37) (voxel_at bytes 43) (drop 49 bytes) low high
    ∙ ap (λ (n : ℕ). window_bytes (Some w) ++ drop n bytes) (sym at)

-- ---- the whole

four_joined : (a b c d r : List ℕ) → a ++ (b ++ (c ++ (d ++ r))) ≡ (a ++ (b ++ (c ++ d))) ++ r
four_joined a b c d r = ap (λ (t : List ℕ). a ++ t) (three_joined b c d r)
    ∙ sym (append_assoc a (b ++ (c ++ d)) r)

-- the nodes after the fields
nodes_there : (o : Odds) (bytes : List ℕ) (s : Snapshot) (values : Values) → AreSmall bytes
    → read_snapshot o bytes ≡ Ok s
    → ((k : Voxel) → IsInMap k → values_of s k ≡ values k) → drop s.head.start bytes
    ≡ map_text values
nodes_there o bytes s values small is agree =
    let w = whole_read o bytes s is in
    map_is s.head.odds s.head.start (drop s.head.start bytes) w.one values
    (All-drop (λ b. b < 256) s.head.start bytes small) w.node
    (λ k ok. ap (λ (n : Nodes). value_in 0 n 0 k) w.nodes ∙ agree k ok)
    ∙ ap (λ (t : List ℕ). map_text values ++ t) w.none ∙ append-nil (map_text values)

pub new_text : (o : Odds) (bytes : List ℕ) (s : Snapshot) (values : Values) → AreSmall bytes
    → read_snapshot o bytes ≡ Ok s
    → ((k : Voxel) → IsInMap k → values_of s k ≡ values k) → IsNewFile bytes s.head
    → bytes ≡ snap_text s.head.res s.head.odds s.head.window values
unfolding snap_text
new_text o bytes s values small is agree file =
    let f = file.fields in
    let long = f.long in
    magic_there bytes (codes "OCTSNAP2") file.magic
    ∙ ap (λ (t : List ℕ). codes "OCTSNAP2" ++ t) (res_there bytes small (omega (arith, long))
    ∙ ap (λ (t : List ℕ). res_bytes (res_at bytes) ++ t)
    (odds_there bytes small (omega (arith, long))
    ∙ ap (λ (t : List ℕ). odds_bytes (odds_at bytes) ++ t)
    (window_there bytes s.head.window s.head.start small long f.window
    ∙ ap (λ (t : List ℕ). window_bytes s.head.window ++ t)
    (nodes_there o bytes s values small is agree))))
    ∙ four_joined (codes "OCTSNAP2") (res_bytes (res_at bytes)) (odds_bytes (odds_at bytes))
    (window_bytes s.head.window) (map_text values)
    ∙ ap (λ (n : ℕ). head_bytes n (odds_at bytes) s.head.window ++ map_text values) (sym f.res)
    ∙ ap (λ (p : Odds). head_bytes s.head.res p s.head.window ++ map_text values) (sym f.odds)

pub old_is : (o : Odds) (bytes : List ℕ) (s : Snapshot) (values : Values) → AreSmall bytes
    → read_snapshot o bytes ≡ Ok s
    → ((k : Voxel) → IsInMap k → values_of s k ≡ values k) → IsOldFile o bytes s.head
    → bytes ≡ old_text s.head.res values
unfolding old_text
old_is o bytes s values small is agree file =
    let f = file.fields in
    magic_there bytes (codes "OCTSNAP1") file.magic
    ∙ ap (λ (t : List ℕ). codes "OCTSNAP1" ++ t) (res_there bytes small f.long
    ∙ ap (λ (t : List ℕ). res_bytes (res_at bytes) ++ t)
    (ap (λ (n : ℕ). drop n bytes) (sym f.start) ∙ nodes_there o bytes s values small is agree))
    ∙ sym (append_assoc (codes "OCTSNAP1") (res_bytes (res_at bytes)) (map_text values))
    ∙ ap (λ (n : ℕ). (codes "OCTSNAP1" ++ res_bytes n) ++ map_text values) (sym f.res)
