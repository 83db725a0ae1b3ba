-- The fields of a snapshot, test by test.
use Rattle.std.proofs.Common.{◌≡◌, ℕ, ◌≤◌, Some, None, List, length}
use Rattle.std.proofs.Common.{sym, subst, ◌∙◌, ap, arith, cond}
use Rattle.std.specs.Prelude.{ℤ, IfOk, IfErr, Bool, true, false, nat_lt, nat_eq, codes}
use Rattle.std.specs.Prelude.{Result, Ok, Err}
use Rattle.std.specs.List.{starts_with}
use Rattle.oct_odds.specs.Odds.{Odds, odds, odds_of, first_bad_field}
use Rattle.oct_odds.specs.declared.model.OddsModel.{OddsModel}
use Rattle.oct_odds.specs.declared.model.BadModel.{BadModel}
use Rattle.oct_snap.specs.declared.fault.SnapFault.{SnapFault}
use Rattle.oct_snap.specs.declared.fault.SnapFault.TheVariants.{BadMagic, Truncated, BadSnapshot}
use Rattle.oct_snap.specs.declared.head.FieldsRead.{FieldsRead}
use Rattle.oct_snap.specs.Reading.{Fields, number_at}
use Rattle.oct_snap.specs.Reading.{odds_at, read_version, res_at, is_resolution}
use Rattle.oct_snap.specs.Reading.{read_res, read_fields}
use Rattle.oct_snap.specs.Checked.{AreFieldsRead}

pub not_less_test : (a b : ℕ) → b ≤ a → nat_lt a b ≡ false
not_less_test a b h = grind (arith, h)

pub fields_by : (bytes : List ℕ) (r q : Result Fields SnapFault)
    (seen : Result FieldsRead SnapFault) → r ≡ q → AreFieldsRead bytes q seen
    → AreFieldsRead bytes r seen
fields_by bytes r q seen is h = subst (λ (r : Result Fields SnapFault). AreFieldsRead bytes r seen)
    (sym is) h

-- ---- the resolution

pub res_test : (o : Odds) (bytes : List ℕ) (old is : Bool) → 16 ≤ length bytes
    → is_resolution (res_at bytes) ≡ is
    → read_res o bytes old
    ≡ cond {A = Result Fields SnapFault} is (read_version o bytes (res_at bytes) old)
    (Err (BadSnapshot 8))
res_test o bytes old is many test =
    ap (λ (b : Bool). cond {A = Result Fields SnapFault} b (Err (Truncated (length bytes)))
    (cond {A = Result Fields SnapFault} (is_resolution (res_at bytes))
    (read_version o bytes (res_at bytes) old) (Err (BadSnapshot 8))))
    (not_less_test (length bytes) 16 many)
    ∙ ap (λ (b : Bool). cond {A = Result Fields SnapFault} b
    (read_version o bytes (res_at bytes) old) (Err (BadSnapshot 8))) test

pub res_there : (o : Odds) (bytes : List ℕ) (old kind : Bool) (res : ℕ)
    (seen : Result FieldsRead SnapFault) → 16 ≤ length bytes
    → (res ≡ res_at bytes) × (is_resolution (res_at bytes) ≡ true) → old ≡ kind
    → AreFieldsRead bytes (read_version o bytes res kind) seen
    → AreFieldsRead bytes (read_res o bytes old) seen
res_there o bytes old kind res seen many (same, test) is h =
    fields_by bytes _ (read_version o bytes res kind) seen
    (res_test o bytes old true many test ∙ ap (λ (r : ℕ). read_version o bytes r old) (sym same)
    ∙ ap (read_version o bytes res) is) h

-- ---- the magic

pub magic_old : (o : Odds) (bytes : List ℕ) (seen : Result FieldsRead SnapFault)
    → starts_with nat_eq bytes (codes "OCTSNAP1") ≡ true
    → AreFieldsRead bytes (read_res o bytes true) seen
    → AreFieldsRead bytes (read_fields o bytes) seen
unfolding read_fields
magic_old o bytes seen is h = fields_by bytes _ (read_res o bytes true) seen
    (ap (λ (b : Bool). cond {A = Result Fields SnapFault} b (read_res o bytes true)
    (cond {A = Result Fields SnapFault} (starts_with nat_eq bytes (codes "OCTSNAP2"))
    (read_res o bytes false) (Err BadMagic))) is) h

pub magic_new : (o : Odds) (bytes : List ℕ) (new : Bool) (seen : Result FieldsRead SnapFault)
    → starts_with nat_eq bytes (codes "OCTSNAP1") ≡ false
    → starts_with nat_eq bytes (codes "OCTSNAP2") ≡ new
    → AreFieldsRead bytes (cond {A = Result Fields SnapFault} new (read_res o bytes false)
    (Err BadMagic)) seen → AreFieldsRead bytes (read_fields o bytes) seen
unfolding read_fields
magic_new o bytes new seen not is h =
    fields_by bytes _ (cond {A = Result Fields SnapFault} new (read_res o bytes false)
    (Err BadMagic)) seen
    (ap (λ (b : Bool). cond {A = Result Fields SnapFault} b (read_res o bytes true)
    (cond {A = Result Fields SnapFault} (starts_with nat_eq bytes (codes "OCTSNAP2"))
    (read_res o bytes false) (Err BadMagic))) not
    ∙ ap (λ (b : Bool). cond {A = Result Fields SnapFault} b (read_res o bytes false)
    (Err BadMagic)) is) h

-- ---- the model

pub odds_are : (a b c d e : ℤ) (bytes : List ℕ) → a ≡ number_at bytes 16 → b ≡ number_at bytes 20
    → c ≡ number_at bytes 24
    → d ≡ number_at bytes 28 → e ≡ number_at bytes 32 → odds a b c d e ≡ odds_at bytes
odds_are a b c d e bytes p q r s t =
    ap (λ (n : ℤ). odds n b c d e) p ∙ ap (λ (n : ℤ). odds (number_at bytes 16) n c d e) q
    ∙ ap (λ (n : ℤ). odds (number_at bytes 16) (number_at bytes 20) n d e) r
    ∙ ap (λ (n : ℤ). odds (number_at bytes 16) (number_at bytes 20) (number_at bytes 24) n e) s
    ∙ ap (λ (n : ℤ). odds (number_at bytes 16) (number_at bytes 20) (number_at bytes 24)
    (number_at bytes 28) n) t

pub odds_ok : (r : Result OddsModel BadModel) (p q : Odds) → p ≡ q → IfOk r (λ m. odds_of m ≡ p)
    → IfOk r (λ _. first_bad_field p ≡ None)
    → IfOk r (λ m. (odds_of m ≡ q) × (first_bad_field q ≡ None))
odds_ok (Ok m) p q same ok none = (ok ∙ same, ap first_bad_field (sym same) ∙ none)
odds_ok (Err e) p q same ok none = tt

pub odds_bad : (r : Result OddsModel BadModel) (p q : Odds) → p ≡ q
    → IfErr r (λ e. first_bad_field p ≡ Some e.which)
    → IfErr r (λ e. first_bad_field q ≡ Some e.which)
odds_bad (Ok m) p q same bad = tt
odds_bad (Err e) p q same bad = ap first_bad_field (sym same) ∙ bad
