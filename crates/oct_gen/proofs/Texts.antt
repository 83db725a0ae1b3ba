-- Lines that are put together piece by piece.
use Rattle.std.proofs.Common.{◌≡◌, ℕ, List, [], ◌++◌, refl, ap, ◌∙◌, append_assoc}
use Rattle.std.specs.Prelude.{codes}
use Rattle.std.specs.Fmt.{decimal, signed_decimal}
use Rattle.oct_gen.specs.Draws.{stepped, state_after, drawn_within}
use Rattle.oct_gen.specs.Script.{header_line, length_text, point_line, point_text, scan_line}
use Rattle.oct_gen.proofs.Shifts.{drawn_shift, length_shift}

seven_pieces : (z a b c d e f g k l m n o p q : List ℕ) → z ≡ [] → a ≡ z ++ k → b ≡ a ++ l
    → c ≡ b ++ m → d ≡ c ++ n → e ≡ d ++ o → f ≡ e ++ p → g ≡ f ++ q
    → g ≡ k ++ l ++ m ++ n ++ o ++ p ++ q
seven_pieces z a b c d e f g k l m n o p q ez ea eb ec ed ee ef eg =
    rw (eg, ef, ee, ed, ec, eb, ea, ez) refl

three_numbers : (k m o q first second third l n p : List ℕ) → first ≡ l → second ≡ n → third ≡ p
    → k ++ first ++ m ++ second ++ o ++ third ++ q ≡ k ++ l ++ m ++ n ++ o ++ p ++ q
three_numbers k m o q first second third l n p el en ep = rw (el, en, ep) refl

pub header_built : (seed scans points : ℕ) (z a b c d e f g first second third : List ℕ) → z ≡ []
    → a ≡ z ++ codes "# octomap gen " → b ≡ a ++ first
    → c ≡ b ++ codes " " → d ≡ c ++ second → e ≡ d ++ codes " " → f ≡ e ++ third
    → g ≡ f ++ codes "\n"
    → first ≡ decimal seed → second ≡ decimal scans → third ≡ decimal points
    → g ≡ header_line seed scans points
unfolding header_line
header_built seed scans points z a b c d e f g first second third ez ea eb ec ed ee ef eg e1 e2 e3 =
    seven_pieces z a b c d e f g (codes "# octomap gen ") first (codes " ") second (codes " ") third
    (codes "\n") ez ea eb ec ed ee ef eg
    ∙ three_numbers (codes "# octomap gen ") (codes " ") (codes " ")
    (codes "\n") first second third (decimal seed) (decimal scans) (decimal points) e1 e2 e3

five_behind : (z a b c d e k l m n o : List ℕ) → a ≡ z ++ k → b ≡ a ++ l → c ≡ b ++ m → d ≡ c ++ n
    → e ≡ d ++ o → e ≡ z ++ (k ++ l ++ m ++ n ++ o)
five_behind z a b c d e k l m n o ea eb ec ed ee =
    rw (ee, ed, ec, eb, ea) (
    ap (λ t. ((t ++ m) ++ n) ++ o) (append_assoc z k l)
    ∙ ap (λ t. (t ++ n) ++ o) (append_assoc z (k ++ l) m)
    ∙ ap (λ t. t ++ o) (append_assoc z (k ++ l ++ m) n)
    ∙ append_assoc z (k ++ l ++ m ++ n) o
    )

pub point_built : (reach s s1 s2 : ℕ) (z a b c d e : List ℕ) → s1 ≡ stepped s → s2 ≡ stepped s1
    → a ≡ z ++ length_text reach s 0 → b ≡ a ++ codes " "
    → c ≡ b ++ length_text reach s1 0 → d ≡ c ++ codes " " → e ≡ d ++ length_text reach s2 0
    → e ≡ z ++ point_text reach s 0
unfolding point_text
point_built reach s s1 s2 z a b c d e one two ea eb ec ed ee =
    let second : length_text reach s1 0 ≡ length_text reach s 1 =
    ap (λ (state : ℕ). length_text reach state 0) one ∙ length_shift reach 1 0 s in
    let third : length_text reach s2 0 ≡ length_text reach s 2 =
    ap (λ (state : ℕ). length_text reach state 0) (two ∙ ap stepped one) ∙ length_shift reach 2 0 s
    in
    five_behind z a b c d e (length_text reach s 0) (codes " ") (length_text reach s1 0) (codes " ")
    (length_text reach s2 0) ea eb ec ed ee
    ∙ ap (λ t. z
    ++ (length_text reach s 0 ++ codes " " ++ t ++ codes " " ++ length_text reach s2 0)) second
    ∙ ap (λ t. z ++ (length_text reach s 0 ++ codes " " ++ length_text reach s 1 ++ codes " " ++ t))
    third

three_pieces : (z a b c k l m : List ℕ) → z ≡ [] → a ≡ z ++ k → b ≡ a ++ l → c ≡ b ++ m
    → c ≡ k ++ l ++ m
three_pieces z a b c k l m ez ea eb ec = rw (ec, eb, ea, ez) refl

pub point_line_built : (s : ℕ) (z a b c : List ℕ) → z ≡ [] → a ≡ z ++ codes "p "
    → b ≡ a ++ point_text 5000 s 0 → c ≡ b ++ codes "\n" → c ≡ point_line s 0
unfolding point_line
point_line_built s z a b c ez ea eb ec = three_pieces z a b c (codes "p ") (point_text 5000 s 0)
    (codes "\n") ez ea eb ec

five_pieces : (z a b c d e k l m n o : List ℕ) → z ≡ [] → a ≡ z ++ k → b ≡ a ++ l → c ≡ b ++ m
    → d ≡ c ++ n → e ≡ d ++ o → e ≡ k ++ l ++ m ++ n ++ o
five_pieces z a b c d e k l m n o ez ea eb ec ed ee = rw (ee, ed, ec, eb, ea, ez) refl

pub scan_line_built : (s s3 : ℕ) (z a b c d e turn : List ℕ) → s3 ≡ state_after s 3 → z ≡ []
    → a ≡ z ++ codes "scan " → b ≡ a ++ point_text 2000 s 0
    → c ≡ b ++ codes " 1 0 0 " → d ≡ c ++ turn → e ≡ d ++ codes " 8\n"
    → turn ≡ signed_decimal (drawn_within 2 s3 0) → e ≡ scan_line s 0
unfolding scan_line
scan_line_built s s3 z a b c d e turn later ez ea eb ec ed ee drawn =
    let number : drawn_within 2 s3 0 ≡ drawn_within 2 s 3 =
    ap (λ (state : ℕ). drawn_within 2 state 0) later ∙ drawn_shift 2 3 0 s in
    five_pieces z a b c d e (codes "scan ") (point_text 2000 s 0) (codes " 1 0 0 ")
    (signed_decimal (drawn_within 2 s 3)) (codes " 8\n") ez ea eb ec
    (ed ∙ ap (λ t. c ++ t) (drawn ∙ ap signed_decimal number)) ee
