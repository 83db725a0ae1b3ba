-- A file that ends, and what a reader then answers.
use Rattle.std.proofs.Common.{◌≡◌, ℕ, Bool, true, false, cond, Option, Some, None, List, [], ◌∷◌}
use Rattle.std.proofs.Common.{length, drop, refl, sym, subst, ◌∙◌, ap, Result, Ok, Err}
use Rattle.std.specs.List.{slice_split}
use Rattle.std.proofs.lemmas.Bool.{false≢true}
use Rattle.oct_bt.specs.declared.fault.BtFault.{BtFault}
use Rattle.oct_bt.specs.Header.{HeaderLine, Header, is_line_feed, first_line_fault, unless_faulty}
use Rattle.oct_bt.specs.Header.{header_at, header_of, head_of, data_line, no_data_line}
use Rattle.oct_bt.specs.NodeData.{Reading, HasRead, Progress, after_bytes, at_first, read_nodes}
use Rattle.oct_bt.specs.File.{FileRead, file_with, after_header, reading}
use Rattle.oct_bt.specs.Reading.{Head, FileProgress, Heading, Refused, Body, Spent, fault_or}
use Rattle.oct_bt.specs.Reading.{head_fault, unended, has_ended, heading_of, opened, body_of}
use Rattle.oct_bt.specs.Reading.{progress_at, file_progress}
use Rattle.oct_bt.proofs.Headers.{some_part, first_part, mark_first}
use Rattle.oct_bt.proofs.HeadSteps.{mark_in}

-- a first line that hasn't ended is the whole head
unbegun_mark : (head : List ℕ) → has_ended (slice_split is_line_feed head) ≡ false
    → first_line_fault (unended (slice_split is_line_feed head)) ≡ first_line_fault head
unfolding unended first_part
unbegun_mark head begun =
    let (p, ps, is) = some_part head in
    ap first_line_fault (by_parts p ps (sym (ap has_ended is) ∙ begun) is) ∙ mark_first head
  where
    by_parts : (p : List ℕ) (ps : List (List ℕ)) → has_ended (p ∷ ps) ≡ false
        → slice_split is_line_feed head ≡ p ∷ ps
        → unended (slice_split is_line_feed head) ≡ first_part (slice_split is_line_feed head)
    by_parts p [] begun is = ap unended is ∙ sym (ap first_part is)
    by_parts p (q ∷ ps) begun is = absurd (false≢true (sym begun))

-- the fault of a head
head_ended : (head : List ℕ) → data_line head ≡ None → Err (head_fault (heading_of head))
    ≡ header_of head
unfolding header_of
head_ended head none =
    by_mark (has_ended (slice_split is_line_feed head)) refl ∙ by_fault (first_line_fault head)
    ∙ sym (ap (λ o. unless_faulty (first_line_fault head) (header_at head o)) none)
  where
    by_fault : (m : Option BtFault)
        → ◌≡◌ {A = Result Header BtFault} (Err (fault_or m (no_data_line (length head))))
        (unless_faulty m (Err (no_data_line (length head))))
    by_fault None = refl
    by_fault (Some fault) = refl

    by_mark : (t : Bool) → has_ended (slice_split is_line_feed head) ≡ t
        → ◌≡◌ {A = Result Header BtFault} (Err (head_fault (heading_of head)))
        (Err (fault_or (first_line_fault head) (no_data_line (length head))))
    by_mark true begun =
        ap (λ t. Err
        (fault_or
        (cond t (mark_in t head) (first_line_fault (unended (slice_split is_line_feed head))))
        (no_data_line (length head)))) begun
    by_mark false begun =
        ap (λ t. Err
        (fault_or (cond t (mark_in t head)
        (first_line_fault (unended (slice_split is_line_feed head)))) (no_data_line (length head))))
        begun
        ∙ ap (λ m. Err (fault_or m (no_data_line (length head)))) (unbegun_mark head begun)

-- what the parts of a progress are
is_heading : FileProgress → Bool
is_heading (Heading head) = true
is_heading (Refused fault) = false
is_heading (Body header progress) = false
is_heading Spent = false

is_body : FileProgress → Bool
is_body (Heading head) = false
is_body (Refused fault) = false
is_body (Body header progress) = true
is_body Spent = false

head_in : Head → FileProgress → Head
head_in other (Heading head) = head
head_in other (Refused fault) = other
head_in other (Body header progress) = other
head_in other Spent = other

fault_in : FileProgress → Option BtFault
fault_in (Heading head) = None
fault_in (Refused fault) = Some fault
fault_in (Body header progress) = None
fault_in Spent = None

header_in : Header → FileProgress → Header
header_in other (Heading head) = other
header_in other (Refused fault) = other
header_in other (Body header progress) = header
header_in other Spent = other

progress_in : Progress → FileProgress → Progress
progress_in other (Heading head) = other
progress_in other (Refused fault) = other
progress_in other (Body header progress) = progress
progress_in other Spent = other

some_is : (a b : BtFault) → Some a ≡ Some b → a ≡ b
some_is a b is = ap (λ o. fault_or o a) is

pub ends_in_head : (text : List ℕ) (head : Head) → Heading head ≡ file_progress text
    → ◌≡◌ {A = Result FileRead BtFault} (Err (head_fault head)) (reading text)
unfolding file_progress reading is_heading head_in
ends_in_head text head is = by_line (data_line (head_of text)) refl is
  where
    by_line : (o : Option HeaderLine) → data_line (head_of text) ≡ o
        → Heading head ≡ progress_at text (head_of text) o
        → ◌≡◌ {A = Result FileRead BtFault} (Err (head_fault head))
        (after_header text (header_of (head_of text)))
    by_line None none is =
        (let same : head ≡ heading_of (head_of text) = ap (head_in head) is in
        ap (λ h. after_header text (Err (head_fault h))) same
        ∙ ap (after_header text) (head_ended (head_of text) none))
    by_line (Some l) line is = absurd (by_header (header_of (head_of text)) is)
      where
        by_header : (r : Result Header BtFault) → Heading head ≡ body_of text r → ⊥
        by_header (Err fault) is = false≢true (sym (ap is_heading is))
        by_header (Ok header) is = false≢true (sym (ap is_heading is))

pub ends_at_fault : (text : List ℕ) (fault : BtFault) → Refused fault ≡ file_progress text
    → ◌≡◌ {A = Result FileRead BtFault} (Err fault) (reading text)
unfolding file_progress reading is_heading is_body fault_in
ends_at_fault text fault is = by_line (data_line (head_of text)) is
  where
    by_line : (o : Option HeaderLine) → Refused fault ≡ progress_at text (head_of text) o
        → ◌≡◌ {A = Result FileRead BtFault} (Err fault)
        (after_header text (header_of (head_of text)))
    by_line None is = absurd (false≢true (ap is_heading is))
    by_line (Some l) is = by_header (header_of (head_of text)) is
      where
        by_header : (r : Result Header BtFault) → Refused fault ≡ body_of text r
            → ◌≡◌ {A = Result FileRead BtFault} (Err fault) (after_header text r)
        by_header (Err other) is = ap Err (some_is fault other (ap fault_in is))
        by_header (Ok header) is = absurd (false≢true (ap is_body is))

-- the node data that has been read of a file in its body
pub in_body : (text : List ℕ) (header : Header) (progress : Progress) → Body header progress
    ≡ file_progress text
    → (header_of (head_of text) ≡ Ok header)
    × (progress ≡ after_bytes header.start header.size (drop header.start text))
unfolding file_progress is_heading is_body header_in progress_in
in_body text header progress is = by_line (data_line (head_of text)) is
  where
    by_line : (o : Option HeaderLine) → Body header progress ≡ progress_at text (head_of text) o
        → (header_of (head_of text) ≡ Ok header)
        × (progress ≡ after_bytes header.start header.size (drop header.start text))
    by_line None is = absurd (false≢true (ap is_heading is))
    by_line (Some l) is = by_header (header_of (head_of text)) refl is
      where
        by_header : (r : Result Header BtFault) → header_of (head_of text) ≡ r
            → Body header progress ≡ body_of text r
            → (header_of (head_of text) ≡ Ok header)
            × (progress ≡ after_bytes header.start header.size (drop header.start text))
        by_header (Err fault) at is = absurd (false≢true (sym (ap is_body is)))
        by_header (Ok other) at is =
            (let same : header ≡ other = ap (header_in header) is in (
              at ∙ ap Ok (sym same),
              ap (progress_in progress) is
                  ∙ ap (λ (h : Header). after_bytes h.start h.size (drop h.start text)) (sym same),
            ))

-- the reading of a file by its node data
pub body_reading : (text : List ℕ) (header : Header) → header_of (head_of text) ≡ Ok header
    → reading text ≡ file_with header (read_nodes header.start header.size (drop header.start text))
unfolding reading
body_reading text header is = ap (after_header text) is

-- nothing is fed to a reader without memory
pub never_spent : (text : List ℕ) → Spent ≡ file_progress text → ⊥
unfolding file_progress is_heading is_body
never_spent text is = by_line (data_line (head_of text)) is
  where
    is_spent : FileProgress → Bool
    is_spent (Heading head) = false
    is_spent (Refused fault) = false
    is_spent (Body header progress) = false
    is_spent Spent = true

    by_header : (r : Result Header BtFault) → Spent ≡ body_of text r → ⊥
    by_header (Err fault) is = false≢true (sym (ap is_spent is))
    by_header (Ok header) is = false≢true (sym (ap is_spent is))

    by_line : (o : Option HeaderLine) → Spent ≡ progress_at text (head_of text) o → ⊥
    by_line None is = false≢true (sym (ap is_spent is))
    by_line (Some l) is = by_header (header_of (head_of text)) is

-- a header that was accepted opens its node data
pub opened_at : (r : Result Header BtFault) (header : Header) (nodes : Reading) (start size : ℕ)
    → r ≡ Ok header → start ≡ header.start → size ≡ header.size
    → nodes.start ≡ start → nodes.size ≡ size → HasRead nodes []
    → Body (record { res = header.res; size = nodes.size; start = nodes.start }) nodes.progress
    ≡ opened r
unfolding after_bytes
opened_at r header nodes start size is s z at sized fresh =
    ap (λ p. Body (record { res = header.res; size = nodes.size; start = nodes.start }) p) fresh
    ∙ ap (λ (n : ℕ). Body (record { res = header.res; size = n; start = nodes.start }) (at_first n))
    (sized ∙ z)
    ∙ ap (λ (n : ℕ). Body (record { res = header.res; size = header.size; start = n })
    (at_first header.size)) (at ∙ s)
    ∙ sym (ap opened is)

-- the answer of a reader in its node data
pub ends_in_body : (h header : Header) (n nodes : Reading) (r : Result FileRead BtFault)
    → h ≡ header → n ≡ nodes
    → ((bytes : List ℕ) → HasRead n bytes
    → r ≡ file_with (record { res = h.res; size = n.size; start = n.start })
    (read_nodes n.start n.size bytes))
    → (text : List ℕ)
    → Body (record { res = header.res; size = nodes.size; start = nodes.start }) nodes.progress
    ≡ file_progress text → r ≡ reading text
ends_in_body h header n nodes r p q answer text is =
    let (said, read) =
    in_body text (record { res = header.res; size = nodes.size; start = nodes.start })
    nodes.progress is in
    answer (drop nodes.start text)
    (subst (λ (m : Reading). HasRead m (drop nodes.start text)) (sym q) read)
    ∙ ap (λ (h : Header). file_with (record { res = h.res; size = n.size; start = n.start })
    (read_nodes n.start n.size (drop nodes.start text))) p
    ∙ ap (λ (m : Reading). file_with (record { res = header.res; size = m.size; start = m.start })
    (read_nodes m.start m.size (drop nodes.start text))) q
    ∙ sym (body_reading text (record { res = header.res; size = nodes.size; start = nodes.start })
    said)
