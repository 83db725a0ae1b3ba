-- Texts of which a prefix is written.
use Rattle.std.proofs.Common.{◌≡◌, ℕ, List, [], ◌++◌, Option, sym, ap, ◌∙◌, append_assoc}
use Rattle.std.proofs.Common.{append-nil}
use Rattle.oct_io.specs.Told.{appended}
use Rattle.oct_io.specs.Taken.{IsBegun}

-- what is written is a prefix of a longer text, too
pub begun_more : (text longer more : List ℕ) (old new : Option (List ℕ)) → longer ≡ text ++ more
    → IsBegun text old new → IsBegun longer old new
begun_more text longer more old new e b = record {
  done = b.done;
  rest = b.rest ++ more;
  written = b.written;
  split = e ∙ ap (λ t. t ++ more) b.split ∙ append_assoc b.done b.rest more;
}

-- a text that is written whole
pub begun_whole : (text : List ℕ) (old new : Option (List ℕ)) → new ≡ appended old text
    → IsBegun text old new
begun_whole text old new e =
    record { done = text; rest = []; written = e; split = sym (append-nil text) }
