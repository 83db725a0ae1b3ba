use Rattle.std.proofs.Common.{rules, ◌≡◌, ◌++◌, ◌<◌, take, length, get_or, ap, ◌∙◌, append_assoc}
use Rattle.std.proofs.Common.{sym, [], ◌∷◌, ◌⊎◌}
use Rattle.std.specs.Prelude.{fold}
use Rattle.std.proofs.lemmas.List.{take_more}
use Rattle.std.proofs.lemmas.List.Sums.{fold_push}
use Rattle.oct_bt.specs.Reading.{IsKept, Spent, file_progress, after_file_byte}
use Rattle.oct_bt.proofs.HeadSteps.{file_step}
use Rattle.oct_bt.proofs.Keeping.{kept_in_piece}
use Rattle.oct_bt.proofs.reader.Reader.feed.Goals as goal

pub loop-byte-preserved : goal.loop-byte-preserved
loop-byte-preserved c =
    let taken : c.take.new.self
    ≡ after_file_byte c.loop-byte.self (get_or c.args.piece.now c.loop-byte.byte-index 0) =
    search rules in
    let within : c.loop-byte.byte-index < length c.args.piece.now = search rules in (
      λ text stands. taken
          ∙ ap (λ p. after_file_byte p (get_or c.args.piece.now c.loop-byte.byte-index 0))
          (c.loop-byte.invariant.0 text stands)
          ∙ file_step (text ++ take c.loop-byte.byte-index c.args.piece.now)
          (get_or c.args.piece.now c.loop-byte.byte-index 0)
          ∙ ap file_progress (append_assoc text (take c.loop-byte.byte-index c.args.piece.now)
          (get_or c.args.piece.now c.loop-byte.byte-index 0 ∷ [])
          ∙ ap (λ t. text ++ t) (sym (take_more c.args.piece.now c.loop-byte.byte-index 0 within))),
      taken
          ∙ ap (λ p. after_file_byte p (get_or c.args.piece.now c.loop-byte.byte-index 0))
          c.loop-byte.invariant.1
          ∙ sym (fold_push after_file_byte c.args.self.now
          (take c.loop-byte.byte-index c.args.piece.now)
          (get_or c.args.piece.now c.loop-byte.byte-index 0))
          ∙ ap (fold after_file_byte c.args.self.now)
          (sym (take_more c.args.piece.now c.loop-byte.byte-index 0 within)),
    )

pub returns-then-is_err-clause-memory : goal.returns-then-is_err-clause-memory
returns-then-is_err-clause-memory c =
    let within : c.loop-byte.byte-index < length c.args.piece.now = search rules in
    let out : (c.loop-byte.self ≡ Spent)
    ⊎ IsKept c.loop-byte.self (get_or c.args.piece.now c.loop-byte.byte-index 0) =
    search rules in
    kept_in_piece c.args.self.now c.loop-byte.self c.args.piece.now c.loop-byte.byte-index within
    c.loop-byte.invariant.1 out
