use Rattle.oct_file_tasks.proofs.Merges.{fit_file}
use Rattle.oct_file_tasks.proofs.two_files.judge.Goals as goal

pub returns-in-Ok-clause-fit : goal.returns-in-Ok-clause-fit
returns-in-Ok-clause-fit c =
    fit_file c.in-Ok.file c.args.bytes.now c.in-Ok.ensures.answer c.requires.few
    c.codes.ensures.accepted
