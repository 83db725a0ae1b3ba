use Rattle.oct_bt.proofs.FilesBack.{file_back}
use Rattle.oct_bt.proofs.laws.canonical_files_read_back.Goals as goal

pub returns : goal.returns
returns c = record { read = λ res a is. file_back res a is }
