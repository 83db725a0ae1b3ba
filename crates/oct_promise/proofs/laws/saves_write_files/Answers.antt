use Rattle.oct_promise.proofs.FilesWritten.{save_writes, snapshot_writes}
use Rattle.oct_promise.proofs.laws.saves_write_files.Goals as goal

pub returns-clause-saves : goal.returns-clause-saves
returns-clause-saves c = save_writes

pub returns-clause-snapshots : goal.returns-clause-snapshots
returns-clause-snapshots c = snapshot_writes
