use Rattle.oct_promise.proofs.HistoriesKept.{edit_adds, scan_adds, refresh_adds, maxlik_adds}
use Rattle.oct_promise.proofs.HistoriesKept.{clear_adds, track_adds, untrack_adds, load_adds}
use Rattle.oct_promise.proofs.HistoriesKept.{restore_adds, box_adds, limit_adds, nolimit_adds}
use Rattle.oct_promise.proofs.HistoriesKept.{prune_adds}
use Rattle.oct_promise.proofs.laws.histories_have_lines.Goals as goal

pub returns-clause-edits : goal.returns-clause-edits
returns-clause-edits c = edit_adds

pub returns-clause-scans : goal.returns-clause-scans
returns-clause-scans c = scan_adds

pub returns-clause-refresh : goal.returns-clause-refresh
returns-clause-refresh c = refresh_adds

pub returns-clause-maxlik : goal.returns-clause-maxlik
returns-clause-maxlik c = maxlik_adds

pub returns-clause-clear : goal.returns-clause-clear
returns-clause-clear c = clear_adds

pub returns-clause-track : goal.returns-clause-track
returns-clause-track c = track_adds

pub returns-clause-untrack : goal.returns-clause-untrack
returns-clause-untrack c = untrack_adds

pub returns-clause-load : goal.returns-clause-load
returns-clause-load c = load_adds

pub returns-clause-restore : goal.returns-clause-restore
returns-clause-restore c = restore_adds

pub returns-clause-boxes : goal.returns-clause-boxes
returns-clause-boxes c = box_adds

pub returns-clause-limit : goal.returns-clause-limit
returns-clause-limit c = limit_adds

pub returns-clause-nolimit : goal.returns-clause-nolimit
returns-clause-nolimit c = nolimit_adds

pub returns-clause-prune : goal.returns-clause-prune
returns-clause-prune c = prune_adds
