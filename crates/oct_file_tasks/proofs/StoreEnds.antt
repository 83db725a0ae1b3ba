-- How a task over two files of the store ends, by its reply and by what was written of it.
use Rattle.std.proofs.Common.{◌≡◌, ℕ, List, Option, Some, None, IfSome, Result, refl, subst}
use Rattle.oct_io.specs.Files.{Files}
use Rattle.oct_file_tasks.proofs.Ends.{cut_none}
use Rattle.oct_io.specs.declared.status.Status.{Status}
use Rattle.oct_io.specs.declared.status.Status.TheVariants.{Done, Refused, Usage, BadFile}
use Rattle.oct_io.specs.declared.status.Status.TheVariants.{TooLong, ReadFault, WriteFault}
use Rattle.oct_io.specs.declared.status.Status.TheVariants.{Memory, StoreFault}
use Rattle.oct_io.specs.Answer.{Answer, EndsUnread}
use Rattle.oct_file_tasks.specs.OverStore.{found_reply, store_reply, EndsByReply, EndsOverStore}
use Rattle.oct_file_tasks.specs.TwoFiles.{pair_in}
use Rattle.oct_file_tasks.proofs.PairTexts.{some_reply}
use Rattle.oct_file_tasks.specs.declared.store_task.StoreTask.{StoreTask}
use Rattle.oct_file_tasks.specs.declared.two_files.NoPair.{NoPair}
use Rattle.oct_file_tasks.specs.declared.two_files.Pair.{Pair}

-- the end by a reply
by_reply : (whole : Answer) (old new : Option (List ℕ)) (end : Status)
    → EndsUnread whole old new end
    → EndsByReply whole old new end
by_reply whole old new Done ends = ends
by_reply whole old new Refused ends = ends
by_reply whole old new Usage ends = ends
by_reply whole old new BadFile ends = ends
by_reply whole old new TooLong ends = ends
by_reply whole old new ReadFault ends = ends
by_reply whole old new WriteFault ends = ends
by_reply whole old new Memory ends = ends
by_reply whole old new StoreFault ends = absurd ends

-- the task, where both files were loaded
pub found_ends : (task : StoreTask) (files : Option Files) (found : Result Pair NoPair)
    (old new : Option (List ℕ)) (end : Status)
    → IfSome files (λ files. found ≡ pair_in files task.first task.second)
    → EndsUnread (found_reply task.asks found) old new end
    → EndsOverStore task files old new end
found_ends task None found old new end is ends = tt
found_ends task (Some files) found old new end is ends =
    by_reply (store_reply task files) old new end
    (subst (λ r. EndsUnread (found_reply task.asks r) old new end) is ends)

-- and where they weren't
pub fault_ends : (task : StoreTask) (files : Option Files) (old : Option (List ℕ))
    → EndsOverStore task files old old StoreFault
fault_ends task None old = tt
fault_ends task (Some files) old = refl

pub memory_ends : (task : StoreTask) (files : Option Files) (old : Option (List ℕ))
    → EndsOverStore task files old old Memory
memory_ends task None old = tt
memory_ends task (Some files) old =
    cut_none (store_reply task files).text old
    (some_reply task.asks (pair_in files task.first task.second))
