-- How a task ends whose answer may be a refusal.
use Rattle.std.specs.Prelude.{◌≡◌, ◌≢◌, ◌⊎◌}
use Rattle.oct_io.specs.declared.status.Status.{Status}
use Rattle.oct_io.specs.declared.status.Status.TheVariants.{Done, Refused, Usage, BadFile}
use Rattle.oct_io.specs.declared.status.Status.TheVariants.{TooLong, ReadFault, StoreFault}

-- a status with which a whole answer about a file is written
abbrev pub IsSettled : Status → Type 0
IsSettled status = (status ≡ Done) ⊎ (status ≡ Refused)

-- a status of a call that only writes: all was done or something refused, the sink failed, or
-- memory ran out
pub record IsOfReply (status : Status) : Type 0 where
  pub not_usage : status ≢ Usage
  pub not_bad_file : status ≢ BadFile
  pub not_too_long : status ≢ TooLong
  pub not_read_fault : status ≢ ReadFault
  pub not_store_fault : status ≢ StoreFault
