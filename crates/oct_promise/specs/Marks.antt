-- How long a mark lives, and when a map is stale, by the lines of a script.
use Rattle.std.specs.Prelude.{◌≡◌, ◌∷◌, ◌++◌, ◌⊎◌, List, ℕ, true, false, Option, Some, None, Ok}
use Rattle.std.specs.Prelude.{IsSome}
use Rattle.oct_io.specs.Files.{Files}
use Rattle.oct_key.specs.declared.point.Point.{Point}
use Rattle.oct_script.specs.Lines.{Line}
use Rattle.oct_script.specs.Replies.{is_refusal}
use Rattle.oct_script.specs.declared.command.Command.{Command}
use Rattle.oct_script.specs.declared.command.Command.TheVariants as command
use Rattle.oct_script.specs.declared.command.Edit.{Edit}
use Rattle.oct_session.specs.ScanSoFar.{ScanSoFar}
use Rattle.oct_session.specs.Session.{progress, effect_of, next_command}
use Rattle.oct_session.specs.Setup.{Setup}
use Rattle.oct_session.specs.declared.scan_block.ScanBlock.{ScanBlock}
use Rattle.oct_session.specs.declared.scan_block.ScanBlock.TheVariants.{Scanning}

-- one of these lines begins something, behind those before it, and no later one of them ends it
pub record IsSince (Begins Ends : List Line → Line → Type 0) (lines before : List Line) : Type 0
  where
    pub line : Line
    pub later : List Line
    pub parts : lines ≡ before ++ line ∷ later
    pub begins : Begins before line
    pub none : (between : List Line) (next : Line) (rest : List Line)
        → later ≡ between ++ next ∷ rest → ¬ Ends (before ++ line ∷ between) next

module _ (o : Setup) (files : Option Files) where
  -- behind these lines the next one is this command, in the block of a scan or in none, and has a
  -- reply that is no refusal
  pub record IsAccepted (before : List Line) (line : Line) (block : Option ScanBlock)
      (command : Command) : Type 0 where
    pub running : (progress o files before).has_quit ≡ false
    pub inside : (progress o files before).block ≡ block
    pub reads : next_command (progress o files before) line ≡ Ok command
    pub replied : IsSome (effect_of o (progress o files before) line).reply
    pub fine : is_refusal (effect_of o (progress o files before) line).reply ≡ false

  -- a lazy edit that isn't refused, or the end of the block of a lazy scan that isn't
  abbrev pub IsLazyLine : List Line → Line → Type 0
  IsLazyLine before line =
      ((p : Point) × (edit : Edit) × IsAccepted before line None (command.Edit p edit true))
      ⊎ ((scan : ScanSoFar) × (scan.head.lazy ≡ true)
      × IsAccepted before line (Some (Scanning scan)) command.End)

  -- a clear, or a load or a restore that isn't refused
  abbrev pub IsNewMap : List Line → Line → Type 0
  IsNewMap before line = IsAccepted before line None command.Clear
      ⊎ ((name : List ℕ) × IsAccepted before line None (command.Load name))
      ⊎ ((name : List ℕ) × IsAccepted before line None (command.Restore name))

  -- what brings inner values up to date: a refresh, `maxlik`, or a new map
  abbrev pub IsMend : List Line → Line → Type 0
  IsMend before line = IsAccepted before line None command.Refresh
      ⊎ IsAccepted before line None command.MaxLik ⊎ IsNewMap before line

  -- what sets a mark
  abbrev pub IsTrack : List Line → Line → Type 0
  IsTrack before line = IsAccepted before line None command.Track

  -- what ends a mark: the next one, `untrack`, or a new map
  abbrev pub EndsMark : List Line → Line → Type 0
  EndsMark before line = IsTrack before line
      ⊎ IsAccepted before line None command.Untrack ⊎ IsNewMap before line

  -- behind these lines the map is stale: one was a lazy edit or scan, and nothing has mended that
  abbrev pub IsLeftStale : List Line → Type 0
  IsLeftStale lines = (before : List Line) × IsSince IsLazyLine IsMend lines before

  -- behind these lines a mark stands that one of them has set, right behind those before it
  abbrev pub IsMarkedBehind : List Line → List Line → Type 0
  IsMarkedBehind lines before = IsSince IsTrack EndsMark lines before
