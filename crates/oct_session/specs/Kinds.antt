-- Commands by what does them.
use Rattle.std.specs.Prelude.{⊤, ℕ, List, IfSome}
use Rattle.oct_pose.specs.Reach.{IsInReach}
use Rattle.oct_script.specs.Commands.{IsOwnOdds, IsRange, IsSmallEdit}
use Rattle.oct_key.specs.declared.point.Point.{Point}
use Rattle.oct_script.specs.declared.command.ScanHead.{ScanHead}
use Rattle.oct_script.specs.declared.command.Command.{Command}
use Rattle.oct_script.specs.declared.command.Command.TheVariants as command
use Rattle.oct_session.specs.declared.kinds.Order.{Order}
use Rattle.oct_session.specs.declared.kinds.Order.TheVariants as order
use Rattle.oct_session.specs.declared.kinds.Question.{Question}
use Rattle.oct_session.specs.declared.kinds.Question.TheVariants as question
use Rattle.oct_script.specs.declared.verbs.FileVerb.{FileVerb}
use Rattle.oct_script.specs.declared.verbs.FileVerb.TheVariants as verb
use Rattle.oct_session.specs.declared.kinds.Kind as lent_kind
use Rattle.oct_session.specs.declared.kinds.Kind.TheVariants as kind

-- what does a command: nothing, a block that it opens, to which it adds a point or which it closes,
-- the map, which does it or answers it, or what a verb says is done with the file that it names
pub data Kind : Type 0 where
  Nothing : Kind
  Opens : ScanHead → Kind
  Adds : Point → Kind
  Closes : Kind
  Orders : Order → Kind
  Asks : Question → Kind
  Names : FileVerb → List ℕ → Kind

-- the kind of a command
abbrev pub kind_of : Command → Kind
kind_of command.Blank = Nothing
kind_of command.Quit = Nothing
kind_of (command.Scan head) = Opens head
kind_of (command.Beam p) = Adds p
kind_of command.End = Closes
kind_of (command.Edit p e lazy) = Orders (order.Edit p e lazy)
kind_of (command.Box low high e) = Orders (order.Box low high e)
kind_of (command.Limit low high) = Orders (order.Limit low high)
kind_of command.NoLimit = Orders order.NoLimit
kind_of command.Refresh = Orders order.Refresh
kind_of command.Prune = Orders order.Prune
kind_of command.Clear = Orders order.Clear
kind_of command.MaxLik = Orders order.MaxLik
kind_of command.Track = Orders order.Track
kind_of command.Untrack = Orders order.Untrack
kind_of (command.Get p depth) = Asks (question.Get p depth)
kind_of (command.List low high depth) = Asks (question.List low high depth)
kind_of (command.Cast origin end ignore) = Asks (question.Cast origin end ignore)
kind_of command.Counts = Asks question.Counts
kind_of command.Changes = Asks question.Changes
kind_of (command.Save name) = Names verb.Save name
kind_of (command.Load name) = Names verb.Load name
kind_of (command.Snapshot name) = Names verb.Snapshot name
kind_of (command.Restore name) = Names verb.Restore name

-- the same, where head and name are lent
abbrev pub kind_seen : lent_kind.Kind → Kind
kind_seen kind.Nothing = Nothing
kind_seen (kind.Opens head) = Opens head.now
kind_seen (kind.Adds p) = Adds p
kind_seen kind.Closes = Closes
kind_seen (kind.Orders order) = Orders order
kind_seen (kind.Asks question) = Asks question
kind_seen (kind.Saves name) = Names verb.Save name.now
kind_seen (kind.Loads name) = Names verb.Load name.now
kind_seen (kind.Snaps name) = Names verb.Snapshot name.now
kind_seen (kind.Restores name) = Names verb.Restore name.now

-- the numbers in an order are as those in its command
abbrev pub IsSmallOrder : Order → Type 0
IsSmallOrder (order.Edit p e lazy) = IsSmallEdit e
IsSmallOrder (order.Box low high e) = IsSmallEdit e
IsSmallOrder (order.Limit low high) = ⊤
IsSmallOrder order.NoLimit = ⊤
IsSmallOrder order.Refresh = ⊤
IsSmallOrder order.Prune = ⊤
IsSmallOrder order.Clear = ⊤
IsSmallOrder order.MaxLik = ⊤
IsSmallOrder order.Track = ⊤
IsSmallOrder order.Untrack = ⊤

-- those in the head of a scan are, too
abbrev pub IsSmallHead : ScanHead → Type 0
IsSmallHead head = IsInReach head.t × IsRange head.range × IfSome head.odds IsOwnOdds

-- and so are those of whatever does a command
abbrev pub IsSmallKind : Kind → Type 0
IsSmallKind Nothing = ⊤
IsSmallKind (Opens head) = IsSmallHead head
IsSmallKind (Adds p) = IsInReach p
IsSmallKind Closes = ⊤
IsSmallKind (Orders order) = IsSmallOrder order
IsSmallKind (Asks question) = ⊤
IsSmallKind (Names verb name) = ⊤
