-- Why a call of the map is refused, as a reply says it.
use Rattle.std.specs.Prelude.{Option, Some, None, option_map}
use Rattle.oct_map.specs.declared.fault.MapFault.{MapFault}
use Rattle.oct_map.specs.declared.fault.MapFault.TheVariants as fault
use Rattle.oct_script.specs.declared.reply.Refusal.{Refusal}
use Rattle.oct_script.specs.declared.reply.Refusal.TheVariants as refusal
use Rattle.oct_script.specs.declared.reply.Reply.{Reply}
use Rattle.oct_script.specs.declared.reply.Reply.TheVariants.{Refused}

-- why the map refuses a call, as a reply says it; out of memory a session ends without one
abbrev pub refusal_of : MapFault → Option Refusal
refusal_of (fault.Outside point) = Some (refusal.Outside point)
refusal_of fault.BadDepth = Some refusal.BadDepth
refusal_of fault.BadBox = Some refusal.BadBox
refusal_of (fault.TooManyBlocks count) = Some (refusal.TooManyBlocks count)
refusal_of fault.Stale = Some refusal.Stale
refusal_of (fault.Full groups need) = Some (refusal.Full groups need)
refusal_of fault.OriginOutside = Some refusal.OriginOutside
refusal_of (fault.PointOutside index) = Some (refusal.PointOutside index)
refusal_of (fault.TooManyCells index cells) = Some (refusal.TooManyCells index cells)
refusal_of fault.BadMagic = Some refusal.BadMagic
refusal_of (fault.Truncated at) = Some (refusal.Truncated at)
refusal_of (fault.TrailingBytes at) = Some (refusal.TrailingBytes at)
refusal_of (fault.BadSnapshot at) = Some (refusal.BadSnapshot at)
refusal_of (fault.OtherResolution file session) = Some (refusal.OtherResolution file session)
refusal_of (fault.WideWhileTracked count) = Some (refusal.WideWhileTracked count)
refusal_of fault.NotTracked = Some refusal.NotTracked
refusal_of fault.Memory = None

-- the reply to a call that the map refuses
abbrev pub fault_reply : MapFault → Option Reply
fault_reply fault = option_map Refused (refusal_of fault)
