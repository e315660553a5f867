-- What the desk tells a volunteer who withdraws. Used by the module `withdrawing`.
use Rattle.std.specs.Prelude.{◌≡◌, Option, Some, None}
use Rattle.define_offices.specs.Tables.{Entry}
use Rattle.define_desk.specs.Desk.{withdrawn_body}
use Rattle.define_desk.specs.Replies.{told}
use Rattle.office_core.specs.declared.stops.ActStop.{ActStop}
use Rattle.office_core.specs.declared.stops.ActStop.TheVariants as act
use Rattle.office_desk.specs.declared.refusals.Refusal.{Refusal}
use Rattle.office_desk.specs.declared.refusals.Refusal.TheVariants.{Unavailable, TooLate, OutOfMemory}
use Rattle.office_desk.specs.Sent.{Sent, sent_of}

-- the reply after the withdrawal to the volunteer with this row, or None if there is no row
abbrev pub TellsWithdrawn : Option Entry → Option Sent → Type 0
TellsWithdrawn None reply = reply ≡ None
TellsWithdrawn (Some entry) reply = reply ≡ Some (sent_of (told (withdrawn_body entry.id)))

-- the desk's refusal if the withdrawal of a volunteer stops. The office refuses a withdrawal by a volunteer's key only if it comes too late
abbrev pub stop_refusal : ActStop → Refusal
stop_refusal (act.Refused refusal) = TooLate
stop_refusal (act.Solve stopped) = TooLate
stop_refusal (act.Unproved verdict) = TooLate
stop_refusal act.KeeperFault = Unavailable
stop_refusal act.OutOfMemory = OutOfMemory
