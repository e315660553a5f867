-- The program's replies and refusals as the definitions' replies and refusals.
use Rattle.define_offices.specs.Commands as office
use Rattle.office_steps.specs.declared.replies.Reply.{Reply}
use Rattle.office_steps.specs.declared.replies.Reply.TheVariants.{Lines, NoPanel}
use Rattle.office_steps.specs.declared.replies.Refusal.{Refusal}
use Rattle.office_steps.specs.declared.replies.Refusal.TheVariants.{NoRound, Incomplete, WrongPhase, RowDiffers, KeyTaken, RegisterFull, NotSealed, SealDiffers, DrawDiffers, BadDigit, MoreDigits, NotSeated, RoundClosed, OtherPool, UnknownKey, TooLate, TicketsDiffer, NotDropped, UnknownId}

abbrev pub seen_reply : Reply → office.Reply
seen_reply (Lines text) = office.Lines text.items
seen_reply NoPanel = office.NoPanel

abbrev pub seen_refusal : Refusal → office.Refusal
seen_refusal (NoRound last) = office.NoRound last
seen_refusal (Incomplete what) = office.Incomplete what
seen_refusal (WrongPhase phase) = office.WrongPhase phase
seen_refusal (RowDiffers what) = office.RowDiffers what
seen_refusal (KeyTaken id) = office.KeyTaken id
seen_refusal (RegisterFull rows) = office.RegisterFull rows
seen_refusal (NotSealed phase) = office.NotSealed phase
seen_refusal (SealDiffers given kept) = office.SealDiffers given kept
seen_refusal (DrawDiffers kept) = office.DrawDiffers kept.items
seen_refusal (BadDigit place) = office.BadDigit place
seen_refusal (MoreDigits read) = office.MoreDigits read
seen_refusal (NotSeated id) = office.NotSeated id
seen_refusal (RoundClosed last) = office.RoundClosed last
seen_refusal (OtherPool round) = office.OtherPool round
seen_refusal UnknownKey = office.UnknownKey
seen_refusal TooLate = office.TooLate
seen_refusal (TicketsDiffer kept) = office.TicketsDiffer kept
seen_refusal (NotDropped id) = office.NotDropped id
seen_refusal (UnknownId id) = office.UnknownId id
