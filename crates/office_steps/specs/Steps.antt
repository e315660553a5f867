-- Which results of the program are right for an outcome. The promises of this crate cite it.
use Rattle.std.specs.Prelude.{◌≡◌, Option, Result, Ok, Err, option_map, ⊤}
use Rattle.define_offices.specs.Commands.{Outcome, Replies, Refuses}
use Rattle.office_tables.specs.Changes.{seen_change}
use Rattle.office_tables.specs.declared.changes.Change.{Change}
use Rattle.office_steps.specs.Replies.{seen_refusal, seen_reply}
use Rattle.office_steps.specs.declared.replies.Reply.{Reply}
use Rattle.office_steps.specs.declared.stops.OfficeStop.{OfficeStop}
use Rattle.office_steps.specs.declared.stops.OfficeStop.TheVariants.{Refused, OutOfMemory}

-- the result is right for `outcome`: the same change and reply, or the same refusal; running out of memory is allowed at any time
abbrev pub Says : Outcome → Result (Option Change × Reply) OfficeStop → Type 0
Says outcome (Ok (change, reply)) = outcome ≡ Replies (option_map seen_change change) (seen_reply reply)
Says outcome (Err (Refused refusal)) = outcome ≡ Refuses (seen_refusal refusal)
Says outcome (Err OutOfMemory) = ⊤

-- the stop is the refusal that `outcome` is; running out of memory is allowed at any time
abbrev pub Stops : Outcome → OfficeStop → Type 0
Stops outcome (Refused refusal) = outcome ≡ Refuses (seen_refusal refusal)
Stops outcome OutOfMemory = ⊤
