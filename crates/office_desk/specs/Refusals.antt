-- The replies that refuse a request. Used by the modules `refusals` and `answers`, and by Contents.
use Rattle.std.specs.Prelude.{codes}
use Rattle.define_desk.specs.Replies.{Reply, bad_request, not_allowed, not_found, out_of_memory, too_large, too_late, unavailable, unknown_key}
use Rattle.office_desk.specs.declared.refusals.Refusal.{Refusal}
use Rattle.office_desk.specs.declared.refusals.Refusal.TheVariants.{TooLarge, NoRequest, Unavailable, NotFound, GetOnly, PostOnly, UnknownKey, TooLate, OutOfMemory}

abbrev pub refusal_reply : Refusal → Reply
refusal_reply TooLarge = too_large
refusal_reply NoRequest = bad_request
refusal_reply Unavailable = unavailable
refusal_reply NotFound = not_found
refusal_reply GetOnly = not_allowed (codes "GET")
refusal_reply PostOnly = not_allowed (codes "POST")
refusal_reply UnknownKey = unknown_key
refusal_reply TooLate = too_late
refusal_reply OutOfMemory = out_of_memory
