use Rattle.std.proofs.Common.{rules}
use Rattle.office_desk.proofs.RefusalTexts.{get_only_text, no_request_text, not_found_text, out_of_memory_text, post_only_text, too_large_text, too_late_text, unavailable_text, unknown_key_text}
use Rattle.office_desk.proofs.refusals.Refusal.text.Goals as goal

pub returns-in-TooLarge : goal.returns-in-TooLarge
returns-in-TooLarge c = search (rules, too_large_text)

pub returns-in-NoRequest : goal.returns-in-NoRequest
returns-in-NoRequest c = search (rules, no_request_text)

pub returns-in-Unavailable : goal.returns-in-Unavailable
returns-in-Unavailable c = search (rules, unavailable_text)

pub returns-in-NotFound : goal.returns-in-NotFound
returns-in-NotFound c = search (rules, not_found_text)

pub returns-in-GetOnly : goal.returns-in-GetOnly
returns-in-GetOnly c = search (rules, get_only_text)

pub returns-in-PostOnly : goal.returns-in-PostOnly
returns-in-PostOnly c = search (rules, post_only_text)

pub returns-in-UnknownKey : goal.returns-in-UnknownKey
returns-in-UnknownKey c = search (rules, unknown_key_text)

pub returns-in-TooLate : goal.returns-in-TooLate
returns-in-TooLate c = search (rules, too_late_text)

pub returns-in-OutOfMemory : goal.returns-in-OutOfMemory
returns-in-OutOfMemory c = search (rules, out_of_memory_text)
