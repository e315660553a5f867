-- What the desk answers over a link, before it is written. Used by the module `attending`.
use Rattle.std.specs.Prelude.{◌≡◌, ℕ, List, Option}
use Rattle.define_desk.specs.Replies.{Reply}
use Rattle.office_desk.specs.Sent.{Sent, sent_of}
use Rattle.office_http.specs.Visits.{Kept, RepliesTo}

-- `sent` is a reply to all bytes that come over a link. `left` are these bytes, if the link tells them
abbrev pub IsAnswerTo : Option (List ℕ) → Kept → Kept → Sent → Type 0
IsAnswerTo left before after sent = (reply : Reply) × (sent ≡ sent_of reply) × RepliesTo left before after reply
