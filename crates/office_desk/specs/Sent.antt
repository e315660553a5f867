-- What the desk sends. Used by the promises of `answer` and `unwell`, by most modules and specs of this crate, and by `office_http`.
use Rattle.std.specs.Prelude.{ℕ, List}
use Rattle.define_desk.specs.Replies.{Reply, reply_text}

-- a status, and all bytes of a reply
pub record Sent : Type 0 where
  pub status : ℕ
  pub bytes : List ℕ

abbrev pub sent_of : Reply → Sent
sent_of reply = record { status = reply.status; bytes = reply_text reply }
