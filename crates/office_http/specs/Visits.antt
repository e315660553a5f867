-- What a visit of the desk does: what the link gains for the bytes that come over it, given the tables that the keeper loads, and the
-- tables afterwards. The promises of `attend` and of `serve` use it.
use Rattle.std.specs.Prelude.{◌≡◌, ℕ, List, Option, IfSome, Result, Ok, Err, option_map}
use Rattle.std.specs.Io.KnownBytes.{Appends}
use Rattle.outside.specs.Content.{AppendsPart}
use Rattle.outside.specs.Faults.{Rose}
use Rattle.define_offices.specs.Tables.{Tables}
use Rattle.define_desk.specs.Requests.{AreAsking, Asks, Request}
use Rattle.define_desk.specs.Desk.{Serves, leaving}
use Rattle.define_desk.specs.Replies.{Reply, out_of_memory, reply_text, unavailable}
use Rattle.office_core.specs.Acting.{IsLoaded}
use Rattle.office_core.specs.Keeping.{Course}
use Rattle.office_desk.specs.Answers.{FailsInTurn, HasFault}
use Rattle.office_requests.specs.Reads.{LosesAtMost, most_read}
use Rattle.office_http.specs.declared.attending.LinkFault.{LinkFault}

-- what a link tells: the bytes that are left to read and those that were written, if it tells them, and its count of faults
pub record LinkTold : Type 0 where
  pub left : Option (List ℕ)
  pub written : Option (List ℕ)
  pub faults : ℕ

abbrev pub link_told : Option (List ℕ) → Option (List ℕ) → ℕ → LinkTold
link_told left written faults = record { left = left; written = written; faults = faults }

-- what a keeper tells: its tables, if it tells them, its count of faults, and its course
pub record Kept : Type 0 where
  pub tables : Option Tables
  pub faults : ℕ
  pub course : Course

abbrev pub kept : Option Tables → ℕ → Course → Kept
kept tables faults course = record { tables = tables; faults = faults; course = course }

-- a visit: the link and the keeper before and after it, and how it ended: with the status of a reply, or with a fault of the link
pub record Visit : Type 0 where
  pub link : LinkTold
  pub keeper : Kept
  pub link_after : LinkTold
  pub keeper_after : Kept
  pub ended : Result ℕ LinkFault

abbrev pub visit : LinkTold → Kept → LinkTold → Kept → Result ℕ LinkFault → Visit
visit link keeper link_after keeper_after ended =
    record { link = link; keeper = keeper; link_after = link_after; keeper_after = keeper_after; ended = ended }

-- `reply` is a reply to `bytes`. `before` and `after` are the keeper's tables before and after the desk answers; None if the keeper doesn't
-- tell its tables
pub data IsReply (bytes : List ℕ) (before after : Option Tables) (reply : Reply) : Type 0 where
  -- the desk's reply over the tables that were loaded. The keeper then tells the tables that the desk leaves
  FromTables : (tables left : Tables) → IsLoaded before tables → Serves tables bytes (leaving left reply) → after ≡ option_map (λ told. left) before → IsReply bytes before after reply
  -- the desk's reply, which is the same over all tables, so none were loaded
  FromBytes : ((tables : Tables) → Serves tables bytes (leaving tables reply)) → after ≡ before → IsReply bytes before after reply
  -- 503: the bytes ask for something, and the keeper failed
  Unavailable : (request : Request) → AreAsking bytes (Asks request) → reply ≡ unavailable → after ≡ before → IsReply bytes before after reply
  -- 507: memory ran out, which may happen at any time
  NoMemory : reply ≡ out_of_memory → after ≡ before → IsReply bytes before after reply

-- the bytes ask for something, and the keeper failed at a call that this gives cause for
abbrev pub FailsOver : List ℕ → Kept → Kept → Type 0
FailsOver bytes before after = (request : Request) × AreAsking bytes (Asks request) × FailsInTurn before.tables request.keys before.course after.course

-- the reply is a reply to all bytes that come over a link. `left` are these bytes, if the link tells them
pub record RepliesTo (left : Option (List ℕ)) (before after : Kept) (reply : Reply) : Type 0 where
  pub bytes : List ℕ
  pub all : IfSome left (λ told. bytes ≡ told)
  pub is : IsReply bytes before.tables after.tables reply
  -- the keeper counted a fault if the status is 503, at a call that was in its order; else none
  pub fault : HasFault (FailsOver bytes before after) before.faults after.faults reply.status

-- the link gained a whole reply, which has this status
pub record EndsWith (it : Visit) (number : ℕ) : Type 0 where
  pub reply : Reply
  pub is : RepliesTo it.link.left it.keeper it.keeper_after reply
  pub status : number ≡ reply.status
  pub written : Appends it.link.written it.link_after.written (reply_text reply)
  pub no_fault : it.link_after.faults ≡ it.link.faults

-- the link counted a fault
pub data IsBroken (it : Visit) : Type 0 where
  -- the fault came while the link was read. The link gained nothing, and nothing was asked of the keeper
  Unread : Rose it.link.faults it.link_after.faults → it.link_after.written ≡ it.link.written → it.keeper_after ≡ it.keeper → IsBroken it
  -- the fault came while a reply was written. The link gained a part of the reply
  CutOff : Rose it.link.faults it.link_after.faults → (reply : Reply) → RepliesTo it.link.left it.keeper it.keeper_after reply → AppendsPart it.link.written it.link_after.written (reply_text reply) → IsBroken it

abbrev pub EndsBy : Visit → Result ℕ LinkFault → Type 0
EndsBy it (Ok status) = EndsWith it status
EndsBy it (Err fault) = IsBroken it

-- the visit ended as `EndsBy` says, and at most as many bytes of the link were read as one request may have
pub record IsAttended (it : Visit) : Type 0 where
  pub ends : EndsBy it it.ended
  pub read : LosesAtMost most_read it.link.left it.link_after.left
