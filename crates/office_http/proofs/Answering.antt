-- The desk's answer over a link is a reply to all bytes that come over this link.
use Rattle.std.proofs.Common.{◌≡◌, ℕ, List, [], Option, Some, None, refl, subst}
use Rattle.std.specs.Prelude.{IfSome, ◌==◌}
use Rattle.define_desk.specs.Desk.{served}
use Rattle.define_desk.specs.Requests.{Asking, TooLarge, NoRequest, Asks, Request, AreAsking}
use Rattle.define_desk.specs.Replies.{Reply, bad_request, out_of_memory, too_large, unavailable}
use Rattle.office_desk.specs.Answers.{FailsFor, HasFault, IsDeskAnswer, IsReplyTo, NoMemory as WantsMemory, Replied, Unavailable as Fails}
use Rattle.office_desk.proofs.Causes.{because}
use Rattle.office_desk.specs.Sent.{Sent, sent_of}
use Rattle.office_requests.specs.Askings.{IsAskedOver}
use Rattle.office_http.specs.Answers.{IsAnswerTo}
use Rattle.office_http.specs.Visits.{FailsOver, FromBytes, FromTables, IsReply, Kept, NoMemory, Unavailable}

-- if `reply` is a reply to `bytes`, which are all bytes that come over the link, and `sent` is this reply, `IsAnswerTo` holds
sends : (left : Option (List ℕ)) (before after : Kept) (sent : Sent) (bytes : List ℕ) → IfSome left (λ told. bytes ≡ told) →
    HasFault (FailsOver bytes before after) before.faults after.faults sent.status → (reply : Reply) → sent ≡ sent_of reply → IsReply bytes before.tables after.tables reply → IsAnswerTo left before after sent
sends left before after sent bytes all fault reply says is =
    (reply, says, record { bytes = bytes; all = all; is = is; fault = subst (λ s. HasFault (FailsOver bytes before after) before.faults after.faults s.status) says fault })

request_answered : (left : Option (List ℕ)) (before after : Kept) (sent : Sent) (request : Request) (bytes : List ℕ) → IfSome left (λ told. bytes ≡ told) →
    AreAsking bytes (Asks request) → HasFault (FailsOver bytes before after) before.faults after.faults sent.status → IsReplyTo before.tables request after.tables sent → IsAnswerTo left before after sent
request_answered left before after sent request bytes all asked fault (Replied tables loaded is) =
    sends left before after sent bytes all fault (served tables request).reply is.replies
    (FromTables tables (served tables request).tables loaded (Asks request, asked, refl) is.leaves)
request_answered left before after sent request bytes all asked fault (Fails says same) =
    sends left before after sent bytes all fault unavailable says (Unavailable request asked refl same)
request_answered left before after sent request bytes all asked fault (WantsMemory says same) =
    sends left before after sent bytes all fault out_of_memory says (NoMemory refl same)

pub answered : (left : Option (List ℕ)) (before after : Kept) (sent : Sent) (asking : Asking) → IsAskedOver left asking →
    IsDeskAnswer before.tables asking after.tables sent → HasFault (FailsFor before.tables asking before.course after.course) before.faults after.faults sent.status → IsAnswerTo left before after sent
answered left before after sent TooLarge (bytes, all, asked) (says, same) fault =
    sends left before after sent bytes all (because _ _ (sent.status == 503) _ _ (λ (never : ⊥). absurd never) fault) too_large says (FromBytes (λ tables. (TooLarge, asked, refl)) same)
answered left before after sent NoRequest (bytes, all, asked) (says, same) fault =
    sends left before after sent bytes all (because _ _ (sent.status == 503) _ _ (λ (never : ⊥). absurd never) fault) bad_request says (FromBytes (λ tables. (NoRequest, asked, refl)) same)
answered left before after sent (Asks request) (bytes, all, asked) is fault =
    request_answered left before after sent request bytes all asked (because _ _ (sent.status == 503) _ _ (λ fails. (request, asked, fails)) fault) is

-- the reply that memory ran out is an answer, whatever bytes come over the link
pub unread : (left : Option (List ℕ)) (before : Kept) (sent : Sent) → sent ≡ sent_of out_of_memory → IsAnswerTo left before before sent
unread None before sent says = (out_of_memory, says, record { bytes = []; all = tt; is = NoMemory refl refl; fault = refl })
unread (Some told) before sent says = (out_of_memory, says, record { bytes = told; all = refl; is = NoMemory refl refl; fault = refl })
