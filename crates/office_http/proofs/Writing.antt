-- If the answer of a visit is written, wholly or in part, the visit ends as `EndsBy` says.
use Rattle.std.proofs.Common.{◌≡◌, ℕ, List, Option, Err, Ok, subst, sym, ap, ◌∙◌}
use Rattle.std.specs.Io.KnownBytes.{Appends}
use Rattle.outside.specs.Content.{AppendsPart}
use Rattle.outside.specs.Faults.{Rose}
use Rattle.office_desk.specs.Sent.{Sent}
use Rattle.office_requests.specs.Reads.{LosesAtMost, most_read}
use Rattle.office_http.specs.Answers.{IsAnswerTo}
use Rattle.office_http.specs.Visits.{CutOff, EndsBy, Kept, LinkTold, visit}
use Rattle.office_http.specs.declared.attending.LinkFault.{LinkFault}

-- if the whole answer was written, the visit ends with its status
pub written : (link after : LinkTold) (before left : Kept) (sent : Sent) (number : ℕ) (unwritten : Option (List ℕ)) (piece : List ℕ) (faults : ℕ) →
    IsAnswerTo link.left before left sent → number ≡ sent.status → unwritten ≡ link.written → piece ≡ sent.bytes → Appends unwritten after.written piece →
    faults ≡ link.faults → after.faults ≡ faults → EndsBy (visit link before after left (Ok number)) (Ok number)
written link after before left sent number unwritten piece faults (reply, says, is) status none all gains no_fault more = record {
  reply = reply;
  is = is;
  status = status ∙ ap (λ (s : Sent). s.status) says;
  written =
      subst (λ (bytes : List ℕ). Appends link.written after.written bytes) (all ∙ ap (λ (s : Sent). s.bytes) says)
      (subst (λ (old : Option (List ℕ)). Appends old after.written piece) none gains);
  no_fault = more ∙ no_fault;
}

-- if a part of the answer was written, the visit ends with a fault of the link
pub cut_off : (link after : LinkTold) (before left : Kept) (sent : Sent) (fault : LinkFault) (unwritten : Option (List ℕ)) (piece : List ℕ) (faults : ℕ) →
    IsAnswerTo link.left before left sent → unwritten ≡ link.written → piece ≡ sent.bytes → AppendsPart unwritten after.written piece →
    faults ≡ link.faults → Rose faults after.faults → EndsBy (visit link before after left (Err fault)) (Err fault)
cut_off link after before left sent fault unwritten piece faults (reply, says, is) none all gains no_fault rose =
    CutOff (subst (λ (count : ℕ). Rose count after.faults) no_fault rose) reply is
    (subst (λ (bytes : List ℕ). AppendsPart link.written after.written bytes) (all ∙ ap (λ (s : Sent). s.bytes) says)
    (subst (λ (old : Option (List ℕ)). AppendsPart old after.written piece) none gains))

-- writing doesn't change what is left to read
pub still_read : (before between after : Option (List ℕ)) → LosesAtMost most_read before between → after ≡ between → LosesAtMost most_read before after
still_read before between after read same = subst (λ (left : Option (List ℕ)). LosesAtMost most_read before left) (sym same) read
