use Rattle.std.proofs.Common.{◌≡◌, drop}
use Rattle.define_desk.specs.Requests.{head_size}
use Rattle.office_requests.proofs.HeadSizes.{further}
use Rattle.office_requests.proofs.ends.head_size.Given as goal

-- no head ends at a byte before `at`
abbrev pub invariant-loop-at : goal.invariant-loop-at
invariant-loop-at l = head_size l.bytes ≡ further l.at (head_size (drop l.at l.bytes))
