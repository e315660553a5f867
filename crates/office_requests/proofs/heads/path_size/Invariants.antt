use Rattle.office_requests.proofs.Paths.{IsPathAt}
use Rattle.office_requests.proofs.heads.path_size.Given as goal

abbrev pub invariant-loop-at : goal.invariant-loop-at
invariant-loop-at l = IsPathAt l.target l.at
