use Rattle.std.proofs.Common.{refl}
use Rattle.std.specs.Fmt.{digits}
use Rattle.define_desk.proofs.worked_replies.Goals as goal

pub returns-clause-bad_request : goal.returns-clause-bad_request
unfolding digits
returns-clause-bad_request c = refl

pub returns-clause-unknown_key : goal.returns-clause-unknown_key
unfolding digits
returns-clause-unknown_key c = refl

pub returns-clause-not_found : goal.returns-clause-not_found
unfolding digits
returns-clause-not_found c = refl

pub returns-clause-not_allowed : goal.returns-clause-not_allowed
unfolding digits
returns-clause-not_allowed c = refl

pub returns-clause-too_late : goal.returns-clause-too_late
unfolding digits
returns-clause-too_late c = refl

pub returns-clause-too_large : goal.returns-clause-too_large
unfolding digits
returns-clause-too_large c = refl

pub returns-clause-unavailable : goal.returns-clause-unavailable
unfolding digits
returns-clause-unavailable c = refl

pub returns-clause-out_of_memory : goal.returns-clause-out_of_memory
unfolding digits
returns-clause-out_of_memory c = refl
