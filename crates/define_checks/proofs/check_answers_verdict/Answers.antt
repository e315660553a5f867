use Rattle.define_checks.proofs.Budget.{answer_cases, answer_with_enough}
use Rattle.define_checks.proofs.check_answers_verdict.Goals as goal

pub returns : goal.returns
returns c = record { answer = answer_cases; enough = answer_with_enough }
