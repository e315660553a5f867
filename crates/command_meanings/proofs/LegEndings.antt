-- `legs` has at most one right answer, since a run has one ending and one list of legs until then.
use Rattle.std.proofs.Common.{◌≡◌, ◌∙◌, List, ap, ap₂, sym}
use Rattle.define_legs.specs.declared.Leg.{Leg}
use Rattle.define_legs.specs.Legs.{RunHasLegs}
use Rattle.define_legs.specs.LegTexts.{legs_text}
use Rattle.define_pools.specs.Pool.{Pool}
use Rattle.define_runs.specs.Run.{Ending, Limits, RunEnds, run_limits}
use Rattle.define_searches.specs.Classes.{classes_of}
use Rattle.define_legs.proofs.Endings.{each_has_legs, one_list}
use Rattle.command_shell.specs.declared.status.Printed.TheVariants.{Done, NoPanel}
use Rattle.command_shell.specs.declared.status.Cause.TheVariants.{Wide, Spent}
use Rattle.command_shell.specs.Answers.{HasOneAnswer, IsRight, Saying, Prints, Stops}
use Rattle.command_meanings.specs.Legs.{LegsMeans, class_count}
use Rattle.command_meanings.proofs.RunEndings.{IsDone, budget_said, found_is_done, lottery_said, width_said}

-- the answer of `legs` for an ending of the run and its legs: the text of the legs if a lottery is found, else the answer of `lottery`
abbrev legs_said : Limits → Pool → Ending → List Leg → Saying
legs_said limits pool (Ending.Found last found) legs = Prints Done (legs_text (class_count pool) legs)
legs_said limits pool other legs = lottery_said limits pool other

-- the run has an ending and legs until then, and the answer is the one for them
record TellsLegs (limits : Limits) (pool : Pool) (answer : Saying) : Type 0 where
  ending : Ending
  legs : List Leg
  ends : RunHasLegs pool limits ending legs
  is : answer ≡ legs_said limits pool ending legs

other_legs : (limits : Limits) (pool : Pool) (ending : Ending) (legs : List Leg) (answer : Saying) → (IsDone answer → ⊥) → answer ≡ lottery_said limits pool ending → answer ≡ legs_said limits pool ending legs
other_legs limits pool (Ending.Found last found) legs answer not is = absurd (not (found_is_done limits pool last found answer is))
other_legs limits pool Ending.NoPanel legs answer not is = is
other_legs limits pool (Ending.TooWide stood pass) legs answer not is = is
other_legs limits pool (Ending.TotalPasses stood pass) legs answer not is = is
other_legs limits pool (Ending.PivotsSpent stood) legs answer not is = is
other_legs limits pool (Ending.NodesSpent stood) legs answer not is = is

-- an answer that is none of status 0 is that of `lottery`
as_lottery : (limits : Limits) (pool : Pool) (ending : Ending) → RunEnds pool limits ending → (answer : Saying) → (IsDone answer → ⊥) → answer ≡ lottery_said limits pool ending → TellsLegs limits pool answer
as_lottery limits pool ending ends answer not is =
    let legs = each_has_legs (classes_of pool) (run_limits limits) ending ends in
    record { ending = ending; legs = legs.0; ends = legs.1; is = other_legs limits pool ending legs.0 answer not is }

legs_tell : (limits : Limits) (pool : Pool) (answer : Saying) → IsRight (LegsMeans limits pool) answer → TellsLegs limits pool answer
legs_tell limits pool (Prints Done text) right = record { ending = Ending.Found right.last right.answer; legs = right.legs; ends = right.ends; is = ap (Prints Done) right.tells }
legs_tell limits pool (Prints NoPanel text) right = as_lottery limits pool Ending.NoPanel right.finds.ends (Prints NoPanel text) (λ no. no) (ap (Prints NoPanel) right.line)
legs_tell limits pool (Stops Wide line) right = as_lottery limits pool right.ending right.ends (Stops Wide line) (λ no. no) (width_said limits pool right.ending line right.tells)
legs_tell limits pool (Stops Spent line) right = as_lottery limits pool right.ending right.ends (Stops Spent line) (λ no. no) (budget_said limits pool right.ending line right.tells)
legs_tell limits pool answer right = absurd right

pub legs_once : (limits : Limits) (pool : Pool) → HasOneAnswer (LegsMeans limits pool)
legs_once limits pool first second a b =
    let one = legs_tell limits pool first a in
    let two = legs_tell limits pool second b in
    let same = one_list (classes_of pool) (run_limits limits) one.ending two.ending one.legs two.legs one.ends two.ends in
    one.is ∙ ap₂ (legs_said limits pool) same.0 same.1 ∙ sym two.is
