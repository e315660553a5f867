use Rattle.std.proofs.Common.{◌≡◌, Option, None, Some, refl, ap}
use Rattle.frac128.specs.Divisors.{lcm_of, gcd_of, common_divisor_up_to}
use Rattle.define_rows.specs.Choice.{choice, entering, leaving}
use Rattle.define_rows.specs.Pivot.{start, pivot, row_after, eliminated}
use Rattle.define_rows.specs.Steps.{enter_stage, closed_by, add_column, solution}
use Rattle.define_rows.specs.Table.{Table, coefficient}
use Rattle.define_rows.specs.Width.{all_in_turn, operation, reach_from}
use Rattle.define_pools.specs.Certificate.{Answer}
use Rattle.define_pools.specs.WorkedExamples.{four}
use Rattle.define_searches.specs.Classes.{classes_of}
use Rattle.define_runs.specs.Run.{Next, GoOn, Ended, NoPanel, Found, TooWide, TotalPasses, PivotsSpent, NodesSpent, follow, opening, pricing_visits, run_limits, step}
use Rattle.define_runs.specs.WorkedRuns.{limits, pairs}
use Rattle.define_runs.specs.Spreading.{spread}
use Rattle.define_runs.proofs.worked_runs.Goals as goal

pub returns-clause-found : goal.returns-clause-found
unfolding opening pricing_visits step start all_in_turn operation reach_from choice entering leaving coefficient pivot row_after eliminated enter_stage closed_by add_column solution spread lcm_of gcd_of common_divisor_up_to
returns-clause-found c = record { steps = 8; there = refl }

pub returns-clause-too_wide : goal.returns-clause-too_wide
unfolding opening pricing_visits step start all_in_turn operation reach_from choice entering leaving coefficient pivot row_after eliminated enter_stage closed_by add_column solution spread lcm_of gcd_of common_divisor_up_to
returns-clause-too_wide c = record { steps = 0; there = refl }

pub returns-clause-one_pivot : goal.returns-clause-one_pivot
unfolding opening pricing_visits step start all_in_turn operation reach_from choice entering leaving coefficient pivot row_after eliminated enter_stage closed_by add_column solution spread lcm_of gcd_of common_divisor_up_to
returns-clause-one_pivot c = record { steps = 4; there = refl }

pub returns-clause-no_pivot : goal.returns-clause-no_pivot
unfolding opening pricing_visits step start all_in_turn operation reach_from choice entering leaving coefficient pivot row_after eliminated enter_stage closed_by add_column solution spread lcm_of gcd_of common_divisor_up_to
returns-clause-no_pivot c = record { steps = 2; there = refl }

pub returns-clause-few_nodes : goal.returns-clause-few_nodes
unfolding opening pricing_visits step start all_in_turn operation reach_from choice entering leaving coefficient pivot row_after eliminated enter_stage closed_by add_column solution spread lcm_of gcd_of common_divisor_up_to
returns-clause-few_nodes c = record { steps = 0; there = refl }

-- ---- the run over four volunteers, whose last table isn't written out

answer_of : Next → Option Answer
answer_of (GoOn table) = None
answer_of (Ended NoPanel) = None
answer_of (Ended (Found last answer)) = Some answer
answer_of (Ended (TooWide stood pass)) = None
answer_of (Ended (TotalPasses stood pass)) = None
answer_of (Ended (PivotsSpent stood)) = None
answer_of (Ended (NodesSpent stood)) = None

ends_with : (next : Next) (answer : Answer) → answer_of next ≡ Some answer → (last : Table) × (next ≡ Ended (Found last answer))
unfolding answer_of
ends_with (GoOn table) answer e = absurd cc
ends_with (Ended NoPanel) answer e = absurd cc
ends_with (Ended (Found last found)) answer e = let same : found ≡ answer = cc in (last, ap (λ found. Ended (Found last found)) same)
ends_with (Ended (TooWide stood pass)) answer e = absurd cc
ends_with (Ended (TotalPasses stood pass)) answer e = absurd cc
ends_with (Ended (PivotsSpent stood)) answer e = absurd cc
ends_with (Ended (NodesSpent stood)) answer e = absurd cc

after_twenty : answer_of (follow (classes_of four) (run_limits (limits 127 4 100)) (opening (classes_of four) (run_limits (limits 127 4 100))) 20) ≡ Some pairs
unfolding opening pricing_visits step start all_in_turn operation reach_from choice entering leaving coefficient pivot row_after eliminated enter_stage closed_by add_column solution spread lcm_of gcd_of common_divisor_up_to answer_of
after_twenty = refl

pub returns-clause-four : goal.returns-clause-four
returns-clause-four c =
    let ended = ends_with (follow (classes_of four) (run_limits (limits 127 4 100)) (opening (classes_of four) (run_limits (limits 127 4 100))) 20) pairs after_twenty in
    (ended.0, record { steps = 20; there = ended.1 })
