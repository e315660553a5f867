-- Each step is proved by computation, with the definitions unfolded.
use Rattle.std.proofs.Common.{refl}
use Rattle.std.specs.Fmt.{digits}
use Rattle.frac128.specs.Divisors.{lcm_of, gcd_of, common_divisor_up_to}
use Rattle.define_rows.specs.Choice.{choice, entering, leaving}
use Rattle.define_rows.specs.Pivot.{start, pivot, row_after, eliminated}
use Rattle.define_rows.specs.Steps.{enter_stage, closed_by, add_column, solution}
use Rattle.define_rows.specs.Table.{coefficient}
use Rattle.define_rows.specs.Width.{all_in_turn, operation, reach_from}
use Rattle.define_runs.specs.Run.{opening, pricing_visits, step}
use Rattle.define_runs.specs.Spreading.{spread}
use Rattle.define_rows.specs.Binomials.{binomial}
use Rattle.define_legs.proofs.worked_legs.Goals as goal

pub returns-clause-legs : goal.returns-clause-legs
unfolding opening pricing_visits step start all_in_turn operation reach_from choice entering leaving coefficient pivot row_after eliminated enter_stage closed_by add_column solution spread lcm_of gcd_of common_divisor_up_to
returns-clause-legs c = refl

pub returns-clause-limit : goal.returns-clause-limit
unfolding binomial
returns-clause-limit c = refl

pub returns-clause-text : goal.returns-clause-text
unfolding binomial digits
returns-clause-text c = refl
