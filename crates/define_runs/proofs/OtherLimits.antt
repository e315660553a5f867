-- The run over a pool under different limits.
use Rattle.std.proofs.Common.{◌≡◌, ℕ, ◌+◌, refl, arith}
use Rattle.define_pools.specs.Pool.{Pool}
use Rattle.define_searches.specs.Classes.{classes_of}
use Rattle.define_runs.specs.OtherLimits.{AllowsMore, AnswerOrNoPanel, BudgetsKeepEnding, HasMoreBudget, LimitsKeepAnswer, LimitsKeepNoPanel, OneAnswerOverLimits, OneEndingOverBudgets}
use Rattle.define_runs.specs.Run.{Ending, Found, Limits, NoPanel, RunEnds, opening, run_limits}
use Rattle.define_runs.proofs.Following.{same_ending}
use Rattle.define_runs.proofs.MoreBudget.{HasMore, ends_same}
use Rattle.define_runs.proofs.MoreWidth.{Allows, ends_wider}
use Rattle.define_runs.proofs.Wider.{wider}

pub one_ending : (pool : Pool) (limits : Limits) (first second : Ending) → RunEnds pool limits first → RunEnds pool limits second → first ≡ second
one_ending pool limits first second a b =
    same_ending (classes_of pool) (run_limits limits) (opening (classes_of pool) (run_limits limits)) a.steps b.steps first second a.there b.there

has_more : (limits more : Limits) → HasMoreBudget limits more → HasMore (run_limits limits) (run_limits more)
has_more limits more has = record { bits = has.bits; pivots = has.pivots; opening = has.nodes; pricing = has.nodes }

allows : (limits more : Limits) → AllowsMore limits more → Allows (run_limits limits) (run_limits more)
allows limits more may = record { bits = may.bits; pivots = may.pivots; opening = may.nodes; pricing = may.nodes }

pub budgets_keep_ending : BudgetsKeepEnding
budgets_keep_ending pool limits more ending has ends kept = ends_same (classes_of pool) (run_limits limits) (run_limits more) (has_more limits more has) ending ends kept

-- limits of the width `bits` whose budgets are the sums of the budgets of `limits` and `other`
abbrev both : ℕ → Limits → Limits → Limits
both bits limits other = record { bits = bits; pivots = limits.pivots + other.pivots; nodes = limits.nodes + other.nodes }

pub one_over_budgets : OneEndingOverBudgets
one_over_budgets pool limits other first second e a b kept kept_too =
    one_ending pool (both limits.bits limits other) first second
    (budgets_keep_ending pool limits (both limits.bits limits other) first (record { bits = refl; pivots = omega arith; nodes = omega arith }) a kept)
    (budgets_keep_ending pool other (both limits.bits limits other) second (record { bits = e; pivots = omega arith; nodes = omega arith }) b kept_too)

pub limits_keep_answer : LimitsKeepAnswer
limits_keep_answer pool limits more answer may (last, ends) =
    (wider more.bits last, ends_wider (classes_of pool) (run_limits limits) (run_limits more) (allows limits more may) (Found last answer) ends refl)

pub limits_keep_no_panel : LimitsKeepNoPanel
limits_keep_no_panel pool limits more may ends = ends_wider (classes_of pool) (run_limits limits) (run_limits more) (allows limits more may) NoPanel ends refl

-- the sums of the limits in `limits` and `other`, which allow at least as much as each of them
abbrev sum : Limits → Limits → Limits
sum limits other = both (limits.bits + other.bits) limits other

allows_first : (limits other : Limits) → AllowsMore limits (sum limits other)
allows_first limits other = record { bits = omega arith; pivots = omega arith; nodes = omega arith }

allows_second : (limits other : Limits) → AllowsMore other (sum limits other)
allows_second limits other = record { bits = omega arith; pivots = omega arith; nodes = omega arith }

pub one_answer : OneAnswerOverLimits
one_answer pool limits other first second a b =
    let once = limits_keep_answer pool limits (sum limits other) first (allows_first limits other) a in
    let again = limits_keep_answer pool other (sum limits other) second (allows_second limits other) b in
    let same = one_ending pool (sum limits other) (Found once.0 first) (Found again.0 second) once.1 again.1 in cc

pub answer_or_no_panel : AnswerOrNoPanel
answer_or_no_panel pool limits other answer a b =
    let once = limits_keep_answer pool limits (sum limits other) answer (allows_first limits other) a in
    let again = limits_keep_no_panel pool other (sum limits other) (allows_second limits other) b in
    let same = one_ending pool (sum limits other) (Found once.0 answer) NoPanel once.1 again in cc
