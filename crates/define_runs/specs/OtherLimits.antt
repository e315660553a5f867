-- How the limits affect the ending of a run over one pool, and why an answer doesn't depend on them. Builds on Run.
use Rattle.std.specs.Prelude.{◌≡◌, ◌≤◌, Bool, true, false, IsFalse}
use Rattle.define_pools.specs.Certificate.{Answer}
use Rattle.define_pools.specs.Pool.{Pool}
use Rattle.define_runs.specs.Run.{Ending, NoPanel, Found, TooWide, TotalPasses, PivotsSpent, NodesSpent, Limits, RunEnds, RunFinds}

-- the run stopped because a budget of pivots or of visits was spent
abbrev pub is_spent : Ending → Bool
is_spent NoPanel = false
is_spent (Found last answer) = false
is_spent (TooWide stood pass) = false
is_spent (TotalPasses stood pass) = false
is_spent (PivotsSpent stood) = true
is_spent (NodesSpent stood) = true

-- `more` has the width of `limits`, and budgets that are at least as great
pub record HasMoreBudget (limits more : Limits) : Type 0 where
  pub bits : more.bits ≡ limits.bits
  pub pivots : limits.pivots ≤ more.pivots
  pub nodes : limits.nodes ≤ more.nodes

-- each limit of `more` is at least that of `limits`
pub record AllowsMore (limits more : Limits) : Type 0 where
  pub bits : limits.bits ≤ more.bits
  pub pivots : limits.pivots ≤ more.pivots
  pub nodes : limits.nodes ≤ more.nodes

-- a run whose ending is not a spent budget has the same ending with greater budgets
abbrev pub BudgetsKeepEnding : Type 0
BudgetsKeepEnding = (pool : Pool) (limits more : Limits) (ending : Ending) → HasMoreBudget limits more → RunEnds pool limits ending → IsFalse (is_spent ending) → RunEnds pool more ending

-- runs over one pool under the same width, neither of which spent a budget, have the same ending, whatever their budgets are
abbrev pub OneEndingOverBudgets : Type 0
OneEndingOverBudgets = (pool : Pool) (limits other : Limits) (first second : Ending) → limits.bits ≡ other.bits → RunEnds pool limits first → RunEnds pool other second →
    IsFalse (is_spent first) → IsFalse (is_spent second) → first ≡ second

-- under greater limits, a run that found an answer finds the same one
abbrev pub LimitsKeepAnswer : Type 0
LimitsKeepAnswer = (pool : Pool) (limits more : Limits) (answer : Answer) → AllowsMore limits more → RunFinds pool limits answer → RunFinds pool more answer

-- if a run finds that there is no quota panel, it also finds this under greater limits
abbrev pub LimitsKeepNoPanel : Type 0
LimitsKeepNoPanel = (pool : Pool) (limits more : Limits) → AllowsMore limits more → RunEnds pool limits NoPanel → RunEnds pool more NoPanel

-- if two runs over one pool under different limits find answers, the answers are the same
abbrev pub OneAnswerOverLimits : Type 0
OneAnswerOverLimits = (pool : Pool) (limits other : Limits) (first second : Answer) → RunFinds pool limits first → RunFinds pool other second → first ≡ second

-- if a run finds an answer, no run over the same pool under other limits finds that there is no panel
abbrev pub AnswerOrNoPanel : Type 0
AnswerOrNoPanel = (pool : Pool) (limits other : Limits) (answer : Answer) → RunFinds pool limits answer → RunEnds pool other NoPanel → ⊥
