-- What `loosen` answers: the least loosening of a pool's quotas, found by a search of at most `nodes` visits. Builds on the loosenings of
-- `define_quotas` and LooseningLines.
use Rattle.std.specs.Prelude.{◌≡◌, ℕ, ◌≤◌, ◌<◌, List, [], Some, None, IsTrue}
use Rattle.define_quotas.specs.CostSearch.{cheapest_search}
use Rattle.define_quotas.specs.Loosenings.{IsCheapest, IsLeast, Loosening, least_loosening}
use Rattle.define_quotas.specs.Teams.{is_team}
use Rattle.define_pools.specs.Pool.{Pool, panels}
use Rattle.define_searches.specs.Classes.{are_alike, classes_of}
use Rattle.define_searches.specs.Compositions.{composition_of}
use Rattle.command_shell.specs.Answers.{RightAnswers, no_answer}
use Rattle.command_shell.specs.Lines.{no_panel_line}
use Rattle.command_meanings.specs.Lines.{nodes_spent_line}
use Rattle.command_meanings.specs.LooseningLines.{loosening_text}

-- how many visits the search for the cheapest team makes
abbrev pub visits_of : Pool → ℕ
visits_of pool = (cheapest_search (classes_of pool)).visits

-- The loosening is the pool's least. No pool that differs in bounds alone and has a quota panel differs by less; the total is 0 exactly if
-- the pool has a quota panel. No team costs less than the panel, and each team whose counts come earlier costs more
pub record IsLeastLoosening (pool : Pool) (loosening : Loosening) : Type 0 where
  pub found : least_loosening pool ≡ Some loosening
  pub least : IsLeast pool loosening
  pub cheapest : IsCheapest pool (are_alike pool) (composition_of (classes_of pool) loosening.panel) loosening.panel

-- the search is within its budget, and the text is that of the least loosening
pub record PrintsLoosening (nodes : ℕ) (pool : Pool) (text : List ℕ) : Type 0 where
  pub within : visits_of pool ≤ nodes
  pub loosening : Loosening
  pub least : IsLeastLoosening pool loosening
  pub lines : text ≡ loosening_text pool loosening

-- The search is within its budget, and there is no team: whatever the bounds are, size, standings and households alone can't be met. So
-- there is no quota panel either
pub record PrintsNoTeam (nodes : ℕ) (pool : Pool) (text : List ℕ) : Type 0 where
  pub within : visits_of pool ≤ nodes
  pub no_team : (team : List ℕ) → IsTrue (is_team pool team) → ⊥
  pub none : panels pool ≡ []
  pub line : text ≡ no_panel_line

-- the search needs more than `nodes` visits
pub record SpendsSearch (nodes : ℕ) (pool : Pool) (text : List ℕ) : Type 0 where
  pub more : nodes < visits_of pool
  pub line : text ≡ nodes_spent_line nodes None

abbrev pub LoosenMeans : ℕ → Pool → RightAnswers
LoosenMeans nodes pool = record no_answer {
  -- status 0
  done = PrintsLoosening nodes pool;
  -- status 1
  no_panel = PrintsNoTeam nodes pool;
  -- status 5
  spent = SpendsSearch nodes pool;
}
