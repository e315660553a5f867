-- What `panel` answers: the first quota panel of a pool, found by a search of at most `nodes` visits.
use Rattle.std.specs.Prelude.{◌≡◌, ◌<◌, ◌≤◌, ℕ, List, [], Some, None, IsTrue}
use Rattle.define_pools.specs.Pool.{Pool, is_quota_panel, panels}
use Rattle.define_searches.specs.Classes.{classes_of}
use Rattle.define_searches.specs.Compositions.{first_composition, first_panel}
use Rattle.define_searches.specs.Visits.{first_search}
use Rattle.command_shell.specs.Answers.{RightAnswers, no_answer}
use Rattle.command_shell.specs.Lines.{no_panel_line}
use Rattle.command_meanings.specs.Lines.{panel_line, nodes_spent_line}

-- how many visits the search for the first composition makes
abbrev pub visits_of : Pool → ℕ
visits_of pool = (first_search (classes_of pool)).visits

-- how many visits the searches may make that decide where the engines of `why` and `loosen-by-proof` have no answer: as many as those of
-- `panel` and `loosen` without `--nodes`
abbrev pub stated_visits : ℕ
stated_visits = 50000000

-- the quota panel has the first members of each class, as many as the first composition has of the class
pub record IsFirstPanel (pool : Pool) (panel : List ℕ) : Type 0 where
  pub counts : List ℕ
  pub first : first_composition (classes_of pool) ≡ Some counts
  pub members : panel ≡ first_panel (classes_of pool) counts
  pub fits : IsTrue (is_quota_panel pool panel)

-- the search is within its budget, and the text is the line of the first panel
pub record PrintsFirstPanel (nodes : ℕ) (pool : Pool) (text : List ℕ) : Type 0 where
  pub within : visits_of pool ≤ nodes
  pub panel : List ℕ
  pub first : IsFirstPanel pool panel
  pub line : text ≡ panel_line pool panel

-- the search is within its budget, and there is no quota panel
pub record PrintsNoPanel (nodes : ℕ) (pool : Pool) (text : List ℕ) : Type 0 where
  pub within : visits_of pool ≤ nodes
  pub none : panels pool ≡ []
  pub line : text ≡ no_panel_line

-- the search needs more than `nodes` visits
pub record SpendsVisits (nodes : ℕ) (pool : Pool) (text : List ℕ) : Type 0 where
  pub more : nodes < visits_of pool
  pub line : text ≡ nodes_spent_line nodes None

abbrev pub PanelMeans : ℕ → Pool → RightAnswers
PanelMeans nodes pool = record no_answer {
  -- status 0
  done = PrintsFirstPanel nodes pool;
  -- status 1
  no_panel = PrintsNoPanel nodes pool;
  -- status 5
  spent = SpendsVisits nodes pool;
}
