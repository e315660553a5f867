-- What `loosen-by-proof` answers: a least loosening of a pool's quotas, found by integer programs and shown to be least by sums, or else by
-- the search of `loosen`. Builds on the loosenings of `define_quotas`, on LooseningLines and on Loosening.
--
-- The engine that is asked first, within the budget of the words, has no definition. So the meaning doesn't say which of several least
-- loosenings is told. If the engine has no answer within this budget, the search of `loosen` decides. So status 5 comes only if that search
-- is spent. If `loosen` finds a loosening too, the totals are equal, since both loosenings are least.
use Rattle.std.specs.Prelude.{◌≡◌, ℕ, List, [], IsTrue}
use Rattle.define_quotas.specs.Loosenings.{IsLeast, Loosening}
use Rattle.define_quotas.specs.Teams.{is_team}
use Rattle.define_pools.specs.Pool.{Pool, panels}
use Rattle.command_shell.specs.Answers.{RightAnswers, no_answer}
use Rattle.command_shell.specs.Lines.{no_panel_line}
use Rattle.command_meanings.specs.Panel.{stated_visits}
use Rattle.command_meanings.specs.LooseningLines.{loosening_text}
use Rattle.command_meanings.specs.Loosening.{SpendsSearch}

-- the text is that of a least loosening. Its panel is a team of the pool
pub record PrintsLeast (pool : Pool) (text : List ℕ) : Type 0 where
  pub loosening : Loosening
  pub least : IsLeast pool loosening
  pub team : IsTrue (is_team pool loosening.panel)
  pub lines : text ≡ loosening_text pool loosening

-- There is no team: whatever the bounds are, size, standings and households alone can't be met. So there is no quota panel either
pub record PrintsNone (pool : Pool) (text : List ℕ) : Type 0 where
  pub no_team : (team : List ℕ) → IsTrue (is_team pool team) → ⊥
  pub none : panels pool ≡ []
  pub line : text ≡ no_panel_line

-- what is right to answer, whatever the budget of the words is
abbrev pub LoosenByProofMeans : Pool → RightAnswers
LoosenByProofMeans pool = record no_answer {
  -- status 0
  done = PrintsLeast pool;
  -- status 1
  no_panel = PrintsNone pool;
  -- status 5: the search of `loosen` needs more than 50,000,000 visits
  spent = SpendsSearch stated_visits pool;
}
