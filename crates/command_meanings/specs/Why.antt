-- What `why` answers about a pool, given by itself or in a proof: quotas of it that can't be met together, so that it has no quota panel;
-- or else a quota panel.
--
-- The engine that is asked first, within the budget of the words, has no definition. So the meaning doesn't say which of several conflicts
-- or panels is told. If the engine has no answer within this budget, the search of `panel` decides: `why` tells its panel or, if there is
-- none, names all quotas. So status 5 comes only if that search is spent.
use Rattle.std.specs.Prelude.{◌≡◌, ℕ, IsTrue, List, [], ◌∷◌, ◌++◌, codes}
use Rattle.std.specs.List.{flat_map}
use Rattle.define_quotas.specs.Conflicts.{IsConflict}
use Rattle.define_quotas.specs.ConflictText.{conflict_text}
use Rattle.define_quotas.specs.Quotas.{Conflict}
use Rattle.define_pools.specs.Pool.{Pool, is_quota_panel, volunteer}
use Rattle.command_shell.specs.Answers.{RightAnswers, no_answer}
use Rattle.command_meanings.specs.Panel.{SpendsVisits, stated_visits}

-- the id of volunteer `i`, in a line
abbrev pub id_line : Pool → ℕ → List ℕ
id_line pool i = (volunteer pool.volunteers i).id ++ 10 ∷ []

-- the text of a panel: that there is one, and its members' ids
abbrev pub panel_text : Pool → List ℕ → List ℕ
panel_text pool panel = codes "a panel exists" ++ 10 ∷ [] ++ flat_map (id_line pool) panel

pub data PrintsWhy (pool : Pool) (text : List ℕ) : Type 0 where
  -- the text is that of a quota panel
  OfPanel : (panel : List ℕ) → IsTrue (is_quota_panel pool panel) → text ≡ panel_text pool panel → PrintsWhy pool text
  -- the text is that of a conflict of the pool's quotas, so there is no quota panel
  OfConflict : (conflict : Conflict) → IsConflict pool conflict → text ≡ conflict_text pool conflict → PrintsWhy pool text

-- what is right to answer, whatever the budget of the words is
abbrev pub WhyMeans : Pool → RightAnswers
WhyMeans pool = record no_answer {
  -- status 0
  done = PrintsWhy pool;
  -- status 5: the search of `panel` needs more than 50,000,000 visits
  spent = SpendsVisits stated_visits pool;
}
