-- A run ends with `NoPanel` exactly if the pool has no quota panel and the opening search is within its budget.
use Rattle.std.proofs.Common.{◌≡◌, ℕ, ◌≤◌, Bool, true, cond, List, [], ◌∷◌, None, Result, Ok, Err, refl, sym, ap, ◌∙◌, inl, inr, ◌⊎◌}
use Rattle.std.proofs.lemmas.Bool.{false≢true, le-ltb}
use Rattle.std.specs.Prelude.{slice_get}
use Rattle.define_pools.specs.Pool.{Pool, panels}
use Rattle.define_pools.specs.Lottery.{Lottery}
use Rattle.define_rows.specs.Table.{Table}
use Rattle.define_runs.specs.Run.{RunLimits, Ended, NoPanel, NodesSpent, Ends, answered, opened, opening, parts_of}
use Rattle.define_searches.specs.Classes.{Classes, MakesClasses, classes_by}
use Rattle.define_searches.specs.Compositions.{compositions, first_composition}
use Rattle.define_searches.specs.Visits.{first_search}
use Rattle.define_searches.proofs.FirstSearch.{search_finds_first}
use Rattle.define_searches.proofs.PoolClasses.{classes_in_order, no_panel_of_classes, search_finds_none}
use Rattle.define_runs.specs.Spreading.{TotalPass, spread}
use Rattle.define_runs.proofs.Following.{ends_at_once}
use Rattle.laws_of_runs.proofs.Endings.{EndsAt, FindsNone, IsAnswered, ends_at, is_refused, opening_tells, step_tells}

nothing_first : (xs : List (List ℕ)) → slice_get xs 0 ≡ None → xs ≡ []
nothing_first [] e = refl
nothing_first (x ∷ xs) e = absurd cc

-- spreading ends with a lottery or with a total that passes its limit; a run that ends by spreading never ends with `NoPanel`
some_answer : (all : Classes) (table : Table) → NoPanel ≡ answered all table (spread all (parts_of table)) → ⊥
some_answer all table e = by (spread all (parts_of table)) e
  where
    by : (found : Result Lottery TotalPass) → NoPanel ≡ answered all table found → ⊥
    by (Ok lottery) f = cc
    by (Err pass) f = cc

-- a run that ends with `NoPanel` ends at its opening
at_opening : (all : Classes) (limits : RunLimits) → Ends all limits NoPanel → FindsNone all limits NoPanel
at_opening all limits ends = by (ends_at all limits ends.steps NoPanel ends.there)
  where
    opens : FindsNone all limits NoPanel ⊎ (is_refused NoPanel ≡ true) → FindsNone all limits NoPanel
    opens (inl found) = found
    opens (inr refused) = absurd (false≢true refused)

    steps : (table : Table) → IsAnswered all limits table NoPanel ⊎ (is_refused NoPanel ≡ true) → ⊥
    steps table (inl answer) = some_answer all table answer.is
    steps table (inr refused) = false≢true refused

    by : (opening all limits ≡ Ended NoPanel) ⊎ EndsAt all limits NoPanel → FindsNone all limits NoPanel
    by (inl now) = opens (opening_tells all limits NoPanel now)
    by (inr last) = absurd (steps last.last (step_tells all limits last.last NoPanel last.step_is))

module _ (pool : Pool) (alike : ℕ → ℕ → Bool) (makes : MakesClasses pool alike) (limits : RunLimits) where
  abbrev all : Classes
  all = classes_by alike pool

  pub no_panel_is_within : Ends all limits NoPanel → (first_search all).visits ≤ limits.opening
  no_panel_is_within ends = (at_opening all limits ends).within

  pub none_where_no_panel : Ends all limits NoPanel → panels pool ≡ []
  none_where_no_panel ends = no_panel_of_classes pool alike makes (nothing_first (compositions all) (at_opening all limits ends).none)

  pub no_panel_where_none : panels pool ≡ [] → (first_search all).visits ≤ limits.opening → Ends all limits NoPanel
  unfolding opening
  no_panel_where_none none few =
      let finds : first_composition all ≡ None = sym (search_finds_first all (classes_in_order pool alike)) ∙ (search_finds_none pool alike makes).1 none in
      ends_at_once all limits NoPanel
      (ap (λ b. cond b (Ended (NodesSpent None)) (opened all limits (first_composition all))) (le-ltb limits.opening (first_search all).visits few) ∙ ap (opened all limits) finds)
