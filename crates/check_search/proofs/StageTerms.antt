-- Classes and rows that are made of a stage and the earlier ones.
use Rattle.std.proofs.Common.{◌≡◌, ℕ, ◌∷◌, true, List, length, map, sym, ap, ◌∙◌, subst}
use Rattle.std.specs.List.{list_all}
use Rattle.define_bundles.specs.Ranges.{is_stage}
use Rattle.define_checks.specs.Caps.{alike_at, classes_at, stage_row}
use Rattle.define_checks.proofs.StageRows.{rows_have_entries, rows_have_reach}
use Rattle.define_pools.specs.Certificate.{Stage, weight_of}
use Rattle.define_pools.specs.Pool.{Pool}
use Rattle.define_rows.specs.Row.{Row}
use Rattle.define_searches.specs.Classes.{Classes, leaders}
use Rattle.define_searches.specs.Fronts.{HaveEntries, HaveReach}
use Rattle.check_search.specs.Likeness.{count_of, is_alike, stages_of}
use Rattle.check_search.specs.declared.likeness.Likeness.{Likeness}

pub record AreMade (pool : Pool) (earlier : List Stage) (stage : Stage) (classes : Classes) (closed : List Row) (row : Row) : Type 0 where
  pub classes_are : classes ≡ classes_at pool (stage ∷ earlier)
  pub closed_are : closed ≡ map (stage_row pool (stage ∷ earlier)) earlier
  pub row_is : row ≡ stage_row pool (stage ∷ earlier) stage

-- a stage as a row over classes with the first members `firsts`
abbrev pub row_by : List ℕ → Stage → Row
row_by firsts stage = record { b = stage.cap; a = map (weight_of stage) firsts }

pub are_made : (pool : Pool) (earlier : List Stage) (stage : Stage) (likeness : Likeness) (firsts second third : List ℕ) (classes : Classes) (closed : List Row) (row : Row) → likeness.pool.now ≡ pool →
    stages_of likeness ≡ stage ∷ earlier → firsts ≡ leaders (is_alike likeness) (count_of likeness) → classes ≡ classes_at likeness.pool.now (stages_of likeness) →
    second ≡ firsts → closed ≡ map (row_by second) earlier → third ≡ firsts → row ≡ row_by third stage → AreMade pool earlier stage classes closed row
are_made pool earlier stage likeness firsts second third classes closed row same_pool same_stages leading made second_is closed_is third_is row_is =
    let firsts_are : firsts ≡ leaders (alike_at pool (stage ∷ earlier)) (length pool.volunteers) =
    leading ∙ ap (λ p. leaders (alike_at p (stages_of likeness)) (length p.volunteers)) same_pool ∙ ap (λ stages. leaders (alike_at pool stages) (length pool.volunteers)) same_stages in
    record {
      classes_are = made ∙ ap (λ p. classes_at p (stages_of likeness)) same_pool ∙ ap (classes_at pool) same_stages;
      closed_are = closed_is ∙ ap (λ xs. map (row_by xs) earlier) (second_is ∙ firsts_are);
      row_is = row_is ∙ ap (λ xs. row_by xs stage) (third_is ∙ firsts_are);
    }

module _ (pool : Pool) (earlier : List Stage) (stage : Stage) (classes : Classes) (closed : List Row) (row : Row) (made : AreMade pool earlier stage classes closed row) where
  -- If P holds of the classes and rows of the definition, it holds of those that the code made.
  moved : (P : Classes → List Row → Type 0) → P (classes_at pool (stage ∷ earlier)) (map (stage_row pool (stage ∷ earlier)) (stage ∷ earlier)) → P classes (row ∷ closed)
  moved P holds =
      subst (λ all. P all (row ∷ closed)) (sym made.classes_are)
      (subst (λ rows. P (classes_at pool (stage ∷ earlier)) (row ∷ rows)) (sym made.closed_are)
      (subst (λ r. P (classes_at pool (stage ∷ earlier)) (r ∷ map (stage_row pool (stage ∷ earlier)) earlier)) (sym made.row_is) holds))

  pub made_entries : HaveEntries classes (row ∷ closed)
  made_entries = moved HaveEntries (rows_have_entries pool (stage ∷ earlier) (stage ∷ earlier))

  pub made_reach : list_all (is_stage (length pool.volunteers)) (stage ∷ earlier) ≡ true → HaveReach classes (row ∷ closed)
  made_reach in_ranges = moved HaveReach (rows_have_reach pool (stage ∷ earlier) in_ranges)
