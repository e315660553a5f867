-- What a search reads. The contracts of src/terms.rt and src/searching.rt cite it.
use Rattle.std.specs.Prelude.{◌≡◌, ◌∷◌, List, map}
use Rattle.define_checks.specs.Caps.{classes_at, stage_row}
use Rattle.define_pools.specs.Certificate.{Stage}
use Rattle.define_pools.specs.Pool.{Pool}
use Rattle.define_searches.specs.Weights.{AreNarrow, EachNarrow}
use Rattle.check_search.specs.Weights.{IsSummed, SumEach}
use Rattle.check_search.specs.declared.terms.Terms.{Terms}

-- every weight in the rows fits 128 bits, and the sums are the rows' greatest sums
pub record AreTerms (terms : Terms) : Type 0 where
  pub narrow : AreNarrow terms.classes terms.row.a
  pub closed_narrow : EachNarrow terms.classes terms.closed.items
  pub summed : IsSummed terms.classes terms.row terms.sums
  pub closed_summed : SumEach terms.classes terms.closed.items terms.closed_sums.items

-- the classes and rows are those of `stage` after the stages `earlier`, which are listed with the latest first
pub record AreOfStage (pool : Pool) (earlier : List Stage) (stage : Stage) (terms : Terms) : Type 0 where
  pub classes : terms.classes ≡ classes_at pool (stage ∷ earlier)
  pub closed : terms.closed.items ≡ map (stage_row pool (stage ∷ earlier)) earlier
  pub row : terms.row ≡ stage_row pool (stage ∷ earlier) stage
