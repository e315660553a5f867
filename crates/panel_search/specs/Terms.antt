-- What a search for the best composition reads. The contracts of `pricing`, `priced` and `dividing` cite it.
use Rattle.define_searches.specs.Weights.{AreNarrow, EachNarrow}
use Rattle.panel_search.specs.Weights.{IsSummed, SumEach}
use Rattle.panel_search.specs.declared.pricing.Terms.{Terms}

-- every weight in the rows fits 128 bits, and the sums that the search reads are the rows' greatest sums
pub record AreTerms (terms : Terms) : Type 0 where
  pub narrow : AreNarrow terms.classes.now terms.row.now.a
  pub closed_narrow : EachNarrow terms.classes.now terms.closed.now
  pub summed : IsSummed terms.classes.now terms.row.now terms.sums.now
  pub closed_summed : SumEach terms.classes.now terms.closed.now terms.closed_sums.now
