use Rattle.std.proofs.Common.{sym, subst}
use Rattle.define_searches.specs.Weights.{EachNarrow}
use Rattle.check_search.proofs.Stands.{whole_lack}
use Rattle.check_search.proofs.searching.Search.is_live.Goals as goal

pub optimistic-weight-requires-clause-lack : goal.optimistic-weight-requires-clause-lack
optimistic-weight-requires-clause-lack c = whole_lack c.args.terms.now.classes _ c.size-lack.ensures

pub front_attains-attains-requires-clause-narrow : goal.front_attains-attains-requires-clause-narrow
front_attains-attains-requires-clause-narrow c = subst (EachNarrow c.args.terms.now.classes) (sym c.deref-3.ensures.value) c.requires.terms.closed_narrow

pub front_attains-attains-requires-clause-lack : goal.front_attains-attains-requires-clause-lack
front_attains-attains-requires-clause-lack c = whole_lack c.args.terms.now.classes _ c.size-lack.ensures
