use Rattle.std.proofs.Common.{sym, subst}
use Rattle.define_searches.specs.Weights.{EachNarrow}
use Rattle.check_search.proofs.searching.Search.new.Goals as goal

pub all_weights-requires : goal.all_weights-requires
all_weights-requires c = subst (EachNarrow c.args.terms.now.classes) (sym c.deref.ensures.value) c.requires.closed_narrow
