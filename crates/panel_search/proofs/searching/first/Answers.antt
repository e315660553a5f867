use Rattle.std.proofs.Common.{◌∙◌}
use Rattle.define_searches.proofs.FirstSearch.{search_finds_first}
use Rattle.panel_search.proofs.searching.first.Goals as goal

pub returns-clause-first : goal.returns-clause-first
returns-clause-first c = c.in_ok-run.ensures.1 ∙ search_finds_first c.args.classes.now c.facts.ensures.searchable
