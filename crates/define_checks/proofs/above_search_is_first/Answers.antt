use Rattle.define_checks.proofs.CheckSearch.{above_search_finds}
use Rattle.define_checks.proofs.above_search_is_first.Goals as goal

pub returns : goal.returns
returns c all closed row searchable entries = above_search_finds all closed row entries searchable
