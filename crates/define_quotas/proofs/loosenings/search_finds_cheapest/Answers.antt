use Rattle.define_quotas.proofs.TeamSearch.{search_keeps_cheapest}
use Rattle.define_quotas.proofs.loosenings.search_finds_cheapest.Goals as goal

pub returns : goal.returns
returns c = search_keeps_cheapest
