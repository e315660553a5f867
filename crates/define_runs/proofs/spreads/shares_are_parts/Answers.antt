use Rattle.define_runs.proofs.Shares.{parts_from_shares}
use Rattle.define_runs.proofs.spreads.shares_are_parts.Goals as goal

pub returns : goal.returns
returns c = parts_from_shares
