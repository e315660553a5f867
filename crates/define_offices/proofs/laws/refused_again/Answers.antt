use Rattle.define_offices.proofs.Again.{reopen_again, undrop_again}
use Rattle.define_offices.proofs.laws.refused_again.Goals as goal

pub returns : goal.returns
returns c = record { undrop = undrop_again; reopen = reopen_again }
