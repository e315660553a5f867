use Rattle.laws_of_offices.proofs.Returns.{drop_then_undrop, drops_go_back}
use Rattle.laws_of_offices.proofs.taken_back.dropouts_go_back.Goals as goal

pub returns : goal.returns
returns c = record { changes = drops_go_back; commands = drop_then_undrop }
