use Rattle.laws_of_offices.proofs.BoundsLast.{bounds_are_spent}
use Rattle.laws_of_offices.proofs.Returns.{next_then_reopen, rounds_go_back}
use Rattle.laws_of_offices.proofs.taken_back.rounds_go_back.Goals as goal

pub returns : goal.returns
returns c = record { changes = rounds_go_back; commands = next_then_reopen; spent = bounds_are_spent }
