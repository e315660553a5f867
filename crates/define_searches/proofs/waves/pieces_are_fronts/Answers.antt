use Rattle.define_searches.proofs.Pieces.{piece_lengths, pieces_are}
use Rattle.define_searches.proofs.waves.pieces_are_fronts.Goals as goal

pub returns-clause-fronts : goal.returns-clause-fronts
returns-clause-fronts c = pieces_are

pub returns-clause-depth : goal.returns-clause-depth
returns-clause-depth c = piece_lengths
