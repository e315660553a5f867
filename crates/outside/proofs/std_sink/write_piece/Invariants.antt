use Rattle.std.proofs.Common.{◌-◌, ◌≤◌, length, take}
use Rattle.std.specs.Io.KnownBytes.{Appends}
use Rattle.outside.proofs.std_sink.write_piece.Given as goal

-- the writer has taken the first `taken` bytes of the piece
abbrev pub invariant-loop-taken : goal.invariant-loop-taken
invariant-loop-taken g l = (l.taken ≤ length l.piece) × Appends (g.W.Write.contents l.fn.inner) (g.W.Write.contents l.inner) (take l.taken l.piece)

abbrev pub decreases-loop-taken : goal.decreases-loop-taken
decreases-loop-taken g l = length l.piece - l.taken
