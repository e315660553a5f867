use Rattle.std.proofs.Common.{◌-◌, drop, length, take}
use Rattle.check_search.specs.Front.{Tracks}
use Rattle.cover_cert.proofs.judging.go_back.Given as goal

abbrev pub invariant-loop-done : goal.invariant-loop-done
invariant-loop-done l = Tracks l.classes (take (length l.front - l.done) l.front) (drop (length l.front - l.done) l.classes.classes) l.tally
