use Rattle.std.proofs.Common.{drop, take}
use Rattle.check_search.specs.Front.{Tracks}
use Rattle.cover_cert.proofs.judging.go_to.Given as goal

abbrev pub invariant-loop-place : goal.invariant-loop-place
invariant-loop-place l = Tracks l.classes (take l.place l.front) (drop l.place l.classes.classes) l.tally
