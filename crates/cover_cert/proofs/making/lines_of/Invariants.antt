use Rattle.std.proofs.Common.{[]}
use Rattle.check_search.specs.Front.{Tracks}
use Rattle.define_covers.proofs.Made.{Tries}
use Rattle.cover_cert.proofs.making.lines_of.Given as goal

-- the lines so far are the first of the search, which tries `front` next
abbrev pub invariant-fronts : goal.invariant-fronts
invariant-fronts l = record {
  begins : Tracks l.terms.classes [] l.terms.classes.classes l.tally;
  tries : Tries l.terms.classes l.terms.closed.items l.terms.row l.lines.items l.front.items;
}
