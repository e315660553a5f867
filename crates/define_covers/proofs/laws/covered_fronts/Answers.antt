use Rattle.define_covers.proofs.Alive.{live_where_no_cause, live_where_none_first}
use Rattle.define_covers.proofs.Covered.{covers_where_no_fault, none_where_covered}
use Rattle.define_covers.proofs.Ruled.{no_cause_where_live}
use Rattle.define_covers.proofs.laws.covered_fronts.Goals as goal

pub returns-clause-live : goal.returns-clause-live
returns-clause-live c = λ all closed row front. (no_cause_where_live all closed row front, live_where_no_cause all closed row front)

pub returns-clause-first : goal.returns-clause-first
returns-clause-first c = live_where_none_first

pub returns-clause-none_above : goal.returns-clause-none_above
returns-clause-none_above c = λ pool earlier stage number lines e. none_where_covered pool earlier stage lines (covers_where_no_fault pool earlier stage lines number e)
