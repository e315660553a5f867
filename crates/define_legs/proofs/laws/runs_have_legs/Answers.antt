use Rattle.define_legs.proofs.Endings.{each_has_legs, legs_end, one_list}
use Rattle.define_legs.proofs.Traces.{traces}
use Rattle.define_legs.proofs.laws.runs_have_legs.Goals as goal

pub returns : goal.returns
returns c = record { run = traces; each = each_has_legs; ends = legs_end; one = one_list }
