use Rattle.define_legs.proofs.Traces.{all_pivots, few_pivots, legs_apart}
use Rattle.define_legs.proofs.laws.legs_have_few_pivots.Goals as goal

pub returns : goal.returns
returns c = record { sum = all_pivots; few = few_pivots; apart = legs_apart }
