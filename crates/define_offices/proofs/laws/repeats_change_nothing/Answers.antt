use Rattle.define_offices.proofs.Again.{bounds_again, charter_again, repeats_change_nothing, rules_again, spared_repeats_change_nothing}
use Rattle.define_offices.proofs.laws.repeats_change_nothing.Goals as goal

pub returns : goal.returns
returns c = record { charter = charter_again; rules = rules_again; bounds = bounds_again; others = repeats_change_nothing; spared = spared_repeats_change_nothing }
