use Rattle.std.proofs.lemmas.Bool.{ltb-false, ltb-true}
use Rattle.define_draws.specs.Short.{rows_before}
use Rattle.define_draws.proofs.Ranks.{first_by_remainder}
use Rattle.define_draws.proofs.short.greatest_remainders_first.Goals as goal

pub returns : goal.returns
returns c left remainders first second in_first in_second comes stays =
    first_by_remainder left remainders first second in_first in_second (ltb-true (rows_before remainders first) left comes) (ltb-false (rows_before remainders second) left stays)
