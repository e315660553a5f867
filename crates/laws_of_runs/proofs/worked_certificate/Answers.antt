-- The example follows from the worked run by `found_certified`. That `four` is a pool is proved by computation, with the definitions of
-- the tests of UTF-8 unfolded.
use Rattle.std.proofs.Common.{arith, refl}
use Rattle.std.specs.Str.{is_utf8, chars}
use lib.Utf8.{encode}
use Rattle.define_pools.specs.Pool.{IsPool}
use Rattle.define_pools.specs.WorkedExamples.{four}
use Rattle.define_searches.specs.Classes.{are_alike}
use Rattle.define_searches.proofs.AlikeClasses.{alike_makes}
use Rattle.define_runs.specs.Run.{run_limits}
use Rattle.define_runs.specs.WorkedRuns.{limits, pairs}
use Rattle.laws_of_runs.proofs.Certified.{found_certified}
use Rattle.laws_of_runs.proofs.worked_certificate.Goals as goal

four_is_pool : IsPool four
unfolding is_utf8 chars encode
four_is_pool = record { size = refl; few_categories = refl; categories = refl; different_categories = refl; few_volunteers = refl; ids = refl; different_ids = refl; values = refl; households = refl }

pub returns : goal.returns
returns c = found_certified four (are_alike four) (alike_makes four) (run_limits (limits 127 4 100)) c.worked_runs.ensures.four.0 pairs four_is_pool
    (record { some_bits = omega arith; few_bits = omega arith; few_pivots = omega arith }) c.worked_runs.ensures.four.1
