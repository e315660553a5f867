-- Proved by computation, with the definitions of the tests of UTF-8 unfolded.
use Rattle.std.proofs.Common.{refl}
use Rattle.std.specs.Str.{is_utf8, chars}
use lib.Utf8.{encode}
use Rattle.laws_worked.proofs.pools.four_with_a_family.Goals as goal

pub returns-clause-pool : goal.returns-clause-pool
unfolding is_utf8 chars encode
returns-clause-pool c = record { size = refl; few_categories = refl; categories = refl; different_categories = refl; few_volunteers = refl; ids = refl; different_ids = refl; values = refl; households = refl }
