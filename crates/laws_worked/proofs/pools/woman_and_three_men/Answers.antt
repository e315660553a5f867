-- Proved by computation, with the definitions of the tests of UTF-8 unfolded.
use Rattle.std.proofs.Common.{refl}
use Rattle.std.specs.Str.{is_utf8, chars}
use lib.Utf8.{encode}
use Rattle.laws_worked.proofs.pools.woman_and_three_men.Goals as goal

pub returns-clause-pool : goal.returns-clause-pool
unfolding is_utf8 chars encode
returns-clause-pool c = record { size = refl; few_categories = refl; categories = refl; different_categories = refl; few_volunteers = refl; ids = refl; different_ids = refl; values = refl; households = refl }

pub returns-clause-certified : goal.returns-clause-certified
returns-clause-certified c = record {
  is_lottery = record { some = refl; panels = refl; different = refl; total_agrees = record { weights = refl; total = refl } };
  stages_hold = (record { one_each = refl; none_negative = refl; some_positive = refl; common_count = 1; same_count = refl; least_count = refl; capped = refl; reached = refl }, (record { one_each = refl; none_negative = refl; some_positive = refl; common_count = 3; same_count = refl; least_count = refl; capped = refl; reached = refl }, refl));
}
