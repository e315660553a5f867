-- Proved by computation, with the definitions of digits and of the tests of UTF-8 unfolded.
use Rattle.std.proofs.Common.{refl}
use Rattle.std.specs.Fmt.{digits}
use Rattle.std.specs.Str.{is_utf8, chars}
use lib.Utf8.{encode}
use Rattle.laws_worked.proofs.texts.faulty_large_texts.Goals as goal

pub returns-clause-small : goal.returns-clause-small
unfolding digits is_utf8 chars encode
returns-clause-small c = refl

pub returns-clause-small_with_household : goal.returns-clause-small_with_household
unfolding digits is_utf8 chars encode
returns-clause-small_with_household c = refl

pub returns-clause-small_with_standing : goal.returns-clause-small_with_standing
unfolding digits is_utf8 chars encode
returns-clause-small_with_standing c = refl

pub returns-clause-small_and_cut : goal.returns-clause-small_and_cut
unfolding digits is_utf8 chars encode
returns-clause-small_and_cut c = refl

pub returns-clause-greatest_size : goal.returns-clause-greatest_size
unfolding digits is_utf8 chars encode
returns-clause-greatest_size c = refl

pub returns-clause-beyond_greatest_size : goal.returns-clause-beyond_greatest_size
unfolding digits is_utf8 chars encode
returns-clause-beyond_greatest_size c = refl

pub returns-clause-large_in_second : goal.returns-clause-large_in_second
unfolding digits is_utf8 chars encode
returns-clause-large_in_second c = refl

pub returns-clause-other_pool : goal.returns-clause-other_pool
unfolding digits is_utf8 chars encode
returns-clause-other_pool c = refl

pub returns-clause-small_in_bundle : goal.returns-clause-small_in_bundle
unfolding digits is_utf8 chars encode
returns-clause-small_in_bundle c = refl
