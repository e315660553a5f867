-- Proved by computation, with the definitions of digits and of the tests of UTF-8 unfolded.
use Rattle.std.proofs.Common.{refl}
use Rattle.std.specs.Fmt.{digits}
use Rattle.std.specs.Str.{is_utf8, chars}
use lib.Utf8.{encode}
use Rattle.laws_worked.proofs.texts.housed_texts.Goals as goal

pub returns-clause-pool : goal.returns-clause-pool
unfolding digits is_utf8 chars encode
returns-clause-pool c = refl

pub returns-clause-pool_is_read : goal.returns-clause-pool_is_read
unfolding digits is_utf8 chars encode
returns-clause-pool_is_read c = refl

pub returns-clause-pool_length : goal.returns-clause-pool_length
unfolding digits is_utf8 chars encode
returns-clause-pool_length c = refl

pub returns-clause-bundle : goal.returns-clause-bundle
unfolding digits is_utf8 chars encode
returns-clause-bundle c = refl

pub returns-clause-bundle_is_read : goal.returns-clause-bundle_is_read
unfolding digits is_utf8 chars encode
returns-clause-bundle_is_read c = refl

pub returns-clause-bundle_length : goal.returns-clause-bundle_length
unfolding digits is_utf8 chars encode
returns-clause-bundle_length c = refl
