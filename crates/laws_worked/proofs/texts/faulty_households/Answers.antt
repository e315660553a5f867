-- Proved by computation, with the definitions of digits and of the tests of UTF-8 unfolded.
use Rattle.std.proofs.Common.{refl}
use Rattle.std.specs.Fmt.{digits}
use Rattle.std.specs.Str.{is_utf8, chars}
use lib.Utf8.{encode}
use Rattle.laws_worked.proofs.texts.faulty_households.Goals as goal

pub returns-clause-first_version : goal.returns-clause-first_version
unfolding digits is_utf8 chars encode
returns-clause-first_version c = refl

pub returns-clause-none_before_end : goal.returns-clause-none_before_end
unfolding digits is_utf8 chars encode
returns-clause-none_before_end c = refl

pub returns-clause-none_before_standing : goal.returns-clause-none_before_standing
unfolding digits is_utf8 chars encode
returns-clause-none_before_standing c = refl

pub returns-clause-out_of_order : goal.returns-clause-out_of_order
unfolding digits is_utf8 chars encode
returns-clause-out_of_order c = refl

pub returns-clause-no_name : goal.returns-clause-no_name
unfolding digits is_utf8 chars encode
returns-clause-no_name c = refl

pub returns-clause-behind_a_standing : goal.returns-clause-behind_a_standing
unfolding digits is_utf8 chars encode
returns-clause-behind_a_standing c = refl
