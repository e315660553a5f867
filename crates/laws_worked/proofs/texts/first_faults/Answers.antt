-- Proved by computation, with the definitions of digits and of the tests of UTF-8 unfolded.
use Rattle.std.proofs.Common.{refl}
use Rattle.std.specs.Fmt.{digits}
use Rattle.std.specs.Str.{is_utf8, chars}
use lib.Utf8.{encode}
use Rattle.laws_worked.proofs.texts.first_faults.Goals as goal

pub returns-clause-first_line : goal.returns-clause-first_line
unfolding digits is_utf8 chars encode
returns-clause-first_line c = refl

pub returns-clause-lowest_kind : goal.returns-clause-lowest_kind
unfolding digits is_utf8 chars encode
returns-clause-lowest_kind c = refl

pub returns-clause-behind_the_end : goal.returns-clause-behind_the_end
unfolding digits is_utf8 chars encode
returns-clause-behind_the_end c = refl

pub returns-clause-unended_line : goal.returns-clause-unended_line
unfolding digits is_utf8 chars encode
returns-clause-unended_line c = refl

pub returns-clause-behind_a_standing : goal.returns-clause-behind_a_standing
unfolding digits is_utf8 chars encode
returns-clause-behind_a_standing c = refl
