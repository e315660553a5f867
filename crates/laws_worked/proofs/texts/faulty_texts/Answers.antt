-- Proved by computation, with the definitions of digits and of the tests of UTF-8 unfolded.
use Rattle.std.proofs.Common.{refl}
use Rattle.std.specs.Fmt.{digits}
use Rattle.std.specs.Str.{is_utf8, chars}
use lib.Utf8.{encode}
use Rattle.laws_worked.proofs.texts.faulty_texts.Goals as goal

pub returns-clause-size : goal.returns-clause-size
unfolding digits is_utf8 chars encode
returns-clause-size c = refl

pub returns-clause-category_repeated : goal.returns-clause-category_repeated
unfolding digits is_utf8 chars encode
returns-clause-category_repeated c = refl

pub returns-clause-value_repeated : goal.returns-clause-value_repeated
unfolding digits is_utf8 chars encode
returns-clause-value_repeated c = refl

pub returns-clause-bounds : goal.returns-clause-bounds
unfolding digits is_utf8 chars encode
returns-clause-bounds c = refl

pub returns-clause-unknown_value : goal.returns-clause-unknown_value
unfolding digits is_utf8 chars encode
returns-clause-unknown_value c = refl

pub returns-clause-missing_value : goal.returns-clause-missing_value
unfolding digits is_utf8 chars encode
returns-clause-missing_value c = refl

pub returns-clause-id_repeated : goal.returns-clause-id_repeated
unfolding digits is_utf8 chars encode
returns-clause-id_repeated c = refl

pub returns-clause-unknown_id : goal.returns-clause-unknown_id
unfolding digits is_utf8 chars encode
returns-clause-unknown_id c = refl

pub returns-clause-limit : goal.returns-clause-limit
unfolding digits is_utf8 chars encode
returns-clause-limit c = refl

pub returns-clause-not_utf8 : goal.returns-clause-not_utf8
unfolding digits is_utf8 chars encode
returns-clause-not_utf8 c = refl

pub returns-clause-missing_end : goal.returns-clause-missing_end
unfolding digits is_utf8 chars encode
returns-clause-missing_end c = refl
