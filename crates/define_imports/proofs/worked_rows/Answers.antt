use Rattle.std.proofs.Common.{refl}
use Rattle.std.specs.Str.{is_utf8, chars}
use lib.Utf8.{encode}
use Rattle.define_imports.specs.Cells.{trim_front}
use Rattle.define_imports.proofs.worked_rows.Goals as goal

pub returns-clause-right : goal.returns-clause-right
unfolding trim_front is_utf8 chars encode
returns-clause-right c = refl

pub returns-clause-one_id_twice : goal.returns-clause-one_id_twice
unfolding trim_front is_utf8 chars encode
returns-clause-one_id_twice c = refl

pub returns-clause-no_rows : goal.returns-clause-no_rows
unfolding trim_front is_utf8 chars encode
returns-clause-no_rows c = refl

pub returns-clause-households : goal.returns-clause-households
unfolding trim_front is_utf8 chars encode
returns-clause-households c = refl

pub returns-clause-household_a_category : goal.returns-clause-household_a_category
unfolding trim_front is_utf8 chars encode
returns-clause-household_a_category c = refl

pub returns-clause-nothing : goal.returns-clause-nothing
unfolding trim_front is_utf8 chars encode
returns-clause-nothing c = refl

pub returns-clause-no_column : goal.returns-clause-no_column
unfolding trim_front is_utf8 chars encode
returns-clause-no_column c = refl

pub returns-clause-column_twice : goal.returns-clause-column_twice
unfolding trim_front is_utf8 chars encode
returns-clause-column_twice c = refl

pub returns-clause-household_twice : goal.returns-clause-household_twice
unfolding trim_front is_utf8 chars encode
returns-clause-household_twice c = refl

pub returns-clause-no_utf8 : goal.returns-clause-no_utf8
unfolding trim_front is_utf8 chars encode
returns-clause-no_utf8 c = refl

pub returns-clause-other_length : goal.returns-clause-other_length
unfolding trim_front is_utf8 chars encode
returns-clause-other_length c = refl

pub returns-clause-no_id : goal.returns-clause-no_id
unfolding trim_front is_utf8 chars encode
returns-clause-no_id c = refl

pub returns-clause-key_with_blank : goal.returns-clause-key_with_blank
unfolding trim_front is_utf8 chars encode
returns-clause-key_with_blank c = refl

pub returns-clause-bad_household : goal.returns-clause-bad_household
unfolding trim_front is_utf8 chars encode
returns-clause-bad_household c = refl

pub returns-clause-unknown_value : goal.returns-clause-unknown_value
unfolding trim_front is_utf8 chars encode
returns-clause-unknown_value c = refl
