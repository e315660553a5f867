use Rattle.std.proofs.Common.{refl}
use Rattle.std.specs.Str.{is_utf8, chars}
use lib.Utf8.{encode}
use Rattle.define_imports.specs.Cells.{trim_front}
use Rattle.define_imports.proofs.worked_rules.Goals as goal

pub returns-clause-two_values : goal.returns-clause-two_values
unfolding trim_front is_utf8 chars encode
returns-clause-two_values c = refl

pub returns-clause-first_appearance : goal.returns-clause-first_appearance
unfolding trim_front is_utf8 chars encode
returns-clause-first_appearance c = refl

pub returns-clause-other_columns : goal.returns-clause-other_columns
unfolding trim_front is_utf8 chars encode
returns-clause-other_columns c = refl

pub returns-clause-nothing : goal.returns-clause-nothing
unfolding trim_front is_utf8 chars encode
returns-clause-nothing c = refl

pub returns-clause-no_value : goal.returns-clause-no_value
unfolding trim_front is_utf8 chars encode
returns-clause-no_value c = refl

pub returns-clause-no_column : goal.returns-clause-no_column
unfolding trim_front is_utf8 chars encode
returns-clause-no_column c = refl

pub returns-clause-column_twice : goal.returns-clause-column_twice
unfolding trim_front is_utf8 chars encode
returns-clause-column_twice c = refl

pub returns-clause-no_utf8 : goal.returns-clause-no_utf8
unfolding trim_front is_utf8 chars encode
returns-clause-no_utf8 c = refl

pub returns-clause-other_length : goal.returns-clause-other_length
unfolding trim_front is_utf8 chars encode
returns-clause-other_length c = refl

pub returns-clause-no_name : goal.returns-clause-no_name
unfolding trim_front is_utf8 chars encode
returns-clause-no_name c = refl

pub returns-clause-reserved : goal.returns-clause-reserved
unfolding trim_front is_utf8 chars encode
returns-clause-reserved c = refl

pub returns-clause-lower_above : goal.returns-clause-lower_above
unfolding trim_front is_utf8 chars encode
returns-clause-lower_above c = refl

pub returns-clause-no_number : goal.returns-clause-no_number
unfolding trim_front is_utf8 chars encode
returns-clause-no_number c = refl

pub returns-clause-ten_digits : goal.returns-clause-ten_digits
unfolding trim_front is_utf8 chars encode
returns-clause-ten_digits c = refl

pub returns-clause-too_great : goal.returns-clause-too_great
unfolding trim_front is_utf8 chars encode
returns-clause-too_great c = refl

pub returns-clause-repeated : goal.returns-clause-repeated
unfolding trim_front is_utf8 chars encode
returns-clause-repeated c = refl

pub returns-clause-one_category_more : goal.returns-clause-one_category_more
unfolding trim_front is_utf8 chars encode
returns-clause-one_category_more c = refl

pub returns-clause-one_value_more : goal.returns-clause-one_value_more
unfolding trim_front is_utf8 chars encode
returns-clause-one_value_more c = refl
