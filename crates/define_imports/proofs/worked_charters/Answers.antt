use Rattle.std.proofs.Common.{refl}
use Rattle.std.specs.Str.{is_utf8, chars}
use lib.Utf8.{encode}
use Rattle.define_imports.proofs.worked_charters.Goals as goal

pub returns-clause-right : goal.returns-clause-right
unfolding is_utf8 chars encode
returns-clause-right c = refl

pub returns-clause-no_toml : goal.returns-clause-no_toml
unfolding is_utf8 chars encode
returns-clause-no_toml c = refl

pub returns-clause-no_title : goal.returns-clause-no_title
unfolding is_utf8 chars encode
returns-clause-no_title c = refl

pub returns-clause-title_no_string : goal.returns-clause-title_no_string
unfolding is_utf8 chars encode
returns-clause-title_no_string c = refl

pub returns-clause-no_size : goal.returns-clause-no_size
unfolding is_utf8 chars encode
returns-clause-no_size c = refl

pub returns-clause-size_no_number : goal.returns-clause-size_no_number
unfolding is_utf8 chars encode
returns-clause-size_no_number c = refl

pub returns-clause-empty_title : goal.returns-clause-empty_title
unfolding is_utf8 chars encode
returns-clause-empty_title c = refl

pub returns-clause-title_with_tab : goal.returns-clause-title_with_tab
unfolding is_utf8 chars encode
returns-clause-title_with_tab c = refl

pub returns-clause-too_small : goal.returns-clause-too_small
unfolding is_utf8 chars encode
returns-clause-too_small c = refl

pub returns-clause-too_great : goal.returns-clause-too_great
unfolding is_utf8 chars encode
returns-clause-too_great c = refl

pub returns-clause-blanks_stay : goal.returns-clause-blanks_stay
unfolding is_utf8 chars encode
returns-clause-blanks_stay c = refl

pub returns-clause-large : goal.returns-clause-large
unfolding is_utf8 chars encode
returns-clause-large c = refl

pub returns-clause-few : goal.returns-clause-few
unfolding is_utf8 chars encode
returns-clause-few c = refl

pub returns-clause-no_rows : goal.returns-clause-no_rows
unfolding is_utf8 chars encode
returns-clause-no_rows c = refl

pub returns-clause-too_many : goal.returns-clause-too_many
unfolding is_utf8 chars encode
returns-clause-too_many c = refl

pub returns-clause-rows_no_number : goal.returns-clause-rows_no_number
unfolding is_utf8 chars encode
returns-clause-rows_no_number c = refl
