-- The examples are proved by computation, with the definitions of digits and of UTF-8 unfolded.
use Rattle.std.proofs.Common.{refl}
use Rattle.std.specs.Fmt.{digits}
use Rattle.std.specs.Str.{is_utf8, chars}
use lib.Utf8.{encode}
use Rattle.define_bundles.proofs.worked_texts.Goals as goal

pub returns-clause-four_length : goal.returns-clause-four_length
unfolding digits
returns-clause-four_length c = refl

pub returns-clause-four : goal.returns-clause-four
unfolding digits is_utf8 chars encode
returns-clause-four c = refl

pub returns-clause-nobody : goal.returns-clause-nobody
unfolding digits is_utf8 chars encode
returns-clause-nobody c = refl

pub returns-clause-cut : goal.returns-clause-cut
unfolding digits is_utf8 chars encode
returns-clause-cut c = refl

pub returns-clause-after_dropout_length : goal.returns-clause-after_dropout_length
unfolding digits
returns-clause-after_dropout_length c = refl

pub returns-clause-after_dropout : goal.returns-clause-after_dropout
unfolding digits is_utf8 chars encode
returns-clause-after_dropout c = refl

pub returns-clause-out_of_order : goal.returns-clause-out_of_order
unfolding digits is_utf8 chars encode
returns-clause-out_of_order c = refl

pub returns-clause-housed_length : goal.returns-clause-housed_length
unfolding digits
returns-clause-housed_length c = refl

pub returns-clause-housed : goal.returns-clause-housed
unfolding digits is_utf8 chars encode
returns-clause-housed c = refl

pub returns-clause-housed_in_first : goal.returns-clause-housed_in_first
unfolding digits is_utf8 chars encode
returns-clause-housed_in_first c = refl

pub returns-clause-nobody_housed : goal.returns-clause-nobody_housed
unfolding digits is_utf8 chars encode
returns-clause-nobody_housed c = refl

pub returns-clause-households_out_of_order : goal.returns-clause-households_out_of_order
unfolding digits is_utf8 chars encode
returns-clause-households_out_of_order c = refl

pub returns-clause-large_length : goal.returns-clause-large_length
unfolding digits
returns-clause-large_length c = refl

pub returns-clause-large : goal.returns-clause-large
unfolding digits is_utf8 chars encode
returns-clause-large c = refl

pub returns-clause-large_in_first : goal.returns-clause-large_in_first
unfolding digits is_utf8 chars encode
returns-clause-large_in_first c = refl

pub returns-clause-too_large : goal.returns-clause-too_large
unfolding digits is_utf8 chars encode
returns-clause-too_large c = refl

pub returns-clause-not_large : goal.returns-clause-not_large
unfolding digits is_utf8 chars encode
returns-clause-not_large c = refl

pub returns-clause-housed_in_third : goal.returns-clause-housed_in_third
unfolding digits is_utf8 chars encode
returns-clause-housed_in_third c = refl
