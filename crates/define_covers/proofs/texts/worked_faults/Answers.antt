-- The examples are proved by computation, with the definitions of digits and of UTF-8 unfolded.
use Rattle.std.proofs.Common.{refl}
use Rattle.std.specs.Fmt.{digits}
use Rattle.std.specs.Str.{is_utf8, chars}
use lib.Utf8.{encode}
use Rattle.define_covers.proofs.texts.worked_faults.Goals as goal

pub returns-clause-after_first : goal.returns-clause-after_first
unfolding digits is_utf8 chars encode
returns-clause-after_first c = refl

pub returns-clause-in_pool : goal.returns-clause-in_pool
unfolding digits is_utf8 chars encode
returns-clause-in_pool c = refl

pub returns-clause-in_bundle : goal.returns-clause-in_bundle
unfolding digits is_utf8 chars encode
returns-clause-in_bundle c = refl

pub returns-clause-after_bundle : goal.returns-clause-after_bundle
unfolding digits is_utf8 chars encode
returns-clause-after_bundle c = refl

pub returns-clause-without_close : goal.returns-clause-without_close
unfolding digits is_utf8 chars encode
returns-clause-without_close c = refl

pub returns-clause-second_version : goal.returns-clause-second_version
unfolding digits is_utf8 chars encode
returns-clause-second_version c = refl

pub returns-clause-no_bundle : goal.returns-clause-no_bundle
unfolding digits is_utf8 chars encode
returns-clause-no_bundle c = refl

pub returns-clause-total : goal.returns-clause-total
unfolding digits is_utf8 chars encode
returns-clause-total c = refl

pub returns-clause-without_tree : goal.returns-clause-without_tree
unfolding digits is_utf8 chars encode
returns-clause-without_tree c = refl

pub returns-clause-early_close : goal.returns-clause-early_close
unfolding digits is_utf8 chars encode
returns-clause-early_close c = refl

pub returns-clause-line_behind : goal.returns-clause-line_behind
unfolding digits is_utf8 chars encode
returns-clause-line_behind c = refl

pub returns-clause-bytes_behind : goal.returns-clause-bytes_behind
unfolding digits is_utf8 chars encode
returns-clause-bytes_behind c = refl
