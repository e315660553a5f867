-- The examples are proved by computation, with the definitions of digits and of UTF-8 unfolded.
use Rattle.std.proofs.Common.{refl}
use Rattle.std.specs.Fmt.{digits}
use Rattle.std.specs.Str.{is_utf8, chars}
use lib.Utf8.{encode}
use Rattle.define_proofs.proofs.worked_faults.Goals as goal

pub returns-clause-read : goal.returns-clause-read
unfolding digits is_utf8 chars encode
returns-clause-read c = refl

pub returns-clause-without_size : goal.returns-clause-without_size
unfolding digits is_utf8 chars encode
returns-clause-without_size c = refl

pub returns-clause-without_done : goal.returns-clause-without_done
unfolding digits is_utf8 chars encode
returns-clause-without_done c = refl

pub returns-clause-without_tree : goal.returns-clause-without_tree
unfolding digits is_utf8 chars encode
returns-clause-without_tree c = refl

pub returns-clause-one_tree : goal.returns-clause-one_tree
unfolding digits is_utf8 chars encode
returns-clause-one_tree c = refl

pub returns-clause-three_trees : goal.returns-clause-three_trees
unfolding digits is_utf8 chars encode
returns-clause-three_trees c = refl

pub returns-clause-without_close : goal.returns-clause-without_close
unfolding digits is_utf8 chars encode
returns-clause-without_close c = refl

pub returns-clause-line_behind : goal.returns-clause-line_behind
unfolding digits is_utf8 chars encode
returns-clause-line_behind c = refl

pub returns-clause-bytes_behind : goal.returns-clause-bytes_behind
unfolding digits is_utf8 chars encode
returns-clause-bytes_behind c = refl
