-- The examples are proved by computation, with the definitions of digits and of UTF-8 unfolded.
use Rattle.std.proofs.Common.{refl}
use Rattle.std.specs.Fmt.{digits}
use Rattle.std.specs.Str.{is_utf8, chars}
use lib.Utf8.{encode}
use Rattle.define_covers.proofs.texts.worked_verdicts.Goals as goal

pub returns-clause-read : goal.returns-clause-read
unfolding digits is_utf8 chars encode
returns-clause-read c = refl

pub returns-clause-valid : goal.returns-clause-valid
unfolding digits is_utf8 chars encode
returns-clause-valid c = refl

pub returns-clause-early : goal.returns-clause-early
unfolding digits is_utf8 chars encode
returns-clause-early c = refl

pub returns-clause-cause : goal.returns-clause-cause
unfolding digits is_utf8 chars encode
returns-clause-cause c = refl

pub returns-clause-no_front : goal.returns-clause-no_front
unfolding digits is_utf8 chars encode
returns-clause-no_front c = refl
