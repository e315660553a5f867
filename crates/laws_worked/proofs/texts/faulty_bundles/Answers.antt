-- Proved by computation, with the definitions of digits and of the tests of UTF-8 unfolded.
use Rattle.std.proofs.Common.{refl}
use Rattle.std.specs.Fmt.{digits}
use Rattle.std.specs.Str.{is_utf8, chars}
use lib.Utf8.{encode}
use Rattle.laws_worked.proofs.texts.faulty_bundles.Goals as goal

pub returns-clause-version : goal.returns-clause-version
unfolding digits is_utf8 chars encode
returns-clause-version c = refl

pub returns-clause-other_version : goal.returns-clause-other_version
unfolding digits is_utf8 chars encode
returns-clause-other_version c = refl

pub returns-clause-in_the_pool : goal.returns-clause-in_the_pool
unfolding digits is_utf8 chars encode
returns-clause-in_the_pool c = refl

pub returns-clause-total : goal.returns-clause-total
unfolding digits is_utf8 chars encode
returns-clause-total c = refl

pub returns-clause-no_panel : goal.returns-clause-no_panel
unfolding digits is_utf8 chars encode
returns-clause-no_panel c = refl

pub returns-clause-no_member : goal.returns-clause-no_member
unfolding digits is_utf8 chars encode
returns-clause-no_member c = refl

pub returns-clause-stage_first : goal.returns-clause-stage_first
unfolding digits is_utf8 chars encode
returns-clause-stage_first c = refl

pub returns-clause-first_stage : goal.returns-clause-first_stage
unfolding digits is_utf8 chars encode
returns-clause-first_stage c = refl

pub returns-clause-later_stage : goal.returns-clause-later_stage
unfolding digits is_utf8 chars encode
returns-clause-later_stage c = refl

pub returns-clause-panel_last : goal.returns-clause-panel_last
unfolding digits is_utf8 chars encode
returns-clause-panel_last c = refl

pub returns-clause-pool_cut : goal.returns-clause-pool_cut
unfolding digits is_utf8 chars encode
returns-clause-pool_cut c = refl

pub returns-clause-cut : goal.returns-clause-cut
unfolding digits is_utf8 chars encode
returns-clause-cut c = refl

pub returns-clause-empty : goal.returns-clause-empty
unfolding digits is_utf8 chars encode
returns-clause-empty c = refl

pub returns-clause-behind_done : goal.returns-clause-behind_done
unfolding digits is_utf8 chars encode
returns-clause-behind_done c = refl
