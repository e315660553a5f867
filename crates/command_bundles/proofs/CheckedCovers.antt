-- The answer of `check-cover` for a verdict is right by its meaning, and no other is.
use Rattle.std.proofs.Common.{◌≡◌, ◌∙◌, ap, refl, sym, subst}
use Rattle.define_pools.specs.Certificate.{Certifies}
use Rattle.define_pools.specs.Lottery.{LeximinGreatest}
use Rattle.define_checks.specs.Reasons.{Refused, Valid, Verdict}
use Rattle.define_covers.specs.Covers.{Cover}
use Rattle.define_covers.specs.CoverVerdict.{verdict}
use Rattle.command_bundles.specs.Checked.{TellsVerdict}
use Rattle.command_meanings.specs.Check.{refused_line, valid_line}
use Rattle.command_meanings.proofs.OneAnswer.{one_by}
use Rattle.command_shell.specs.declared.status.Printed.TheVariants.{Done, Refused as Rejected}
use Rattle.command_shell.specs.declared.status.Cause.TheVariants.{Input}
use Rattle.command_shell.specs.Answers.{HasOneAnswer, IsRight, Prints, Saying, Stops}
use Rattle.command_meanings.specs.CheckCover.{CheckCoverMeans}

pub verdict_is_told : (cover : Cover) (said : Verdict) (answer : Saying) → said ≡ verdict cover →
    (said ≡ Valid → Certifies cover.bundle.pool cover.bundle.answer.lottery cover.bundle.answer.stages) →
    (said ≡ Valid → LeximinGreatest cover.bundle.pool cover.bundle.answer.lottery) →
    TellsVerdict said answer → IsRight (CheckCoverMeans cover) answer
verdict_is_told cover Valid answer says certified greatest tells =
    subst (IsRight (CheckCoverMeans cover)) (sym tells)
    (record { valid = sym says; greatest = record { certified = certified refl; greatest = greatest refl }; line = refl })
verdict_is_told cover (Refused refusal) answer says certified greatest tells =
    subst (IsRight (CheckCoverMeans cover)) (sym tells) (record { refusal = refusal; refuses = sym says; line = refl })

abbrev cover_said : Verdict → Saying
cover_said Valid = Prints Done valid_line
cover_said (Refused refusal) = Prints Rejected (refused_line refusal)

pub check_cover_once : (cover : Cover) → HasOneAnswer (CheckCoverMeans cover)
check_cover_once cover = one_by (CheckCoverMeans cover) (cover_said (verdict cover)) is
  where
    is : (answer : Saying) → IsRight (CheckCoverMeans cover) answer → answer ≡ cover_said (verdict cover)
    is (Prints Done text) right = ap (Prints Done) right.line ∙ ap cover_said (sym right.valid)
    is (Prints Rejected text) right = ap (Prints Rejected) right.line ∙ ap cover_said (sym right.refuses)
    is (Stops Input line) right = absurd right
    is answer right = absurd right
