-- The answers of `check` for a verdict and for a stop are right by `CheckMeans`.
use Rattle.std.proofs.Common.{◌≡◌, ◌↔◌, ℕ, refl, sym, subst, Ok}
use Rattle.std.specs.Prelude.{Err}
use Rattle.define_pools.specs.Certificate.{Certifies}
use Rattle.define_pools.specs.Lottery.{LeximinGreatest}
use Rattle.define_bundles.specs.BundleText.{Bundle}
use Rattle.define_checks.specs.Reasons.{Refusal, Refused, Valid, Verdict}
use Rattle.define_checks.specs.Visits.{check_answer}
use Rattle.cert_check.specs.Answers.{Answers}
use Rattle.cert_check.specs.declared.stops.CheckStop.{CheckStop}
use Rattle.cert_check.specs.declared.stops.CheckStop.TheVariants.{NodesSpent, OutOfMemory}
use Rattle.command_shell.specs.Answers.{IsRight, Saying}
use Rattle.command_meanings.specs.Check.{CheckMeans}
use Rattle.command_bundles.specs.Checked.{TellsStop, TellsVerdict}

pub verdict_is_told : (nodes : ℕ) (bundle : Bundle) (verdict : Verdict) (answer : Saying) →
    check_answer bundle.pool bundle.answer nodes ≡ Ok verdict →
    (verdict ≡ Valid ↔ Certifies bundle.pool bundle.answer.lottery bundle.answer.stages) →
    (verdict ≡ Valid → LeximinGreatest bundle.pool bundle.answer.lottery) →
    ((refusal : Refusal) → verdict ≡ Refused refusal → ¬ Certifies bundle.pool bundle.answer.lottery bundle.answer.stages) →
    TellsVerdict verdict answer → IsRight (CheckMeans nodes bundle) answer
verdict_is_told nodes bundle Valid answer says valid greatest refused tells =
    subst (IsRight (CheckMeans nodes bundle)) (sym tells)
    (record { verdict = says; greatest = record { certified = valid.0 refl; greatest = greatest refl }; line = refl })
verdict_is_told nodes bundle (Refused refusal) answer says valid greatest refused tells =
    subst (IsRight (CheckMeans nodes bundle)) (sym tells) (record { refusal = refusal; verdict = says; fails = refused refusal refl; line = refl })

pub stop_is_told : (nodes : ℕ) (bundle : Bundle) (stop : CheckStop) (answer : Saying) →
    Answers (check_answer bundle.pool bundle.answer nodes) (Err stop) → TellsStop nodes stop answer → IsRight (CheckMeans nodes bundle) answer
stop_is_told nodes bundle (NodesSpent stage) answer says tells =
    subst (IsRight (CheckMeans nodes bundle)) (sym tells) (record { stage = stage; verdict = says; line = refl })
stop_is_told nodes bundle OutOfMemory answer says tells = absurd tells
