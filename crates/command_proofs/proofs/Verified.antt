-- The answer for a verdict on a proof is right by `VerifyMeans`.
use Rattle.std.proofs.Common.{◌≡◌, List, [], refl, sym, subst}
use Rattle.define_pools.specs.Certificate.{Answer, Certifies}
use Rattle.define_pools.specs.Lottery.{LeximinGreatest}
use Rattle.define_pools.specs.Pool.{Pool, panels}
use Rattle.define_checks.specs.Reasons.{Refused, Valid, Verdict}
use Rattle.define_proofs.specs.ProofVerdict.{OfLottery, OfNoPanel, Proof, verdict}
use Rattle.define_proofs.specs.TreeLines.{TreeLine}
use Rattle.define_proofs.proofs.Refused.{refusal_means}
use Rattle.command_shell.specs.Answers.{IsRight, Saying}
use Rattle.command_meanings.specs.Verify.{VerifyMeans}
use Rattle.command_proofs.specs.Verified.{TellsVerdict}

pub verdict_is_told : (proof : Proof) (said : Verdict) (answer : Saying) → said ≡ verdict proof →
    (said ≡ Valid → (pool : Pool) (its : Answer) (trees : List (List TreeLine)) → proof ≡ OfLottery pool its trees →
    LeximinGreatest pool its.lottery × Certifies pool its.lottery its.stages) →
    (said ≡ Valid → (pool : Pool) (lines : List TreeLine) → proof ≡ OfNoPanel pool lines → panels pool ≡ []) →
    TellsVerdict proof said answer → IsRight (VerifyMeans proof) answer
verdict_is_told (OfLottery pool its trees) Valid answer says greatest none tells =
    let shown = greatest refl pool its trees refl in
    subst (IsRight (VerifyMeans (OfLottery pool its trees))) (sym tells)
    (record { valid = sym says; shows = record { certified = shown.1; greatest = shown.0 }; line = refl })
verdict_is_told (OfNoPanel pool lines) Valid answer says greatest none tells =
    subst (IsRight (VerifyMeans (OfNoPanel pool lines))) (sym tells) (record { valid = sym says; shows = none refl pool lines refl; line = refl })
verdict_is_told proof (Refused refusal) answer says greatest none tells =
    subst (IsRight (VerifyMeans proof)) (sym tells)
    (record { refusal = refusal; refuses = sym says; means = refusal_means proof refusal (sym says); line = refl })
