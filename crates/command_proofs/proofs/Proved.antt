-- The answers of `prove` are right by `ProveMeans`, about the pool or the bundle that was given.
use Rattle.std.proofs.Common.{◌≡◌, ◌∙◌, ℕ, true, false, List, [], Option, Some, None, Ok, refl, ap, sym, subst}
use Rattle.define_proofs.specs.ProofVerdict.{OfLottery, OfNoPanel, Proof, verdict}
use Rattle.define_proofs.specs.TreeLines.{TreeLine}
use Rattle.define_proofs.proofs.Verdicts.{certified_where_valid, no_panel_where_valid}
use Rattle.define_pools.proofs.Greatest.{greatest_from_Certifies}
use Rattle.command_meanings.specs.Check.{CheckMeans, IsGreatest, SpendsStage}
use Rattle.command_meanings.specs.Lottery.{FindsGreatest, FindsNone}
use Rattle.define_bundles.specs.BundleText.{Bundle}
use Rattle.define_checks.specs.Reasons.{Valid}
use Rattle.define_checks.specs.Visits.{check_answer}
use Rattle.command_shell.specs.Lines.{no_panel_line}
use Rattle.command_shell.specs.declared.status.Cause.TheVariants.{Input, Wide, Spent, Rule}
use Rattle.command_shell.specs.declared.status.Printed.TheVariants as printed
use Rattle.command_shell.specs.Answers.{IsRight, Saying, Prints, Stops, saying}
use Rattle.command_shell.specs.declared.answer.Answer.{Answer as CodeAnswer}
use Rattle.define_pools.specs.Certificate.{Answer, Certifies}
use Rattle.define_pools.specs.Lottery.{LeximinGreatest}
use Rattle.define_pools.specs.Pool.{Pool, panels}
use Rattle.command_shell.specs.declared.formats.PoolOrBundle.{PoolOrBundle}
use Rattle.command_shell.specs.declared.formats.PoolOrBundle.TheVariants as either
use Rattle.command_meanings.specs.Prove.{CheckRefuses, CheckSpends, IsChecked, IsGiven, ProveMeans, ProvesNone, RunFindsNone, RunSpends, StageBeyond, TreesSpent, beyond_line, check_visits, first_beyond, given_in, lottery_limits, pool_in, trees_spent_line}
use Rattle.command_pools.specs.Found.{StopMeans}
use Rattle.define_proofs.specs.ProofText.{IsProof, proof_spelling}
use Rattle.prove_limits.specs.Budgets.{Left}
use Rattle.prove_run.specs.Made.{IsOfBundle, IsOfNone}
use Rattle.command_proofs.specs.Proved.{CheckStops, IsOver, IsToldOf, IsValidOf, ShowsValid, is_done, proof_said}

-- what is over the input
pub over_pool : (pool : Pool) (bundle : Bundle) → bundle.pool ≡ pool → IsOver (either.Pool pool) bundle
over_pool pool bundle same = record { pool = same; is_given = tt }

pub over_bundle : (bundle : Bundle) → IsOver (either.Bundle bundle) bundle
over_bundle bundle = record { pool = refl; is_given = refl }

-- an answer of `check` that has status 0 says that the certificate holds, and any other is one of `CheckStops`
pub checked_valid : (bundle : Bundle) (answer : Saying) → IsRight (CheckMeans check_visits bundle) answer → is_done answer ≡ true → check_answer bundle.pool bundle.answer check_visits ≡ Ok Valid
checked_valid bundle (Prints printed.Done text) right is = right.verdict
checked_valid bundle (Prints printed.NoPanel text) right is = absurd right
checked_valid bundle (Prints printed.Refused text) right is = absurd (cc (is))
checked_valid bundle (Stops cause line) right is = absurd (cc (is))

pub checked_stops : (bundle : Bundle) (answer : Saying) → IsRight (CheckMeans check_visits bundle) answer → is_done answer ≡ false → IsRight (CheckStops bundle) answer
checked_stops bundle (Prints printed.Done text) right is = absurd (cc (is))
checked_stops bundle (Prints printed.NoPanel text) right is = absurd right
checked_stops bundle (Prints printed.Refused text) right is = right
checked_stops bundle (Stops Input line) right is = absurd right
checked_stops bundle (Stops Wide line) right is = absurd right
checked_stops bundle (Stops Spent line) right is = right
checked_stops bundle (Stops Rule line) right is = absurd right

-- the certificate of a bundle over the input holds, by the searches of `check`
is_checked : (about : PoolOrBundle) (bundle : Bundle) → IsOver about bundle → check_answer bundle.pool bundle.answer check_visits ≡ Ok Valid → IsChecked about bundle.answer
is_checked about bundle over valid =
    record { is_given = over.is_given; valid = subst (λ (pool : Pool). check_answer pool bundle.answer check_visits ≡ Ok Valid) over.pool valid }

module _ (count : Left) (answer : Saying) where
  -- the text of a valid proof of a lottery is a right answer if the proof has the input's pool and, where the input is a bundle, its answer
  lottery_proved : (about : PoolOrBundle) (own : Pool) (its : Answer) (trees : List (List TreeLine)) → own ≡ pool_in about → IsGiven (given_in about) its →
      verdict (OfLottery own its trees) ≡ Valid → LeximinGreatest own its.lottery × Certifies own its.lottery its.stages → answer ≡ proof_said (OfLottery own its trees) → IsRight (ProveMeans count about) answer
  lottery_proved about own its trees same is valid shown tells =
      subst (IsRight (ProveMeans count about)) (sym tells) (record {
        its = its;
        is_given = is;
        trees = trees;
        valid = subst (λ (pool : Pool). verdict (OfLottery pool its trees) ≡ Valid) same valid;
        greatest = subst (λ (pool : Pool). IsGreatest (record { pool = pool; answer = its })) same (record { certified = shown.1; greatest = shown.0 });
        proof = ap (λ (pool : Pool). proof_spelling (OfLottery pool its trees)) same;
      })

  none_proved : (about : PoolOrBundle) (own : Pool) (lines : List TreeLine) → own ≡ pool_in about → verdict (OfNoPanel own lines) ≡ Valid →
      answer ≡ proof_said (OfNoPanel own lines) → IsRight (ProveMeans count about) answer
  none_proved about own lines same valid tells =
      subst (IsRight (ProveMeans count about)) (sym tells) (ProvesNone (record {
        lines = lines;
        valid = subst (λ (pool : Pool). verdict (OfNoPanel pool lines) ≡ Valid) same valid;
        none = subst (λ (pool : Pool). panels pool ≡ []) same (no_panel_where_valid own lines valid);
        proof = ap (λ (pool : Pool). proof_spelling (OfNoPanel pool lines)) same;
      }))

  -- The text of a valid proof of a pool is right.
  pub pool_told : (pool : Pool) (proof : Proof) → IsProof proof → IsValidOf pool proof → answer ≡ proof_said proof → IsRight (ProveMeans count (either.Pool pool)) answer
  pool_told pool (OfLottery own its trees) is valid tells =
      let certified = (certified_where_valid own its trees is.is_bundle.in_ranges valid.valid).0 in
      lottery_proved (either.Pool pool) own its trees valid.of_pool tt valid.valid (greatest_from_Certifies own its.lottery its.stages certified, certified) tells
  pool_told pool (OfNoPanel own lines) is valid tells = none_proved (either.Pool pool) own lines valid.of_pool valid.valid tells

  -- The text of a valid proof that a pool has no quota panel is right.
  pub none_told : (pool : Pool) (proof : Proof) → IsOfNone pool proof → verdict proof ≡ Valid → answer ≡ proof_said proof → IsRight (ProveMeans count (either.Pool pool)) answer
  none_told pool (OfLottery own its trees) is valid tells = absurd is
  none_told pool (OfNoPanel own lines) is valid tells = none_proved (either.Pool pool) own lines is valid tells

  -- The text of a valid proof of a bundle is right about each input that the bundle is over.
  pub bundle_told : (about : PoolOrBundle) (bundle : Bundle) (proof : Proof) → IsOver about bundle → IsOfBundle bundle proof → IsProof proof → verdict proof ≡ Valid →
      answer ≡ proof_said proof → IsRight (ProveMeans count about) answer
  bundle_told about bundle (OfLottery own its trees) over is proof valid tells =
      let certified = (certified_where_valid own its trees proof.is_bundle.in_ranges valid).0 in
      let given = subst (λ (one : Answer). IsGiven (given_in about) one) (sym is.1) over.is_given in
      lottery_proved about own its trees (is.0 ∙ over.pool) given valid (greatest_from_Certifies own its.lottery its.stages certified, certified) tells
  bundle_told about bundle (OfNoPanel own lines) over is proof valid tells = absurd is

  -- the line of the first stage whose numbers no proof can have
  pub beyond_told : (about : PoolOrBundle) (bundle : Bundle) (stage : ℕ) → IsOver about bundle → check_answer bundle.pool bundle.answer check_visits ≡ Ok Valid →
      first_beyond bundle.answer.stages ≡ Some stage → answer ≡ Prints printed.Refused (beyond_line stage) → IsRight (ProveMeans count about) answer
  beyond_told about bundle stage over valid is tells =
      subst (IsRight (ProveMeans count about)) (sym tells) (StageBeyond bundle.answer (is_checked about bundle over valid) stage is refl)

  -- the line that no trees are found, once no node is left for them
  pub spent_told : (about : PoolOrBundle) (bundle : Bundle) → IsOver about bundle → check_answer bundle.pool bundle.answer check_visits ≡ Ok Valid →
      first_beyond bundle.answer.stages ≡ None → count.nodes ≡ 0 → answer ≡ Stops Spent (trees_spent_line count.most_nodes) → IsRight (ProveMeans count about) answer
  spent_told about bundle over valid within none tells =
      subst (IsRight (ProveMeans count about)) (sym tells) (TreesSpent bundle.answer (is_checked about bundle over valid) within none refl)

  -- the line of `lottery` for a pool without a quota panel
  pub line_of_none : (pool : Pool) → FindsNone lottery_limits pool → answer ≡ Prints printed.NoPanel no_panel_line → IsRight (ProveMeans count (either.Pool pool)) answer
  line_of_none pool finds tells = subst (IsRight (ProveMeans count (either.Pool pool))) (sym tells) (RunFindsNone (record { finds = finds; line = refl }))

-- the text of a proof of a bundle, if it is valid, is right about each input that the bundle is over
pub found_told : (bundle : Bundle) (proof : Proof) → IsOfBundle bundle proof → (found : Option CodeAnswer) → ShowsValid proof found → IsToldOf bundle found
found_told bundle proof is None shows = tt
found_told bundle proof is (Some answer) (says, valid, keeps) = λ count about over. bundle_told count (saying answer) about bundle proof over is keeps valid says

-- an answer of `check` is right about the given bundle
pub check_of_given : (count : Left) (bundle : Bundle) (answer : Saying) → IsRight (CheckStops bundle) answer → IsRight (ProveMeans count (either.Bundle bundle)) answer
check_of_given count bundle (Prints printed.Done text) right = absurd right
check_of_given count bundle (Prints printed.NoPanel text) right = absurd right
check_of_given count bundle (Prints printed.Refused text) right = CheckRefuses right
check_of_given count bundle (Stops Input line) right = absurd right
check_of_given count bundle (Stops Wide line) right = absurd right
check_of_given count bundle (Stops Spent line) right = CheckSpends bundle.answer refl right
check_of_given count bundle (Stops Rule line) right = absurd right

-- An answer of `check` is right about a given pool too, if the run of `lottery` finds the bundle's answer for it. The certificate holds then, so
-- `check` doesn't refuse it.
pub check_of_found : (count : Left) (pool : Pool) (bundle : Bundle) (answer : Saying) → bundle.pool ≡ pool → FindsGreatest lottery_limits pool bundle.answer → IsRight (CheckStops bundle) answer →
    IsRight (ProveMeans count (either.Pool pool)) answer
check_of_found count pool bundle (Prints printed.Done text) same finds right = absurd right
check_of_found count pool bundle (Prints printed.NoPanel text) same finds right = absurd right
check_of_found count pool bundle (Prints printed.Refused text) same finds right =
    absurd (right.fails (subst (λ (one : Pool). Certifies one bundle.answer.lottery bundle.answer.stages) (sym same) finds.certified))
check_of_found count pool bundle (Stops Input line) same finds right = absurd right
check_of_found count pool bundle (Stops Wide line) same finds right = absurd right
check_of_found count pool bundle (Stops Spent line) same finds right =
    CheckSpends bundle.answer finds.ends (subst (λ (one : Pool). SpendsStage check_visits (record { pool = one; answer = bundle.answer }) line) same right)
check_of_found count pool bundle (Stops Rule line) same finds right = absurd right

-- the answer of `lottery` for a run that stops early is right
pub stop_of_run : (count : Left) (pool : Pool) (answer : Saying) → IsRight (StopMeans lottery_limits pool) answer → IsRight (ProveMeans count (either.Pool pool)) answer
stop_of_run count pool (Prints printed.Done text) right = absurd right
stop_of_run count pool (Prints printed.NoPanel text) right = absurd right
stop_of_run count pool (Prints printed.Refused text) right = absurd right
stop_of_run count pool (Stops Input line) right = absurd right
stop_of_run count pool (Stops Wide line) right = right
stop_of_run count pool (Stops Spent line) right = RunSpends right
stop_of_run count pool (Stops Rule line) right = absurd right
