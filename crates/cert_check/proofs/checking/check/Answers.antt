use Rattle.std.proofs.Common.{◌≡◌, ◌↔◌, ℕ, [], Some, Result, Ok, Err, sym, ◌∙◌, subst}
use Rattle.std.specs.Prelude.{IsFalse, MatchResult}
use Rattle.std.specs.Result.{IfOk}
use Rattle.define_bundles.specs.Ranges.{IsInRanges}
use Rattle.cert_check.specs.Answers.{Answers}
use Rattle.cert_check.specs.declared.stops.CheckStop.{CheckStop}
use Rattle.define_checks.specs.Reasons.{Refusal, Refused, Valid, Verdict, verdict}
use Rattle.define_checks.specs.Visits.{check_answer, first_spent, is_ahead}
use Rattle.define_checks.proofs.Budget.{answer_cases}
use Rattle.define_checks.proofs.ReasonsStand.{certified_where_valid, valid_where_certified}
use Rattle.define_pools.specs.Certificate.{Answer, Certifies}
use Rattle.define_pools.specs.Lottery.{LeximinGreatest}
use Rattle.define_pools.specs.Pool.{Pool}
use Rattle.define_pools.proofs.Greatest.{greatest_from_Certifies}
use Rattle.cert_check.proofs.Stages.{same_answers}
use Rattle.cert_check.proofs.checking.check.Goals as goal

module _ (pool : Pool) (answer : Answer) (nodes : ℕ) (ranges : IsInRanges pool answer) where
  abbrev Holds : Type 0
  Holds = Certifies pool answer.lottery answer.stages

  -- if the check returns a verdict, it is the verdict of the definition
  verdict_is : (said : Verdict) → check_answer pool answer nodes ≡ Ok said → said ≡ verdict pool answer
  verdict_is said e =
      let P : Result Verdict ℕ → Type 0 = λ given. MatchResult given (λ said. said ≡ verdict pool answer) (λ stage. (first_spent pool nodes [] answer.stages ≡ Some stage) × IsFalse (is_ahead stage (verdict pool answer))) in
      subst P e (answer_cases pool answer nodes)

  valid_holds : (said : Verdict) → check_answer pool answer nodes ≡ Ok said → said ≡ Valid → Holds
  valid_holds said e v = certified_where_valid pool answer ranges (sym (verdict_is said e) ∙ v)

  pub valid_exactly : (result : Result Verdict CheckStop) → Answers (check_answer pool answer nodes) result → IfOk result (λ said. said ≡ Valid ↔ Holds)
  valid_exactly (Ok said) e = (valid_holds said e, λ holds. verdict_is said e ∙ valid_where_certified pool answer holds)
  valid_exactly (Err stop) e = tt

  pub valid_greatest : (result : Result Verdict CheckStop) → Answers (check_answer pool answer nodes) result → IfOk result (λ said. said ≡ Valid → LeximinGreatest pool answer.lottery)
  valid_greatest (Ok said) e = λ v. greatest_from_Certifies pool answer.lottery answer.stages (valid_holds said e v)
  valid_greatest (Err stop) e = tt

  pub refused_fails : (result : Result Verdict CheckStop) → Answers (check_answer pool answer nodes) result → IfOk result (λ said. (refusal : Refusal) → said ≡ Refused refusal → ¬ Holds)
  refused_fails (Ok said) e = λ refusal r holds. never_both said refusal r (verdict_is said e ∙ valid_where_certified pool answer holds)
    where
      never_both : (verdict : Verdict) (refusal : Refusal) → verdict ≡ Refused refusal → verdict ≡ Valid → ⊥
      never_both verdict refusal e f = cc
  refused_fails (Err stop) e = tt

pub returns-clause-valid : goal.returns-clause-valid
returns-clause-valid c = valid_exactly c.args.bundle.now.pool c.args.bundle.now.answer c.args.nodes c.answer.ensures.in_ranges c.answer_verdict.result
    (same_answers c.args.bundle.now.pool c.pool.result.now c.args.bundle.now.answer c.answer.result.now c.args.nodes c.answer_verdict.result c.pool.ensures c.answer.ensures.value c.answer_verdict.ensures)

pub returns-clause-greatest : goal.returns-clause-greatest
returns-clause-greatest c = valid_greatest c.args.bundle.now.pool c.args.bundle.now.answer c.args.nodes c.answer.ensures.in_ranges c.answer_verdict.result
    (same_answers c.args.bundle.now.pool c.pool.result.now c.args.bundle.now.answer c.answer.result.now c.args.nodes c.answer_verdict.result c.pool.ensures c.answer.ensures.value c.answer_verdict.ensures)

pub returns-clause-refused : goal.returns-clause-refused
returns-clause-refused c = refused_fails c.args.bundle.now.pool c.args.bundle.now.answer c.args.nodes c.answer.ensures.in_ranges c.answer_verdict.result
    (same_answers c.args.bundle.now.pool c.pool.result.now c.args.bundle.now.answer c.answer.result.now c.args.nodes c.answer_verdict.result c.pool.ensures c.answer.ensures.value c.answer_verdict.ensures)
