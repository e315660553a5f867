-- What a check answers under a budget of visits at each stage.
use Rattle.std.proofs.Common.{◌≡◌, ℕ, true, false, cond, Option, Some, None, Result, Ok, Err, [], refl, ap, ◌∙◌}
use Rattle.std.specs.Prelude.{MatchResult}
use Rattle.define_pools.specs.Certificate.{Answer, Certifies}
use Rattle.define_pools.specs.Pool.{Pool}
use Rattle.define_checks.specs.Reasons.{Valid, Verdict, verdict}
use Rattle.define_checks.specs.Visits.{check_answer, first_spent, is_ahead, unless_spent}
use Rattle.define_checks.proofs.ReasonsStand.{valid_where_certified}

-- the answer is the verdict, or the visits are spent before the verdict's reason is tried
unless_cases : (spent : Option ℕ) (verdict : Verdict) → MatchResult (unless_spent spent verdict) (λ said. said ≡ verdict) (λ stage. (spent ≡ Some stage) × (is_ahead stage verdict ≡ false))
unless_cases None verdict = refl
unless_cases (Some stage) verdict =
    (elim (is_ahead stage verdict) as (λ b. is_ahead stage verdict ≡ b → MatchResult (cond b (Ok verdict) (Err stage)) (λ said. said ≡ verdict) (λ s. (Some stage ≡ Some s) × (is_ahead s verdict ≡ false))) [
      | true ↦ λ e. refl
      | false ↦ λ e. (refl, e)
    ]) refl

pub answer_cases : (pool : Pool) (answer : Answer) (nodes : ℕ) → MatchResult (check_answer pool answer nodes) (λ said. said ≡ verdict pool answer)
    (λ stage. (first_spent pool nodes [] answer.stages ≡ Some stage) × (is_ahead stage (verdict pool answer) ≡ false))
answer_cases pool answer nodes = unless_cases (first_spent pool nodes [] answer.stages) (verdict pool answer)

pub answer_with_enough : (pool : Pool) (answer : Answer) (nodes : ℕ) → first_spent pool nodes [] answer.stages ≡ None → check_answer pool answer nodes ≡ Ok (verdict pool answer)
answer_with_enough pool answer nodes e = ap (λ spent. unless_spent spent (verdict pool answer)) e

pub never_refused : (pool : Pool) (answer : Answer) (nodes : ℕ) → Certifies pool answer.lottery answer.stages →
    MatchResult (check_answer pool answer nodes) (λ said. said ≡ Valid) (λ stage. first_spent pool nodes [] answer.stages ≡ Some stage)
never_refused pool answer nodes certifies = by (check_answer pool answer nodes) (answer_cases pool answer nodes)
  where
    by : (said : Result Verdict ℕ) → MatchResult said (λ said. said ≡ verdict pool answer) (λ stage. (first_spent pool nodes [] answer.stages ≡ Some stage) × (is_ahead stage (verdict pool answer) ≡ false)) →
        MatchResult said (λ said. said ≡ Valid) (λ stage. first_spent pool nodes [] answer.stages ≡ Some stage)
    by (Ok said) e = e ∙ valid_where_certified pool answer certifies
    by (Err stage) h = h.0
