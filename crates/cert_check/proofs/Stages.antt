-- How a check goes from one stage to the next.
use Rattle.std.proofs.Common.{◌≡◌, ℕ, suc, ◌+◌, ◌<◌, Bool, true, false, cond, ◌&&◌, ltb, List, [], ◌∷◌, length, get_or, drop, Result, Ok, Err, refl, sym, ap, ap₂, ◌∙◌, arith, subst}
use Rattle.std.specs.Prelude.{reverse}
use Rattle.std.specs.List.{list_all}
use Rattle.std.proofs.lemmas.Bool.{false≢true}
use Rattle.std.proofs.lemmas.List.{reverse-append}
use Rattle.std.proofs.lemmas.List.Folds.{list_all-append}
use Rattle.std.proofs.Math.Seq.{drop-cons}
use Rattle.define_pools.proofs.Each.{passes_at}
use Rattle.define_pools.specs.Certificate.{Answer, Stage}
use Rattle.define_pools.specs.Lottery.{Lottery}
use Rattle.define_pools.specs.Pool.{Pool}
use Rattle.check_reasons.specs.Courses.{Course, passed}
use Rattle.check_reasons.specs.Sayings.{holds}
use Rattle.define_checks.specs.Reasons.{Refused, Valid, Verdict, cap_reasons, first_reason, reasons_before_cap}
use Rattle.define_checks.specs.Steps.{answer_from, or_next}
use Rattle.define_checks.specs.Visits.{check_answer, stage_search}
use Rattle.define_checks.proofs.GoesOn.{goes_on_by_stages}
use Rattle.cert_check.specs.Answers.{Answers, stage_answer}
use Rattle.cert_check.specs.declared.stops.CheckStop.{CheckStop}
use Rattle.cert_check.specs.declared.stops.CheckStop.TheVariants.{NodesSpent, OutOfMemory}

-- ---- a test of all elements of a list, in either order

pub list_all-reverse : {X : Type 0} (p : X → Bool) (xs : List X) → list_all p (reverse xs) ≡ list_all p xs
list_all-reverse {X} p [] = refl
list_all-reverse {X} p (x ∷ xs) =
    ap (list_all p) (reverse-append (x ∷ []) xs) ∙ list_all-append p (reverse xs) (x ∷ []) ∙ ap (λ b. b && (p x && true)) (list_all-reverse p xs) ∙ turned (p x) (list_all p xs)
  where
    turned : (a b : Bool) → (b && (a && true)) ≡ (a && b)
    turned true true = refl
    turned true false = refl
    turned false true = refl
    turned false false = refl

-- ---- the answer about one stage, and about the later ones

-- if `verdict` is a refusal, it is the answer, whatever comes next
pub stops_at : (wanted next : Result Verdict ℕ) (verdict : Verdict) → holds verdict ≡ false → or_next verdict next ≡ Ok verdict
stops_at wanted next Valid e = absurd (false≢true (sym e))
stops_at wanted next (Refused refusal) e = refl

pub is_valid : (verdict : Verdict) → holds verdict ≡ true → verdict ≡ Valid
is_valid Valid e = refl
is_valid (Refused refusal) e = absurd (false≢true e)

-- the first answer, or the second if the first is the verdict valid
abbrev then : Result Verdict ℕ → Result Verdict ℕ → Result Verdict ℕ
then (Ok verdict) next = or_next verdict next
then (Err stage) next = Err stage

-- the answer for stages is the answer for the first one, or, if that is valid, the answer for the later ones
pub by_first : (pool : Pool) (lottery : Lottery) (nodes : ℕ) (earlier later : List Stage) (stage : Stage) →
    answer_from pool lottery nodes earlier (stage ∷ later) ≡ then (stage_answer pool lottery nodes earlier stage) (answer_from pool lottery nodes (stage ∷ earlier) later)
by_first pool lottery nodes earlier later stage =
    goes_on_by_stages pool lottery nodes earlier later stage
    ∙ parts (first_reason (reasons_before_cap pool lottery earlier stage)) (ltb nodes (stage_search pool earlier stage).visits)
  where
    parts : (before : Verdict) (spent : Bool) →
        or_next before (cond spent (Err (length earlier + 1)) (or_next (first_reason (cap_reasons pool lottery earlier stage)) (answer_from pool lottery nodes (stage ∷ earlier) later)))
        ≡ then (or_next before (cond spent (Err (length earlier + 1)) (Ok (first_reason (cap_reasons pool lottery earlier stage))))) (answer_from pool lottery nodes (stage ∷ earlier) later)
    parts Valid true = refl
    parts Valid false = refl
    parts (Refused refusal) spent = refl

-- if the first stage is refused, its verdict is the answer for all stages
pub refused_at : (pool : Pool) (lottery : Lottery) (nodes : ℕ) (earlier later : List Stage) (stage : Stage) (verdict : Verdict) → stage_answer pool lottery nodes earlier stage ≡ Ok verdict → holds verdict ≡ false →
    answer_from pool lottery nodes earlier (stage ∷ later) ≡ Ok verdict
refused_at pool lottery nodes earlier later stage verdict e h =
    by_first pool lottery nodes earlier later stage ∙ ap (λ said. then said (answer_from pool lottery nodes (stage ∷ earlier) later)) e ∙ stops_at (Ok verdict) (answer_from pool lottery nodes (stage ∷ earlier) later) verdict h

-- if `Answers` allows the stop `stop` for the first stage, it allows this stop for all stages
pub stopped_at : (pool : Pool) (lottery : Lottery) (nodes : ℕ) (earlier later : List Stage) (stage : Stage) (stop : CheckStop) → Answers (stage_answer pool lottery nodes earlier stage) (Err stop) →
    Answers (answer_from pool lottery nodes earlier (stage ∷ later)) (Err stop)
stopped_at pool lottery nodes earlier later stage (NodesSpent number) e =
    by_first pool lottery nodes earlier later stage ∙ ap (λ said. then said (answer_from pool lottery nodes (stage ∷ earlier) later)) e
stopped_at pool lottery nodes earlier later stage OutOfMemory e = tt

pub goes_on_after : (pool : Pool) (lottery : Lottery) (nodes : ℕ) (earlier later : List Stage) (stage : Stage) (verdict : Verdict) → stage_answer pool lottery nodes earlier stage ≡ Ok verdict → holds verdict ≡ true →
    answer_from pool lottery nodes earlier (stage ∷ later) ≡ answer_from pool lottery nodes (stage ∷ earlier) later
goes_on_after pool lottery nodes earlier later stage verdict e h =
    by_first pool lottery nodes earlier later stage
    ∙ ap (λ said. then said (answer_from pool lottery nodes (stage ∷ earlier) later)) (e ∙ ap Ok (is_valid verdict h))

-- ---- the loop over the stages

pub same_answers : (pool given : Pool) (answer other : Answer) (nodes : ℕ) (result : Result Verdict CheckStop) → given ≡ pool → other ≡ answer → Answers (check_answer given other nodes) result → Answers (check_answer pool answer nodes) result
same_answers pool given answer other nodes result e f h =
    let P : Result Verdict ℕ → Type 0 = λ wanted. Answers wanted result in
    subst P (ap₂ (λ pool answer. check_answer pool answer nodes) e f) h

module _ (pool : Pool) (lottery : Lottery) (nodes : ℕ) (stages : List Stage) (j : ℕ) (course : Course) (stage : Stage) (below : j < length stages) (is : stage ≡ get_or stages j stage) (later : course.later ≡ drop j stages) where
  abbrev all : Result Verdict ℕ
  all = answer_from pool lottery nodes [] stages

  later_is : course.later ≡ stage ∷ drop (j + 1) stages
  later_is =
      let next : suc j ≡ j + 1 = omega arith in
      later ∙ drop-cons stages j stage below ∙ ap (λ s. s ∷ drop (suc j) stages) (sym is) ∙ ap (λ k. stage ∷ drop k stages) next

  module _ (same : all ≡ answer_from course.pool course.lottery nodes course.earlier course.later) where
    from_here : all ≡ answer_from course.pool course.lottery nodes course.earlier (stage ∷ drop (j + 1) stages)
    from_here = same ∙ ap (answer_from course.pool course.lottery nodes course.earlier) later_is

    pub refusing : (verdict : Verdict) → stage_answer course.pool course.lottery nodes course.earlier stage ≡ Ok verdict → holds verdict ≡ false → all ≡ Ok verdict
    refusing verdict e h = from_here ∙ refused_at course.pool course.lottery nodes course.earlier (drop (j + 1) stages) stage verdict e h

    pub stopping : (stop : CheckStop) → Answers (stage_answer course.pool course.lottery nodes course.earlier stage) (Err stop) → Answers all (Err stop)
    stopping stop e =
        let P : Result Verdict ℕ → Type 0 = λ wanted. Answers wanted (Err stop) in
        subst P (sym from_here) (stopped_at course.pool course.lottery nodes course.earlier (drop (j + 1) stages) stage stop e)

    module _ (verdict : Verdict) (said : stage_answer course.pool course.lottery nodes course.earlier stage ≡ Ok verdict) (valid : holds verdict ≡ true) (new : Course) (passes : new ≡ passed course course.later) where
      new_is : new ≡ record course { earlier = stage ∷ course.earlier; later = drop (j + 1) stages }
      new_is = passes ∙ ap (passed course) later_is

      pub same_pool : new.pool ≡ course.pool
      same_pool = ap (λ (c : Course). c.pool) new_is

      pub same_lottery : new.lottery ≡ course.lottery
      same_lottery = ap (λ (c : Course). c.lottery) new_is

      pub new_later : new.later ≡ drop (j + 1) stages
      new_later = ap (λ (c : Course). c.later) new_is

      pub new_earlier : (p : Stage → Bool) → list_all p stages ≡ true → list_all p course.earlier ≡ true → list_all p new.earlier ≡ true
      new_earlier p each h =
          ap (λ (c : Course). list_all p c.earlier) new_is ∙ ap₂ (λ a b. a && b) (ap p is ∙ passes_at p stages j stage each below) h

      pub new_answer : all ≡ answer_from new.pool new.lottery nodes new.earlier new.later
      new_answer =
          from_here ∙ goes_on_after course.pool course.lottery nodes course.earlier (drop (j + 1) stages) stage verdict said valid
          ∙ sym (ap (λ (c : Course). answer_from c.pool c.lottery nodes c.earlier c.later) new_is)
