-- A run whose workers share a bound, beside the run whose workers share nothing.
use Rattle.std.proofs.Common.{◌≡◌, ℕ, zero, suc, ◌+◌, ◌≤◌, Bool, true, false, cond, ltb, length, Option, Some, None, Result, Ok, Err, refl, sym, ap, ◌∙◌, subst, arith}
use Rattle.std.proofs.lemmas.Bool.{lt-ltb}
use Rattle.define_pools.specs.Lottery.{Lottery}
use Rattle.define_rows.specs.declared.Var.{Var}
use Rattle.define_rows.specs.Choice.{choice}
use Rattle.define_rows.specs.InOrder.{settled_count}
use Rattle.define_rows.specs.Steps.{enter_stage, open_row}
use Rattle.define_rows.specs.Table.{Table, row_at}
use Rattle.define_searches.specs.Classes.{Classes}
use Rattle.define_searches.specs.Compositions.{price}
use Rattle.define_runs.specs.Spreading.{TotalPass, spread}
use Rattle.define_runs.specs.Keeps.{IsReached}
use Rattle.define_runs.specs.Run.{Ended, Ending, GoOn, Next, NodesSpent, NoPanel, Found, TooWide, TotalPasses, PivotsSpent, RunLimits, answered, closed_rows, follow, opening, parts_of, priced, step, step_in_stage}
use Rattle.define_runs.proofs.Following.{comes_to_end, same_ending, stays_ended}
use Rattle.define_runs.proofs.MoreBudget.{still_enough}
use Rattle.define_runs.proofs.StepCases.{StepIs, Enters, Answers, NoPivot, Pivots, Passes, NoVisits, Widens, Closes, step_is, OpeningIs, Spends, FindsNoPanel, IsWide, Begins, opening_is}
use Rattle.define_runs.specs.Laws.{ApartIsAllowed, EndingsStay, OneEndingBesidesSpent, SharingKeepsEnding}
use Rattle.define_runs.specs.Sharing.{EndsUnbounded, MayEnd, SpendsVisits, spends_pricing, with_pricing}
use Rattle.define_runs.proofs.Unbounded.{one_unbounded, visits_at}

-- ---- an ending without a spent pricing

pub unbounded_of : (all : Classes) (limits : RunLimits) (ending : Ending) → spends_pricing ending ≡ false → MayEnd all limits ending → EndsUnbounded all limits ending
unbounded_of all limits NoPanel kept may = may
unbounded_of all limits (Found last answer) kept may = may
unbounded_of all limits (TooWide stood pass) kept may = may
unbounded_of all limits (TotalPasses stood pass) kept may = may
unbounded_of all limits (PivotsSpent stood) kept may = may
unbounded_of all limits (NodesSpent None) kept may = may
unbounded_of all limits (NodesSpent (Some table)) kept may = absurd cc

pub one_besides_spent : OneEndingBesidesSpent
one_besides_spent all limits first second a b kept kept_too = one_unbounded all limits first second (unbounded_of all limits first kept a) (unbounded_of all limits second kept_too b)

abbrev spends_next : Next → Bool
spends_next (GoOn table) = false
spends_next (Ended ending) = spends_pricing ending

module _ (all : Classes) (limits : RunLimits) where
  -- ---- greater budgets of pricing

  module _ (p : ℕ) (more : limits.pricing ≤ p) where
    in_stage_same : (table : Table) (chosen : Option (ℕ × Var)) → spends_next (step_in_stage all limits table chosen) ≡ false → step_in_stage all (with_pricing limits p) table chosen ≡ step_in_stage all limits table chosen
    in_stage_same table (Some (r, v)) kept = refl
    in_stage_same table None kept = by (ltb limits.pricing (visits_at all table)) refl kept
      where
        next : Next
        next = priced table (price all (closed_rows table) (row_at table (open_row table)))

        by : (b : Bool) → ltb limits.pricing (visits_at all table) ≡ b → spends_next (cond b (Ended (NodesSpent (Some table))) next) ≡ false →
            cond (ltb p (visits_at all table)) (Ended (NodesSpent (Some table))) next ≡ cond b (Ended (NodesSpent (Some table))) next
        by true t kept = absurd cc
        by false t kept = ap (λ b. cond b (Ended (NodesSpent (Some table))) next) (still_enough limits.pricing p (visits_at all table) more t)

    step_same : (table : Table) → spends_next (step all limits table) ≡ false → step all (with_pricing limits p) table ≡ step all limits table
    unfolding step
    step_same table kept = by table.in_stage kept
      where
        between : Next
        between = cond (ltb (settled_count table) (length table.sizes)) (GoOn (enter_stage table)) (Ended (answered all table (spread all (parts_of table))))

        by : (b : Bool) → spends_next (cond b (step_in_stage all limits table (choice table)) between) ≡ false →
            cond b (step_in_stage all (with_pricing limits p) table (choice table)) between ≡ cond b (step_in_stage all limits table (choice table)) between
        by true kept = in_stage_same table (choice table) kept
        by false kept = refl

    opening_same : opening all (with_pricing limits p) ≡ opening all limits
    unfolding opening
    opening_same = refl

    not_spent : (next : Next) (n : ℕ) (ending : Ending) → follow all limits next n ≡ Ended ending → spends_pricing ending ≡ false → spends_next next ≡ false
    not_spent (GoOn table) n ending e kept = refl
    not_spent (Ended other) n ending e kept = let stays = stays_ended all limits other n in let same : other ≡ ending = cc in ap spends_pricing same ∙ kept

    -- the run ends without a spent pricing: after each number of steps it is where it is with the greater budget
    follow_same : (next : Next) (n : ℕ) (ending : Ending) → follow all limits next n ≡ Ended ending → spends_pricing ending ≡ false → (m : ℕ) → follow all (with_pricing limits p) next m ≡ follow all limits next m
    follow_same (Ended other) n ending e kept m = stays_ended all (with_pricing limits p) other m ∙ sym (stays_ended all limits other m)
    follow_same (GoOn table) n ending e kept zero = refl
    follow_same (GoOn table) zero ending e kept (suc m) = absurd cc
    follow_same (GoOn table) (suc n) ending e kept (suc m) =
        ap (λ next. follow all (with_pricing limits p) next m) (step_same table (not_spent (step all limits table) n ending e kept)) ∙ follow_same (step all limits table) n ending e kept m

    not_ended : (next : Next) (n : ℕ) (table : Table) → follow all limits next n ≡ GoOn table → spends_next next ≡ false
    not_ended (GoOn first) n table e = refl
    not_ended (Ended other) n table e = let stays = stays_ended all limits other n in absurd cc

    -- the run reaches a table: it reaches it with the greater budget
    follow_there : (next : Next) (n : ℕ) (table : Table) → follow all limits next n ≡ GoOn table → follow all (with_pricing limits p) next n ≡ GoOn table
    follow_there next zero table e = e
    follow_there (Ended other) (suc n) table e = absurd cc
    follow_there (GoOn first) (suc n) table e =
        ap (λ next. follow all (with_pricing limits p) next n) (step_same first (not_ended (step all limits first) n table e)) ∙ follow_there (step all limits first) n table e

    same_there : (n m : ℕ) (ending : Ending) → follow all limits (opening all limits) n ≡ Ended ending → spends_pricing ending ≡ false →
        follow all (with_pricing limits p) (opening all (with_pricing limits p)) m ≡ follow all limits (opening all limits) m
    same_there n m ending e kept = ap (λ next. follow all (with_pricing limits p) next m) opening_same ∙ follow_same (opening all limits) n ending e kept m

  -- at a table where pricing spends its budget, the run ends so
  pub spends_there : (table : Table) → SpendsVisits all limits table → step all limits table ≡ Ended (NodesSpent (Some table))
  unfolding step
  spends_there table spends =
      ap (λ s. cond s (step_in_stage all limits table (choice table)) (cond (ltb (settled_count table) (length table.sizes)) (GoOn (enter_stage table)) (Ended (answered all table (spread all (parts_of table)))))) spends.open_now
      ∙ ap (step_in_stage all limits table) spends.due
      ∙ ap (λ s. cond s (Ended (NodesSpent (Some table))) (priced table (price all (closed_rows table) (row_at table (open_row table))))) (lt-ltb limits.pricing (visits_at all table) spends.more)

  -- ---- where a run ends that spent a pricing

  record SpentAt (next : Next) (table : Table) : Type 0 where
    steps : ℕ
    there : follow all limits next steps ≡ GoOn table
    spends : SpendsVisits all limits table

  answers_otherwise : (table stood : Table) (o : Result Lottery TotalPass) → Ended (answered all table o) ≡ Ended (NodesSpent (Some stood)) → ⊥
  answers_otherwise table stood (Ok lottery) e = absurd cc
  answers_otherwise table stood (Err pass) e = absurd cc

  at_step : (first table : Table) → step all limits first ≡ Ended (NodesSpent (Some table)) → SpentAt (GoOn first) table
  at_step first table e = by (step all limits first) e (step_is all limits first)
    where
      by : (next : Next) → next ≡ Ended (NodesSpent (Some table)) → StepIs all limits first next → SpentAt (GoOn first) table
      by next f (Enters shut some is) = absurd cc
      by next f (Answers shut settled is) = absurd (answers_otherwise first table (spread all (parts_of first)) (sym is ∙ f))
      by next f (NoPivot open_now most is) = absurd cc
      by next f (Pivots open_now r v made chosen few p is) = absurd cc
      by next f (Passes open_now r v pass chosen few p is) = absurd cc
      by next f (NoVisits open_now done more is) =
          let same : first ≡ table = cc in
          subst (SpentAt (GoOn first)) same (record { steps = 0; there = refl; spends = record { open_now = open_now; due = done; more = more } })
      by next f (Widens open_now done counts p is) = absurd cc
      by next f (Closes open_now done p is) = absurd cc

  at_later : (first table : Table) → SpentAt (step all limits first) table → SpentAt (GoOn first) table
  at_later first table at = record { steps = suc at.steps; there = at.there; spends = at.spends }

  spent_at : (first : Table) (n : ℕ) (table : Table) → follow all limits (GoOn first) n ≡ Ended (NodesSpent (Some table)) → SpentAt (GoOn first) table
  spent_at first zero table e = absurd cc
  spent_at first (suc n) table e = by (λ made f. spent_at made n table f) (step all limits first) refl e
    where
      by : ((made : Table) → follow all limits (GoOn made) n ≡ Ended (NodesSpent (Some table)) → SpentAt (GoOn made) table) →
          (next : Next) → step all limits first ≡ next → follow all limits next n ≡ Ended (NodesSpent (Some table)) → SpentAt (GoOn first) table
      by rest (Ended ending) f e = let stays = stays_ended all limits ending n in let same : Ended ending ≡ Ended (NodesSpent (Some table)) = sym stays ∙ e in at_step first table (f ∙ same)
      by rest (GoOn made) f e = at_later first table (subst (λ next. SpentAt next table) (sym f) (rest made e))

  opens_otherwise : (table : Table) → opening all limits ≡ Ended (NodesSpent (Some table)) → ⊥
  opens_otherwise table e = by (opening all limits) e (opening_is all limits)
    where
      by : (next : Next) → next ≡ Ended (NodesSpent (Some table)) → OpeningIs all limits next → ⊥
      by next f (Spends more is) = absurd cc
      by next f (FindsNoPanel within none is) = absurd cc
      by next f (IsWide first pass found p is) = absurd cc
      by next f (Begins first made found p is) = absurd cc

  spent_in : (n : ℕ) (table : Table) → follow all limits (opening all limits) n ≡ Ended (NodesSpent (Some table)) → SpentAt (opening all limits) table
  spent_in n table e = by (opening all limits) refl e
    where
      by : (next : Next) → opening all limits ≡ next → follow all limits next n ≡ Ended (NodesSpent (Some table)) → SpentAt (opening all limits) table
      by (Ended ending) f e =
          let stays = stays_ended all limits ending n in let same : Ended ending ≡ Ended (NodesSpent (Some table)) = sym stays ∙ e in absurd (opens_otherwise table (f ∙ same))
      by (GoOn first) f e = subst (λ next. SpentAt next table) (sym f) (spent_at first n table e)

pub endings_stay : EndingsStay
endings_stay all limits ending ends kept = record {
  least = limits.pricing;
  holds = λ p l. record { steps = ends.steps; there = same_there all limits p l ends.steps ends.steps ending ends.there kept ∙ ends.there };
}

pub sharing_keeps : SharingKeepsEnding
sharing_keeps all limits apart shared ends kept may = by shared may
  where
    unbounded : EndsUnbounded all limits apart
    unbounded = endings_stay all limits apart ends kept

    by : (shared : Ending) → MayEnd all limits shared → shared ≡ apart
    by NoPanel may = one_unbounded all limits NoPanel apart may unbounded
    by (Found last answer) may = one_unbounded all limits (Found last answer) apart may unbounded
    by (TooWide stood pass) may = one_unbounded all limits (TooWide stood pass) apart may unbounded
    by (TotalPasses stood pass) may = one_unbounded all limits (TotalPasses stood pass) apart may unbounded
    by (PivotsSpent stood) may = one_unbounded all limits (PivotsSpent stood) apart may unbounded
    by (NodesSpent None) may = one_unbounded all limits (NodesSpent None) apart may unbounded
    by (NodesSpent (Some table)) (reaches, spends) =
        let p = limits.pricing + reaches.least in
        let there = reaches.holds p (omega arith) in
        let reached : IsReached all limits table = record { steps = there.steps; there = sym (same_there all limits p (omega arith) ends.steps there.steps apart ends.there kept) ∙ there.there } in
        let spent = comes_to_end all limits table (NodesSpent (Some table)) reached (spends_there all limits table spends) in
        same_ending all limits (opening all limits) spent.steps ends.steps (NodesSpent (Some table)) apart spent.there ends.there

pub apart_allowed : ApartIsAllowed
apart_allowed all limits NoPanel ends = endings_stay all limits NoPanel ends refl
apart_allowed all limits (Found last answer) ends = endings_stay all limits (Found last answer) ends refl
apart_allowed all limits (TooWide stood pass) ends = endings_stay all limits (TooWide stood pass) ends refl
apart_allowed all limits (TotalPasses stood pass) ends = endings_stay all limits (TotalPasses stood pass) ends refl
apart_allowed all limits (PivotsSpent stood) ends = endings_stay all limits (PivotsSpent stood) ends refl
apart_allowed all limits (NodesSpent None) ends = endings_stay all limits (NodesSpent None) ends refl
apart_allowed all limits (NodesSpent (Some table)) ends =
    let at = spent_in all limits ends.steps table ends.there in (
      record {
        least = limits.pricing;
        holds = λ p l. record { steps = at.steps; there = ap (λ next. follow all (with_pricing limits p) next at.steps) (opening_same all limits p l) ∙ follow_there all limits p l (opening all limits) at.steps table at.there };
      },
      at.spends,
    )
