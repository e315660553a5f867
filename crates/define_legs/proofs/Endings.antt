-- The legs of a run until its ending: there is one list of them, and they bound the budget of pivots that was spent.
use Rattle.std.proofs.Common.{◌≡◌, ℕ, zero, suc, ◌+◌, ◌-◌, ◌<◌, ◌≤◌, List, length, refl, sym, ap, ◌∙◌, subst, arith, inl, inr, ◌⊎◌}
use Rattle.std.proofs.lemmas.Bool.{cases_lt}
use Rattle.define_legs.specs.declared.Leg.{Leg}
use Rattle.define_legs.specs.Legs.{EndsWithLegs, Traced, onward, pivot_limit, traced, with_pivot}
use Rattle.define_runs.specs.Run.{Ended, Ending, RunLimits}
use Rattle.define_searches.specs.Classes.{Classes}
use Rattle.define_legs.specs.Laws.{EachEndingHasLegs, LegsEndTheRun, OneListOfLegs, SpendsBelowLimit}
use Rattle.define_legs.proofs.Traces.{pivots_spent, traces}

module _ (all : Classes) (limits : RunLimits) where
  -- a run that has ended keeps its ending and its legs
  kept : (end : Traced) (ending : Ending) (steps more : ℕ) → end.next ≡ Ended ending → traced all limits steps ≡ end → traced all limits (more + steps) ≡ end
  kept end ending steps zero ended e = let same : steps ≡ 0 + steps = omega arith in subst (λ n. traced all limits n ≡ end) same e
  kept end ending steps (suc more) ended e =
      let same : suc (more + steps) ≡ suc more + steps = omega arith in
      let on : traced all limits (suc (more + steps)) ≡ onward all limits end.next end.legs = ap (λ (t : Traced). onward all limits t.next t.legs) (kept end ending steps more ended e) in
      let stays : onward all limits end.next end.legs ≡ record { next = Ended ending; legs = end.legs } = ap (λ next. onward all limits next end.legs) ended in
      let whole : record { next = Ended ending; legs = end.legs } ≡ end = ap (λ next. record { next = next; legs = end.legs }) (sym ended) in
      subst (λ n. traced all limits n ≡ end) same (on ∙ stays ∙ whole)

  earlier : (first second : Ending) (legs others : List Leg) (a : EndsWithLegs all limits first legs) (b : EndsWithLegs all limits second others) → a.steps ≤ b.steps → (first ≡ second) × (legs ≡ others)
  earlier first second legs others a b l =
      let late : (b.steps - a.steps) + a.steps ≡ b.steps = omega arith in
      let there : traced all limits b.steps ≡ record { next = Ended first; legs = legs } =
      subst (λ n. traced all limits n ≡ record { next = Ended first; legs = legs }) late (kept (record { next = Ended first; legs = legs }) first a.steps (b.steps - a.steps) refl a.there) in
      let same : record { next = Ended first; legs = legs } ≡ record { next = Ended second; legs = others } = sym there ∙ b.there in
      let ended : Ended first ≡ Ended second = ap (λ (t : Traced). t.next) same in
      (cc, ap (λ (t : Traced). t.legs) same)

pub each_has_legs : EachEndingHasLegs
each_has_legs all limits ending ends =
    ((traced all limits ends.steps).legs, record { steps = ends.steps; there = ap (λ next. record { next = next; legs = (traced all limits ends.steps).legs }) (traces all limits ends.steps ∙ ends.there) })

pub legs_end : LegsEndTheRun
legs_end all limits ending legs ends = record { steps = ends.steps; there = sym (traces all limits ends.steps) ∙ ap (λ (t : Traced). t.next) ends.there }

pub one_list : OneListOfLegs
one_list all limits first second legs others a b = by (cases_lt a.steps b.steps)
  where
    by : (a.steps < b.steps) ⊎ (b.steps ≤ a.steps) → (first ≡ second) × (legs ≡ others)
    by (inl l) = earlier all limits first second legs others a b (omega arith)
    by (inr l) = let back = earlier all limits second first others legs b a l in (sym back.0, sym back.1)

pub spends_below : SpendsBelowLimit
spends_below all limits table legs limited ranges ends =
    subst (λ legs. limits.pivots < pivot_limit (length all.classes) (with_pivot legs)) (ap (λ (t : Traced). t.legs) ends.there)
    (pivots_spent all limits ends.steps table limited ranges (ap (λ (t : Traced). t.next) ends.there))
