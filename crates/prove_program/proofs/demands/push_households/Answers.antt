use Rattle.std.proofs.Common.{◌≡◌, ◌∙◌, ◌<◌, ℕ, List, Option, None, Vec, Global, ◌++◌, map, filter, length, get_or, refl, sym, ap, arith}
use Rattle.std.specs.List.{range_with_len}
use Rattle.std.proofs.lemmas.List.FromFn.{get_or-map-range_with_len, length-map-range_with_len}
use Rattle.define_proofs.specs.Constraints.{household_constraint}
use Rattle.define_searches.specs.Classes.{shared_household}
use Rattle.define_searches.specs.Compositions.{is_of_household}
use Rattle.prove_program.specs.declared.demands.Demand.{Demand}
use Rattle.prove_program.specs.declared.demands.Counted.TheVariants.{OfHousehold}
use Rattle.prove_program.specs.Demands.{constraint_of}
use Rattle.prove_program.proofs.ListSteps.{passing_more, passing_none}
use Rattle.prove_program.proofs.demands.push_households.Goals.{then-is_of_household+in_ok-push, else-is_of_household}
use Rattle.prove_program.proofs.demands.push_households.Goals as goal

pub loop-number-preserved : goal.loop-number-preserved
loop-number-preserved c =
    let pool = c.args.pool.now in let k = c.loop-number.number in let before = map (constraint_of pool) c.args.demands.now.items in
    let shared : ℕ → Option ℕ = shared_household pool.volunteers in let n = length pool.volunteers in
    let many = ap (λ (xs : List (Option ℕ)). length xs) c.requires ∙ length-map-range_with_len shared 0 n in
    let inside : k < n = omega (arith, many) in
    let at : get_or c.args.households.now k None ≡ shared k = ap (λ (xs : List (Option ℕ)). get_or xs k None) c.requires ∙ get_or-map-range_with_len shared 0 n k k None inside (omega arith) in
    let test = c.is_of_household.ensures ∙ ap (is_of_household k) at in
    elim c.if-is_of_household.branch [
      | then-is_of_household+in_ok-push w ↦
          passing_more (constraint_of pool) (household_constraint pool) (λ i. is_of_household i (shared i)) before k c.loop-number.demands.items c.if-is_of_household.demands.items
          (record { counted = OfHousehold k; lower = 0; upper = 1 }) (sym test ∙ w.if-is_of_household.true) refl
          (ap (λ (demands : Vec Demand Global). demands.items) w.demands-is ∙ w.in_ok-push.ensures.items) c.loop-number.invariant
      | else-is_of_household w ↦
          passing_none (constraint_of pool) (household_constraint pool) (λ i. is_of_household i (shared i)) before k c.loop-number.demands.items c.if-is_of_household.demands.items
          (sym test ∙ w.if-is_of_household.false) (ap (λ (demands : Vec Demand Global). demands.items) w.demands-is) c.loop-number.invariant
    ]

pub returns : goal.returns
returns c =
    let pool = c.args.pool.now in let shared : ℕ → Option ℕ = shared_household pool.volunteers in let n = length pool.volunteers in
    let many = ap (λ (xs : List (Option ℕ)). length xs) c.requires ∙ length-map-range_with_len shared 0 n in
    let end = c.loop-number.auto.number-end in
    let all : c.loop-number.number ≡ n = omega (arith, many) in
    c.loop-number.invariant
    ∙ ap (λ count. map (constraint_of pool) c.args.demands.now.items ++ map (household_constraint pool) (filter (λ i. is_of_household i (shared i)) (range_with_len 0 count))) all
