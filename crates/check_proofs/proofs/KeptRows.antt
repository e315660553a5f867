-- How the kept constraints change when a stage is passed.
use Rattle.std.proofs.Common.{◌≡◌, ℕ, ◌+◌, ◌-◌, ◌≤◌, true, List, [], ◌∷◌, ◌++◌, map, length, reverse, refl, sym, ap, ◌∙◌, subst, arith}
use Rattle.std.specs.List.{enumerate_from, flat_map, insert, list_all}
use Rattle.std.proofs.lemmas.Bool.{and_from}
use Rattle.std.proofs.lemmas.List.{append-nil, append_assoc, length-append, length-map, length-reverse, map-append, reverse-append}
use Rattle.std.proofs.lemmas.List.Edits.{insert-append_right}
use Rattle.define_pools.specs.Certificate.{Stage}
use Rattle.define_pools.specs.Pool.{IsPool, Pool}
use Rattle.define_proofs.specs.Constraints.{Constraint, category_constraints, first_members, household_constraint, size_constraint, stage_constraint}
use Rattle.define_proofs.specs.LeafSums.{is_in_reach, is_problem_in_reach, is_stage_in_reach}
use Rattle.define_proofs.specs.Leaves.{Problem}
use Rattle.define_proofs.proofs.Reaches.{all_in_reach}
use Rattle.check_proofs.specs.Kept.{AreConstraintsOf, fixed_constraints}

insert_first : {X : Type 0} (xs : List X) (y : X) → insert xs 0 y ≡ y ∷ xs
insert_first [] y = refl
insert_first (x ∷ xs) y = refl

module _ (pool : Pool) where
  abbrev households : List Constraint
  households = map (household_constraint pool) (first_members pool)

  abbrev values : List Constraint
  values = flat_map (category_constraints pool) (enumerate_from 0 pool.categories)

  pub kept_first : (rows : List Constraint) (next : ℕ) → rows ≡ fixed_constraints pool ++ households → next ≡ length (fixed_constraints pool) → AreConstraintsOf pool [] rows next
  kept_first rows next e f = record {
    all = e ∙ ap (λ those. size_constraint pool ∷ (those ++ households)) (sym (append-nil values));
    behind = f ∙ (let none : length (fixed_constraints pool) ≡ length (fixed_constraints pool) + 0 = omega arith in none);
  }

  module _ (earlier : List Stage) (rows : List Constraint) (next : ℕ) (are : AreConstraintsOf pool earlier rows next) where
    abbrev stages : List Constraint
    stages = map stage_constraint (reverse earlier)

    abbrev front : List Constraint
    front = fixed_constraints pool ++ stages

    at_front : length front ≡ next
    at_front =
        let sum = length-append (fixed_constraints pool) stages in
        let same = length-map (reverse earlier) stage_constraint in let turned = length-reverse earlier in
        let behind = are.behind in omega (arith, sum, same, turned, behind)

    pub next_within : next ≤ length rows
    next_within =
        let many = ap (λ (all : List Constraint). length all) are.all in
        let sum = length-append front households in
        let front_is = at_front in omega (arith, many, sum, front_is)

    pub kept_on : (stage : Stage) (new : List Constraint) (after : ℕ) → new ≡ insert rows next (stage_constraint stage) → after ≡ next + 1 → AreConstraintsOf pool (stage ∷ earlier) new after
    kept_on stage new after e f =
        let own = stage_constraint stage in
        let zeroth : next - next ≡ 0 = omega arith in
        let turned : map stage_constraint (reverse (stage ∷ earlier)) ≡ stages ++ own ∷ [] =
        ap (map stage_constraint) (reverse-append (stage ∷ []) earlier) ∙ map-append stage_constraint (reverse earlier) (stage ∷ []) in
        record {
          all =
              e ∙ ap (λ all. insert all next own) are.all
              ∙ insert-append_right front households next next own at_front (omega arith)
              ∙ ap (λ i. front ++ insert households i own) zeroth
              ∙ ap (λ those. front ++ those) (insert_first households own)
              ∙ sym (append_assoc front (own ∷ []) households)
              ∙ ap (λ those. those ++ households) (append_assoc (fixed_constraints pool) stages (own ∷ []))
              ∙ ap (λ those. (fixed_constraints pool ++ those) ++ households) (sym turned);
          behind = let behind = are.behind in omega (arith, behind, f);
        }

    -- if `stage` and the stages before it are within reach, the problem of `stage` is within reach
    pub near : (stage : Stage) (problem : Problem) → IsPool pool → list_all is_stage_in_reach earlier ≡ true → is_stage_in_reach stage ≡ true → problem ≡ record { constraints = rows; stage = stage } →
        is_problem_in_reach problem ≡ true
    near stage problem is each own e =
        let all = subst (λ those. list_all is_in_reach those ≡ true) (sym are.all) (all_in_reach pool is earlier each) in
        subst (λ it. is_problem_in_reach it ≡ true) (sym e) (and_from (list_all is_in_reach rows) (is_stage_in_reach stage) all own)
