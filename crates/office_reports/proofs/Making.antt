-- The steps of making a pool make the pool of the definition.
use Rattle.std.proofs.Common.{◌≡◌, ℕ, suc, ◌+◌, ◌*◌, ◌/◌, ◌≤◌, max, List, [], ◌∷◌, ◌++◌, map, length, refl, sym, ◌∙◌, ap, arith}
use Rattle.std.specs.List.{range_with_len}
use Rattle.std.proofs.lemmas.List.FromFn.{length-map-range_with_len, map-range_with_len_more}
use Rattle.define_pools.specs.Building.{empty_pool}
use Rattle.define_pools.specs.Pool.{Pool, Volunteer}
use Rattle.define_made_pools.specs.Generator.{next_state, state}
use Rattle.define_made_pools.specs.MadePools.{made_categories, made_pool, made_values, made_volunteer, made_volunteers}
use Rattle.define_made_pools.proofs.Volunteers.{members_are_counted}
use Rattle.office_reports.specs.Making.{categories_by, values_behind, with_values}

-- three steps of the generator lead from the state before the numbers of volunteer `i` to the state before those of volunteer `i + 1`
pub three_more : (seed i : ℕ) → next_state (next_state (next_state (state seed (3 * i)))) ≡ state seed (3 * (i + 1))
unfolding state
three_more seed i = let e : 3 * (i + 1) ≡ suc (suc (suc (3 * i))) = omega arith in rw e refl

pub values_here : (seed i : ℕ) → values_behind (state seed (3 * i)) ≡ made_values seed i
unfolding state
values_here seed i =
    let one : 3 * i + 1 ≡ suc (3 * i) = omega arith in
    let two : 3 * i + 2 ≡ suc (suc (3 * i)) = omega arith in
    rw (one, two) refl

pub one_more_list : (seed i : ℕ) (first : List (List ℕ)) → first ≡ map (made_values seed) (range_with_len 0 i) →
    first ++ values_behind (state seed (3 * i)) ∷ [] ≡ map (made_values seed) (range_with_len 0 (i + 1))
one_more_list seed i first e =
    ap (λ values. first ++ values ∷ []) (values_here seed i) ∙ ap (λ lists. lists ++ made_values seed i ∷ []) e
    ∙ sym (map-range_with_len_more (made_values seed) 0 i i (omega arith))

pub one_more_volunteer : (seed i : ℕ) → made_volunteers seed i ++ with_values i (values_behind (state seed (3 * i))) ∷ [] ≡ made_volunteers seed (i + 1)
one_more_volunteer seed i =
    ap (λ values. made_volunteers seed i ++ with_values i values ∷ []) (values_here seed i)
    ∙ sym (map-range_with_len_more (made_volunteer seed) 0 i i (omega arith))

pub length-made_volunteers : (seed i : ℕ) → length (made_volunteers seed i) ≡ i
length-made_volunteers seed i = length-map-range_with_len (made_volunteer seed) 0 i

pub categories_are_made : (seed n size : ℕ) → size ≤ n → categories_by (map (made_values seed) (range_with_len 0 size)) ≡ made_categories (made_volunteers seed n) size
categories_are_made seed n size few =
    let same : (place value_place : ℕ) → _ ≡ _ = λ place value_place. members_are_counted seed n size place value_place few in
    simp same

pub next_numbers : (seed i x y : ℕ) → x ≡ state seed (3 * i) → y ≡ next_state (next_state (next_state x)) → y ≡ state seed (3 * (i + 1))
next_numbers seed i x y e f = f ∙ ap (λ z. next_state (next_state (next_state z))) e ∙ three_more seed i

pub next_list : (seed i x : ℕ) (values : List ℕ) (first : List (List ℕ)) → x ≡ state seed (3 * i) → values ≡ values_behind x → first ≡ map (made_values seed) (range_with_len 0 i) →
    first ++ values ∷ [] ≡ map (made_values seed) (range_with_len 0 (i + 1))
next_list seed i x values first e f g = ap (λ vs. first ++ vs ∷ []) (f ∙ ap values_behind e) ∙ one_more_list seed i first g

pub next_volunteer : (seed i x : ℕ) (values : List ℕ) (volunteers : List Volunteer) → x ≡ state seed (3 * i) → values ≡ values_behind x → volunteers ≡ made_volunteers seed i →
    volunteers ++ with_values i values ∷ [] ≡ made_volunteers seed (i + 1)
next_volunteer seed i x values volunteers e f g =
    ap (λ vs. volunteers ++ with_values i vs ∷ []) (f ∙ ap values_behind e) ∙ ap (λ vs. vs ++ with_values i (values_behind (state seed (3 * i))) ∷ []) g ∙ one_more_volunteer seed i

-- the steps, one after the other, make the pool of the definition
pub pool_is_made : (seed n size : ℕ) (first : List (List ℕ)) (empty with_categories with_volunteers : Pool) → 1 ≤ n → size ≡ max (n / 10) 1 →
    first ≡ map (made_values seed) (range_with_len 0 size) → empty ≡ empty_pool size → with_categories ≡ record empty { categories = categories_by first } →
    with_volunteers ≡ record with_categories { volunteers = made_volunteers seed n } → with_volunteers ≡ made_pool seed n
pool_is_made seed n size first empty with_categories with_volunteers some s f e c v =
    let few : size ≤ n = omega arith in
    let same = ap categories_by f ∙ categories_are_made seed n size few in
    let made : made_pool seed n ≡ record { size = size; categories = made_categories (made_volunteers seed n) size; volunteers = made_volunteers seed n } =
    ap (λ k. let pool : Pool = record { size = k; categories = made_categories (made_volunteers seed n) k; volunteers = made_volunteers seed n } in pool) (sym s) in
    v ∙ ap (λ (p : Pool). let pool : Pool = record p { volunteers = made_volunteers seed n } in pool) c
    ∙ ap (λ (p : Pool). let pool : Pool = record { size = p.size; categories = categories_by first; volunteers = made_volunteers seed n } in pool) e
    ∙ ap (λ cs. let pool : Pool = record { size = size; categories = cs; volunteers = made_volunteers seed n } in pool) same
    ∙ sym made
