-- The categories and values of a loosened pool, by their places.
use Rattle.std.proofs.Common.{◌≡◌, ℕ, zero, suc, ◌+◌, ◌≤◌, ◌<◌, List, [], ◌∷◌, map, length, get_or, take, max, min, refl, sym, ap, ◌∙◌, arith, subst}
use Rattle.std.specs.List.{enumerate_from}
use Rattle.define_pools.specs.Pool.{BoundedValue, Category, Pool, Volunteer, members_with}
use Rattle.define_quotas.specs.Teams.{loosened, loosened_category, loosened_value}

as_many : {X Y : Type 0} (f : ℕ × X → Y) (first : ℕ) (xs : List X) → length (map f (enumerate_from first xs)) ≡ length xs
as_many f first [] = refl
as_many f first (x ∷ xs) = ap suc (as_many f (first + 1) xs)

at_place : {X Y : Type 0} (f : ℕ × X → Y) (first : ℕ) (xs : List X) (i : ℕ) (d : X) (e : Y) → i < length xs → get_or (map f (enumerate_from first xs)) i e ≡ f (first + i, get_or xs i d)
at_place f first [] i d e l = absurd (omega arith)
at_place f first (x ∷ xs) zero d e l = let s : first + 0 ≡ first = omega arith in ap (λ k. f (k, x)) (sym s)
at_place f first (x ∷ xs) (suc i) d e l =
    let s : first + 1 + i ≡ first + suc i = omega arith in at_place f (first + 1) xs i d e (omega arith) ∙ ap (λ k. f (k, get_or xs i d)) s

pub categories_many : (pool : Pool) (team : List ℕ) → length (loosened pool team).categories ≡ length pool.categories
categories_many pool team = as_many (λ (c, category). loosened_category pool.volunteers team c category) 0 pool.categories

pub category_at : (pool : Pool) (team : List ℕ) (i : ℕ) (d e : Category) → i < length pool.categories →
    get_or (loosened pool team).categories i e ≡ loosened_category pool.volunteers team i (get_or pool.categories i d)
category_at pool team i d e l =
    let s : 0 + i ≡ i = omega arith in
    at_place (λ (c, category). loosened_category pool.volunteers team c category) 0 pool.categories i d e l ∙ ap (λ k. loosened_category pool.volunteers team k (get_or pool.categories i d)) s

pub values_many : (volunteers : List Volunteer) (team : List ℕ) (c : ℕ) (category : Category) → length (loosened_category volunteers team c category).values ≡ length category.values
values_many volunteers team c category = as_many (λ (v, value). loosened_value value (members_with volunteers team c v)) 0 category.values

pub value_at : (volunteers : List Volunteer) (team : List ℕ) (c : ℕ) (category : Category) (i : ℕ) (d e : BoundedValue) → i < length category.values →
    get_or (loosened_category volunteers team c category).values i e ≡ loosened_value (get_or category.values i d) (members_with volunteers team c i)
value_at volunteers team c category i d e l =
    let s : 0 + i ≡ i = omega arith in
    at_place (λ (v, value). loosened_value value (members_with volunteers team c v)) 0 category.values i d e l ∙ ap (λ k. loosened_value (get_or category.values i d) (members_with volunteers team c k)) s

-- let `number` be how many of the team have value `i` of category `c`. A value with the name of value `i`, and with its bounds moved just
-- so far that `number` lies within them, is value `i` of the loosened category
pub next_value : (volunteers : List Volunteer) (team : List ℕ) (c : ℕ) (category : Category) (items : List BoundedValue) (i : ℕ) (d : BoundedValue) (name : List ℕ) (low up number lower upper : ℕ) →
    items ≡ category.values → i < length category.values → d ≡ get_or items i d → name ≡ d.name → low ≡ d.lower → up ≡ d.upper → number ≡ members_with volunteers team c i →
    lower ≡ min low number → upper ≡ max up number → record { name = name; lower = lower; upper = upper } ≡ get_or (loosened_category volunteers team c category).values i d
next_value volunteers team c category items i d name low up number lower upper same inside there n l u m lo hi =
    let least : lower ≡ min d.lower (members_with volunteers team c i) = lo ∙ ap (λ x. min x number) l ∙ ap (min d.lower) m in
    let most : upper ≡ max d.upper (members_with volunteers team c i) = hi ∙ ap (λ x. max x number) u ∙ ap (max d.upper) m in
    let here : d ≡ get_or category.values i d = there ∙ ap (λ (xs : List BoundedValue). get_or xs i d) same in
    ap (λ x. made x lower upper) n ∙ (ap (λ x. made d.name x upper) least ∙ (ap (λ x. made d.name (min d.lower (members_with volunteers team c i)) x) most
    ∙ (ap (λ (x : BoundedValue). loosened_value x (members_with volunteers team c i)) here ∙ sym (value_at volunteers team c category i d d inside))))
  where
    made : List ℕ → ℕ → ℕ → BoundedValue
    made name lower upper = record { name = name; lower = lower; upper = upper }

pub all_taken : {X : Type 0} (xs : List X) (i : ℕ) → length xs ≤ i → take i xs ≡ xs
all_taken [] zero l = refl
all_taken [] (suc i) l = refl
all_taken (x ∷ xs) zero l = absurd (omega arith)
all_taken (x ∷ xs) (suc i) l = ap (λ rest. x ∷ rest) (all_taken xs i (omega arith))
