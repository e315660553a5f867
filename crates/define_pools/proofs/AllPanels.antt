-- If P holds of each panel in a pool's list `panels`, P holds of each quota panel.
use Rattle.std.proofs.Common.{◌≡◌, ℕ, zero, suc, ◌+◌, ◌≤◌, ◌<◌, true, ◌&&◌, eqb, ltb, List, [], ◌∷◌, map, length, sym, ⊎_elim, arith, subst}
use Rattle.std.specs.List.{list_all, AllByRecursion, range_with_len}
use Rattle.std.proofs.lemmas.Bool.{and_from, and_parts, cases_eq, eq-eqb, eqb-true, ltb-true}
use Rattle.define_pools.proofs.Each.{each_from_list_all, each_from_filter, each_map, each_left, each_of_map, each_right}
use Rattle.define_pools.specs.Lists.{choices, is_increasing}
use Rattle.define_pools.specs.Pool.{Pool, everybody, is_quota_panel, panels, keeps_standings, keeps_households, meets_quotas}

-- If P holds of all choices of `length xs` of the numbers `first..first + count`, and `xs` is an increasing list of these numbers, P holds
-- of `xs`.
pub chosen : (P : List ℕ → Type 0) (first count : ℕ) (xs : List ℕ) → is_increasing xs ≡ true → AllByRecursion (λ x. first ≤ x) xs → AllByRecursion (λ x. x < first + count) xs →
    AllByRecursion P (choices (length xs) (range_with_len first count)) → P xs
chosen P first zero [] up low high each = each.0
chosen P first (suc count) [] up low high each = each.0
chosen P first zero (x ∷ xs) up low high each = let a = low.0 in let b = high.0 in absurd (omega arith)
chosen P first (suc count) (x ∷ xs) up low high each =
    let ups = and_parts (list_all (λ y. ltb x y) xs) (is_increasing xs) up in
    let later = each_map (λ y. ltb x y ≡ true) (λ y. x < y) (λ y e. ltb-true x y e) xs (each_from_list_all (λ y. ltb x y) xs ups.0) in
    let from = low.0 in
    let below = each_map (λ y. y < first + suc count) (λ y. y < (first + 1) + count) (λ y l. omega arith) xs high.1 in
    let lows = each_map (λ y. x < y) (λ y. first + 1 ≤ y) (λ y l. omega arith) xs later in
    let under = high.0 in
    let with = each_left P (map (λ ys. first ∷ ys) (choices (length xs) (range_with_len (first + 1) count))) (choices (suc (length xs)) (range_with_len (first + 1) count)) each in
    let without = each_right P (map (λ ys. first ∷ ys) (choices (length xs) (range_with_len (first + 1) count))) (choices (suc (length xs)) (range_with_len (first + 1) count)) each in
    ⊎_elim (λ (e : first ≡ x). subst (λ z. P (z ∷ xs)) e
    (chosen (λ ys. P (first ∷ ys)) (first + 1) count xs ups.1 lows below (each_of_map P (λ ys. first ∷ ys) (choices (length xs) (range_with_len (first + 1) count)) with)))
    (λ (ne : first ≡ x → ⊥). chosen P (first + 1) count (x ∷ xs) up (omega arith, lows) (omega arith, below) without)
    (cases_eq first x)

-- the properties of a quota panel
pub record Quota (pool : Pool) (panel : List ℕ) : Type 0 where
  pub size : length panel ≡ pool.size
  pub up : is_increasing panel ≡ true
  pub below : list_all (λ i. ltb i (length pool.volunteers)) panel ≡ true
  pub standings : keeps_standings pool.volunteers panel ≡ true
  pub quotas : meets_quotas pool.categories pool.volunteers panel ≡ true
  pub households : keeps_households pool.volunteers panel ≡ true

pub quota_parts : (pool : Pool) (panel : List ℕ) → is_quota_panel pool panel ≡ true → Quota pool panel
quota_parts pool panel h =
    let A = eqb (length panel) pool.size in let B = is_increasing panel in let C = list_all (λ i. ltb i (length pool.volunteers)) panel in
    let D = keeps_standings pool.volunteers panel in let E = meets_quotas pool.categories pool.volunteers panel in
    let F = keeps_households pool.volunteers panel in
    let f = and_parts (A && B && C && D && E) F h in let e = and_parts (A && B && C && D) E f.0 in let d = and_parts (A && B && C) D e.0 in
    let c = and_parts (A && B) C d.0 in let b = and_parts A B c.0 in
    record { size = eqb-true (length panel) pool.size b.0; up = b.1; below = c.1; standings = d.1; quotas = e.1; households = f.1 }

-- A panel with the properties of `Quota` is a quota panel.
pub quota_from : (pool : Pool) (panel : List ℕ) → Quota pool panel → is_quota_panel pool panel ≡ true
quota_from pool panel q =
    let A = eqb (length panel) pool.size in let B = is_increasing panel in let C = list_all (λ i. ltb i (length pool.volunteers)) panel in
    let D = keeps_standings pool.volunteers panel in let E = meets_quotas pool.categories pool.volunteers panel in
    let F = keeps_households pool.volunteers panel in
    let size : A ≡ true = eq-eqb (length panel) pool.size q.size in
    and_from (A && B && C && D && E) F
    (and_from (A && B && C && D) E (and_from (A && B && C) D (and_from (A && B) C (and_from A B size q.up) q.below) q.standings) q.quotas) q.households

pub each_panel : (P : List ℕ → Type 0) (pool : Pool) → AllByRecursion P (panels pool) → (panel : List ℕ) → is_quota_panel pool panel ≡ true → P panel
each_panel P pool each panel h =
    let q = quota_parts pool panel h in
    let all = each_from_filter P (is_quota_panel pool) (choices pool.size (everybody pool)) each in
    let sized = subst (λ k. AllByRecursion (λ ys. is_quota_panel pool ys ≡ true → P ys) (choices k (everybody pool))) (sym q.size) all in
    let n = length pool.volunteers in
    let below = each_map (λ i. ltb i n ≡ true) (λ i. i < 0 + n) (λ i e. let l = ltb-true i n e in omega arith) panel (each_from_list_all (λ i. ltb i n) panel q.below) in
    let low = each_map (λ i. i < 0 + n) (λ i. 0 ≤ i) (λ i l. omega arith) panel below in
    chosen (λ ys. is_quota_panel pool ys ≡ true → P ys) 0 n panel q.up low below sized h
