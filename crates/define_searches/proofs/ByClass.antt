-- A sum over a panel, taken class by class.
use Rattle.std.proofs.Common.{◌≡◌, ℕ, zero, suc, ◌+◌, ◌*◌, ◌≤◌, ◌<◌, Bool, true, false, cond, not, ◌||◌, eqb, List, [], ◌∷◌, refl, sym, ap, ◌∙◌, ⊎_elim, arith, subst, le_of_eq}
use Rattle.std.specs.List.{list_any, AllByRecursion, range_with_len}
use Rattle.std.proofs.lemmas.Bool.{cases_Bool, cases_lt, eqb-true, eq-eqb, false≢true}
use Rattle.define_pools.proofs.Each.{each_filter, each_map, each_range}
use Rattle.define_pools.proofs.Sums.{total, total_eq, total_ext, total-add, total-scaled, total-zero, one_if, total-filter}
use Rattle.define_searches.specs.Classes.{leaders, IsEquivalenceTest}
use Rattle.define_pools.proofs.Weights.{one_member}

-- the least number that passes a test; it is at most n
pub record Least (p : ℕ → Bool) (n : ℕ) : Type 0 where
  pub at : ℕ
  pub within : at ≤ n
  pub passes : p at ≡ true
  pub before : (k : ℕ) → k < at → p k ≡ false

least_from : (p : ℕ → Bool) (m d : ℕ) → p (m + d) ≡ true → ((k : ℕ) → k < m → p k ≡ false) → Least p (m + d)
least_from p m zero h before = record { at = m + 0; within = le_of_eq refl; passes = h; before = λ k l. before k (omega arith) }
least_from p m (suc d) h before =
    (elim (p m) as (λ b. p m ≡ b → Least p (m + suc d)) [
      | true ↦ λ e. record { at = m; within = omega arith; passes = e; before = before }
      | false ↦ λ e.
          let same : suc m + d ≡ m + suc d = omega arith in
          let found = least_from p (suc m) d (rw same h) (λ k l. ⊎_elim (λ (below : k < m). before k below) (λ (up : m ≤ k). let s : k ≡ m = omega arith in rw s e) (cases_lt k m)) in
          record { at = found.at; within = omega (arith, found.within); passes = found.passes; before = found.before }
    ]) refl

pub least_passing : (p : ℕ → Bool) (n : ℕ) → p n ≡ true → Least p n
least_passing p n h =
    let same : 0 + n ≡ n = omega arith in
    let found = least_from p 0 n (rw same h) (λ k l. absurd (omega arith)) in
    record { at = found.at; within = omega (arith, found.within); passes = found.passes; before = found.before }

pub any_false : (q : ℕ → Bool) (first count : ℕ) → ((k : ℕ) → first ≤ k → k < first + count → q k ≡ false) → list_any q (range_with_len first count) ≡ false
any_false q first zero h = refl
any_false q first (suc count) h =
    let here = h first (le_of_eq refl) (omega arith) in
    let rest = any_false q (first + 1) count (λ k l m. h k (omega arith) (omega arith)) in rw here rest

pub any_true : (q : ℕ → Bool) (first count k : ℕ) → first ≤ k → k < first + count → q k ≡ true → list_any q (range_with_len first count) ≡ true
any_true q first zero k l m e = absurd (omega arith)
any_true q first (suc count) k l m e =
    (elim (q first) as (λ b. q first ≡ b → (b || list_any q (range_with_len (first + 1) count)) ≡ true) [
      | true ↦ λ _. refl
      | false ↦ λ f. any_true q (first + 1) count k (⊎_elim (λ (lt : first < k). omega arith) (λ (le : k ≤ first). let s : k ≡ first = omega arith in absurd (false≢true (sym f ∙ ap q (sym s) ∙ e))) (cases_lt first k)) (omega arith) e
    ]) refl

-- how many members of a panel are alike to a leader
abbrev pub taken : (ℕ → ℕ → Bool) → ℕ → List ℕ → ℕ
taken alike leader panel = total (λ i. one_if (alike leader i)) panel

module _ (alike : ℕ → ℕ → Bool) (same : IsEquivalenceTest alike) (count : ℕ) where
  unfoldable pub leads : ℕ → Bool
  leads i = not (list_any (λ j. alike j i) (range_with_len 0 i))

  pub is_first : (i : ℕ) → (first : Least (λ j. alike j i) i) → (j : ℕ) → cond (leads j) (one_if (alike j i)) 0 ≡ cond (eqb first.at j) 1 0
  unfolding leads
  is_first i first j = ⊎_elim at_first elsewhere (cases_Bool (eqb first.at j))
    where
      at_first : eqb first.at j ≡ true → cond (leads j) (one_if (alike j i)) 0 ≡ cond (eqb first.at j) 1 0
      at_first e =
          let s : first.at ≡ j = eqb-true first.at j e in
          let none : list_any (λ k. alike k j) (range_with_len 0 j) ≡ false =
          any_false (λ k. alike k j) 0 j (λ k l m. ⊎_elim
          (λ (t : alike k j ≡ true). absurd (false≢true (sym (first.before k (omega arith)) ∙ same.along k j i t (subst (λ z. alike z i ≡ true) s first.passes))))
          (λ (f : alike k j ≡ false). f) (cases_Bool (alike k j))) in
          let here : alike j i ≡ true = subst (λ z. alike z i ≡ true) s first.passes in
          rw (none, here, e) refl

      elsewhere : eqb first.at j ≡ false → cond (leads j) (one_if (alike j i)) 0 ≡ cond (eqb first.at j) 1 0
      elsewhere e = ⊎_elim
          (λ (t : alike j i ≡ true).
          ⊎_elim (λ (l : j < first.at). absurd (false≢true (sym (first.before j l) ∙ t)))
          (λ (l : first.at ≤ j).
          ⊎_elim (λ (l : first.at < j).
          let some : list_any (λ k. alike k j) (range_with_len 0 j) ≡ true = any_true (λ k. alike k j) 0 j first.at (omega arith) (omega arith) (same.along first.at i j first.passes (same.back j i t)) in
          rw (some, e) refl)
          (λ (u : j ≤ first.at). let s : first.at ≡ j = omega arith in absurd (false≢true (sym e ∙ eq-eqb first.at j s))) (cases_lt first.at j)) (cases_lt j first.at))
          (λ (f : alike j i ≡ false). both f (leads j)) (cases_Bool (alike j i))
        where
          both : alike j i ≡ false → (b : Bool) → cond b (one_if (alike j i)) 0 ≡ cond (eqb first.at j) 1 0
          both f true = rw (f, e) refl
          both f false = rw e refl

  -- each volunteer is alike to exactly one leader
  pub one_leader : (i : ℕ) → i < count → total (λ leader. one_if (alike leader i)) (leaders alike count) ≡ 1
  unfolding leads
  one_leader i below =
      let first = least_passing (λ j. alike j i) i (same.itself i) in
      let inside : first.at < 0 + count = omega (arith, first.within) in
      total-filter (λ leader. one_if (alike leader i)) leads (range_with_len 0 count)
      ∙ total_ext (λ j. cond (leads j) (one_if (alike j i)) 0) (λ j. cond (eqb first.at j) 1 0) (is_first i first) (range_with_len 0 count)
      ∙ one_member (λ _. 1) first.at 0 count (omega arith) inside

  -- leaders are volunteers
  pub leaders_below : AllByRecursion (λ leader. leader < count) (leaders alike count)
  unfolding leads
  leaders_below =
      each_filter (λ leader. leader < count) leads (range_with_len 0 count) (each_range (λ leader. leads leader ≡ true → leader < count) 0 count (λ k low high t. omega arith))

  -- if `f` is equal on alike volunteers, its sum over a panel is the sum over the leaders of `f` times how many members of the leader's
  -- class are on the panel
  pub by_class : (f : ℕ → ℕ) → ((i j : ℕ) → i < count → j < count → alike i j ≡ true → f i ≡ f j) → (panel : List ℕ) → AllByRecursion (λ i. i < count) panel →
      total f panel ≡ total (λ leader. taken alike leader panel * f leader) (leaders alike count)
  by_class f respects [] below = sym (total-zero (λ leader. 0 * f leader) (λ leader. omega arith) (leaders alike count))
  by_class f respects (i ∷ panel) below =
      let rest = by_class f respects panel below.1 in
      let one = one_leader i below.0 in
      let split = total_eq (λ leader. (one_if (alike leader i) + taken alike leader panel) * f leader) (λ leader. one_if (alike leader i) * f i + taken alike leader panel * f leader) (leaders alike count)
      (each_map (λ leader. leader < count) (λ leader. (one_if (alike leader i) + taken alike leader panel) * f leader ≡ one_if (alike leader i) * f i + taken alike leader panel * f leader) step (leaders alike count) leaders_below) in
      let added = total-add (λ leader. one_if (alike leader i) * f i) (λ leader. taken alike leader panel * f leader) (leaders alike count) in
      let scaled = total-scaled (λ leader. one_if (alike leader i)) (f i) (leaders alike count) in
      let once : total (λ leader. one_if (alike leader i)) (leaders alike count) * f i ≡ 1 * f i = ap (λ z. z * f i) one in
      omega (arith, split, added, scaled, once, rest)
    where
      step : (leader : ℕ) → leader < count → (one_if (alike leader i) + taken alike leader panel) * f leader ≡ one_if (alike leader i) * f i + taken alike leader panel * f leader
      step leader low =
          (elim (alike leader i) as (λ b. alike leader i ≡ b → (one_if b + taken alike leader panel) * f leader ≡ one_if b * f i + taken alike leader panel * f leader) [
            | true ↦ λ e. omega (arith, respects leader i low below.0 e)
            | false ↦ λ e. omega arith
          ]) refl
