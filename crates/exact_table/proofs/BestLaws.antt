-- Looking at the variables and the rows in turn finds what the definitions find.
use Rattle.std.proofs.Common.{◌≡◌, ◌≢◌, ℕ, zero, suc, ◌+◌, ◌-◌, ◌<◌, ◌≤◌, Bool, true, false, cond, not, ◌&&◌, ◌||◌, List, [], ◌∷◌, ◌++◌, map, length, Option, Some, None, pos, ◌≤ℤ◌, refl, sym, ap, ◌∙◌, subst, arith, inl, inr, ⊎_elim}
use Rattle.std.specs.List.{find, list_all, range_with_len}
use Rattle.std.proofs.lemmas.Bool.{cases_eq, and_parts}
use Rattle.define_pools.proofs.Integers.{lt-tested}
use Rattle.define_pools.proofs.Each.{each_from_list_all}
use Rattle.define_pools.proofs.Found.{find_range-none, find_range-first}
use Rattle.define_rows.specs.declared.Var.{Var}
use Rattle.define_rows.specs.declared.Var.TheVariants.{Slack}
use Rattle.define_rows.specs.Table.{Table, coefficient_at, row_at, basic_at, row_numbers}
use Rattle.define_rows.specs.Choice.{may_leave, leaves_before, is_least, leaving}
use Rattle.define_rows.proofs.Chosen.{row_each}
use Rattle.define_rows.proofs.Ratios.{IsCandidate, before-other}
use Rattle.define_rows.proofs.Leaving.{IsBest, IsBest-takes, IsBest-keeps, IsBest-first, best_is_least}
use Rattle.exact_table.specs.Parts.{AreDifferent}
use Rattle.exact_table.specs.Best.{better, best_of}

-- ---- `find` over `f k` to `f (n - 1)`

-- from `k` to `n - 1` there is one number more than from `k + 1` on, if `k` is below `n`
one_left : (k n : ℕ) → k < n → n - k ≡ suc (n - (k + 1))
one_left k n l = omega arith

-- if `k` is below `n` and `p` holds of `f k`, `find` over `f k` to `f (n - 1)` returns `f k`
pub find_from-found : {X : Type 0} (p : X → Bool) (f : ℕ → X) (k n : ℕ) → k < n → p (f k) ≡ true → find p (map f (range_with_len k (n - k))) ≡ Some (f k)
find_from-found p f k n l e =
    ap (λ m. find p (map f (range_with_len k m))) (one_left k n l)
    ∙ ap (λ b. cond b (Some (f k)) (find p (map f (range_with_len (k + 1) (n - (k + 1)))))) e

-- if `k` is below `n` and `p` doesn't hold of `f k`, `find` returns what it finds from `f (k + 1)` on
pub find_from-more : {X : Type 0} (p : X → Bool) (f : ℕ → X) (k n : ℕ) → k < n → p (f k) ≡ false → find p (map f (range_with_len k (n - k))) ≡ find p (map f (range_with_len (k + 1) (n - (k + 1))))
find_from-more p f k n l e =
    ap (λ m. find p (map f (range_with_len k m))) (one_left k n l)
    ∙ ap (λ b. cond b (Some (f k)) (find p (map f (range_with_len (k + 1) (n - (k + 1)))))) e

pub find_from-end : {X : Type 0} (p : X → Bool) (f : ℕ → X) (k n : ℕ) → n ≤ k → find p (map f (range_with_len k (n - k))) ≡ None
find_from-end p f k n l = let e : n - k ≡ 0 = omega arith in ap (λ m. find p (map f (range_with_len k m))) e

-- if `find` finds `x` in `xs`, it finds `x` in `xs ++ ys`
pub find-left : {X : Type 0} (p : X → Bool) (xs ys : List X) (x : X) → find p xs ≡ Some x → find p (xs ++ ys) ≡ Some x
find-left p [] ys x e = absurd cc
find-left p (y ∷ xs) ys x e = by (p y) e (λ f. find-left p xs ys x f)
  where
    by : (b : Bool) → cond b (Some y) (find p xs) ≡ Some x → (find p xs ≡ Some x → find p (xs ++ ys) ≡ Some x) → cond b (Some y) (find p (xs ++ ys)) ≡ Some x
    by true f rest = f
    by false f rest = rest f

-- if `find` finds nothing in `xs`, it returns over `xs ++ ys` what it finds in `ys`
pub find-right : {X : Type 0} (p : X → Bool) (xs ys : List X) → find p xs ≡ None → find p (xs ++ ys) ≡ find p ys
find-right p [] ys e = refl
find-right p (y ∷ xs) ys e = by (p y) e (λ f. find-right p xs ys f)
  where
    by : (b : Bool) → cond b (Some y) (find p xs) ≡ None → (find p xs ≡ None → find p (xs ++ ys) ≡ find p ys) → cond b (Some y) (find p (xs ++ ys)) ≡ find p ys
    by true f rest = absurd cc
    by false f rest = rest f

module _ (table : Table) (v : Var) (sides : (i : ℕ) → i < length table.rows → pos 0 ≤ℤ (row_at table i).b) where
  -- the state after the first `n` rows: None if `may_leave` holds of none, else the best of those of which it holds
  abbrev IsState : ℕ → Option ℕ → Type 0
  IsState n None = (k : ℕ) → k < n → may_leave table v k ≡ false
  IsState n (Some b) = IsBest table v n b

  more : (n b : ℕ) → IsBest table v (n + 1) b → IsBest table v (suc n) b
  more n b h = let e : n + 1 ≡ suc n = omega arith in subst (λ m. IsBest table v m b) e h

  state_more : (n : ℕ) → n < length table.rows → (o : Option ℕ) → IsState n o → (t : Bool) → may_leave table v n ≡ t → IsState (suc n) (cond t (better table v n o) o)
  state_more n l None h false e = λ k m. ⊎_elim (λ s. ap (may_leave table v) s ∙ e) (λ o. h k (omega arith)) (cases_eq k n)
  state_more n l None h true e = more n n (IsBest-first table v sides n l h e)
  state_more n l (Some b) h false e = more n b (IsBest-keeps table v sides n b h (inl e))
  state_more n l (Some b) h true e = test (leaves_before table v n b) refl
    where
      test : (t : Bool) → leaves_before table v n b ≡ t → IsState (suc n) (cond t (Some n) (Some b))
      test false f = more n b (IsBest-keeps table v sides n b h (inr f))
      test true f = more n n (IsBest-takes table v sides n b l h e f)

  state_of : (n : ℕ) → n ≤ length table.rows → IsState n (best_of table v n)
  state_of zero l = λ k m. absurd (omega arith)
  state_of (suc n) l = state_more n (omega arith) (best_of table v n) (state_of n (omega arith)) (may_leave table v n) refl

  -- if no variable is basic in two rows, the best of all rows is the one that the definition calls least
  module _ (different : AreDifferent table.basic) (each : length table.basic ≡ length table.rows) where
    not_before : (b k : ℕ) → IsBest table v (length table.rows) b → k < b → (t : Bool) → is_least table v k ≡ t → is_least table v k ≡ false
    not_before b k h l false e = e
    not_before b k h l true e =
        let in_range = h.before in
        let parts = and_parts (may_leave table v k) (list_all (λ j. not (may_leave table v j) || not (leaves_before table v j k)) (row_numbers table)) e in
        let there : (not (may_leave table v b) || not (leaves_before table v b k)) ≡ true =
        row_each table (λ j. (not (may_leave table v j) || not (leaves_before table v j k)) ≡ true) b (each_from_list_all (λ j. not (may_leave table v j) || not (leaves_before table v j k)) (row_numbers table) parts.1) in_range in
        let after : leaves_before table v b k ≡ false = denied (may_leave table v b) (leaves_before table v b k) h.may there in
        let other : basic_at table b ≢ basic_at table k = λ f. absurd (omega (arith, different b k (Slack (length table.sizes)) (omega arith) (omega arith) f)) in
        let before : leaves_before table v k b ≡ true =
        before-other (row_at table b).b (coefficient_at table b v) (basic_at table b) (row_at table k).b (coefficient_at table k v) (basic_at table k)
        (candidate b in_range h.may) (candidate k (omega arith) parts.0) other after in
        let best = h.best k (omega arith) parts.0 in absurd cc
      where
        candidate : (i : ℕ) → i < length table.rows → may_leave table v i ≡ true → IsCandidate (row_at table i).b (coefficient_at table i v)
        candidate i m f = record { side = sides i m; coefficient = lt-tested (pos 0) (coefficient_at table i v) f }

        denied : (x y : Bool) → x ≡ true → (not x || not y) ≡ true → y ≡ false
        denied true true f g = absurd cc
        denied true false f g = refl
        denied false y f g = absurd cc

    not_least : (k : ℕ) → may_leave table v k ≡ false → is_least table v k ≡ false
    not_least k e = ap (λ b. b && list_all (λ j. not (may_leave table v j) || not (leaves_before table v j k)) (row_numbers table)) e

    found : (o : Option ℕ) → IsState (length table.rows) o → o ≡ find (is_least table v) (row_numbers table)
    found None h = sym (find_range-none (is_least table v) 0 (length table.rows) (λ k l m. not_least k (h k (omega arith))))
    found (Some b) h =
        sym (find_range-first (is_least table v) 0 (length table.rows) b (omega arith) (let l = h.before in omega arith) (best_is_least table v sides b h)
        (λ k l m. not_before b k h m (is_least table v k) refl))

    pub leaving-best : best_of table v (length table.rows) ≡ leaving table v
    unfolding leaving
    leaving-best = found (best_of table v (length table.rows)) (state_of (length table.rows) (omega arith))
