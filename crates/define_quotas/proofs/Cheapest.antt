-- `first_cheapest` returns None only for an empty list. In a list that is `Ordered`, it returns the first of those with the least cost.
use Rattle.std.proofs.Common.{◌≡◌, ℕ, ◌≤◌, ◌<◌, Bool, true, false, cond, ltb, List, [], ◌∷◌, Option, Some, None, refl, arith, subst}
use Rattle.std.specs.Prelude.{Contains}
use Rattle.std.specs.List.{AllByRecursion}
use Rattle.std.proofs.lemmas.Bool.{ltb-true, ltb-false}
use Rattle.define_pools.proofs.Each.{each_map, each_both}
use Rattle.define_searches.specs.Best.{comes_before}
use Rattle.define_searches.proofs.Contained.{contains_first, contains_later}
use Rattle.define_searches.proofs.Order.{Ordered, not_back}
use Rattle.define_quotas.specs.Costs.{cheaper, first_cheapest}

-- `x` costs at least as much as `counts`, and more if it comes before `counts`
abbrev pub IsDearer : (List ℕ → ℕ) → List ℕ → List ℕ → Type 0
IsDearer cost counts x = (cost counts ≤ cost x) × (comes_before x counts ≡ true → cost counts < cost x)

-- `counts` are in the list; each list in it costs at least as much, and more if it comes before `counts`
pub record IsFirst (cost : List ℕ → ℕ) (xs : List (List ℕ)) (counts : List ℕ) : Type 0 where
  pub listed : Contains xs counts
  pub dearer : AllByRecursion (IsDearer cost counts) xs

pub none_found : (cost : List ℕ → ℕ) (xs : List (List ℕ)) → first_cheapest cost xs ≡ None → xs ≡ []
none_found cost [] e = refl
none_found cost (x ∷ xs) e = absurd cc

pub found_first : (cost : List ℕ → ℕ) (xs : List (List ℕ)) (counts : List ℕ) → Ordered xs → first_cheapest cost xs ≡ Some counts → IsFirst cost xs counts
found_first cost [] counts ordered e = absurd cc
found_first cost (x ∷ xs) counts ordered e = by (first_cheapest cost xs) refl (λ z n. found_first cost xs z ordered.1 n) e
  where
    itself : IsDearer cost x x
    itself = (omega arith, λ e. absurd (not_back x x e e))

    behind : (y : List ℕ) → cost x ≤ cost y → comes_before x y ≡ true → IsDearer cost x y
    behind y l after = (l, λ e. absurd (not_back x y after e))

    only : (ys : List (List ℕ)) → ys ≡ [] → IsFirst cost (x ∷ ys) x
    only [] n = record { listed = contains_first x []; dearer = (itself, tt) }
    only (y ∷ ys) n = absurd cc

    or_later : (later : List ℕ) → IsFirst cost xs later → (b : Bool) → ltb (cost later) (cost x) ≡ b → IsFirst cost (x ∷ xs) (cond b later x)
    or_later later first true f =
        let l = ltb-true (cost later) (cost x) f in
        record { listed = contains_later x later xs first.listed; dearer = ((omega arith, λ e. l), first.dearer) }
    or_later later first false f =
        let l = ltb-false (cost later) (cost x) f in
        record {
          listed = contains_first x xs;
          dearer = (
            itself,
            each_map (λ y. IsDearer cost later y × (comes_before x y ≡ true)) (IsDearer cost x) (λ y p. let m = p.0.0 in behind y (omega arith) p.1) xs
                (each_both (IsDearer cost later) (λ y. comes_before x y ≡ true) xs first.dearer ordered.0),
          );
        }

    by : (found : Option (List ℕ)) → first_cheapest cost xs ≡ found → ((z : List ℕ) → first_cheapest cost xs ≡ Some z → IsFirst cost xs z) →
        Some (cheaper cost x found) ≡ Some counts → IsFirst cost (x ∷ xs) counts
    by None n further e =
        let same : x ≡ counts = cc in subst (IsFirst cost (x ∷ xs)) same (only xs (none_found cost xs n))
    by (Some later) n further e =
        let same : cond (ltb (cost later) (cost x)) later x ≡ counts = cc in
        subst (IsFirst cost (x ∷ xs)) same (or_later later (further later n) (ltb (cost later) (cost x)) refl)
