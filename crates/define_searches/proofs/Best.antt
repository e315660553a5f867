-- Pricing finds the best composition. It finds nothing exactly if no composition qualifies.
use Rattle.std.proofs.Common.{◌≡◌, ℕ, Bool, true, false, cond, List, [], ◌∷◌, ◌++◌, filter, Option, Some, None, ℤ, refl, sym, ap, subst, arith}
use Rattle.std.specs.Prelude.{int_le, int_lt, Contains, unwrap_or, ◌↔◌}
use Rattle.std.specs.List.{AllByRecursion}
use borrow.Author.Differences.{lt-true, lt-false, true_is_le, true_is_lt}
use Rattle.define_pools.proofs.Each.{each_map, each_append}
use Rattle.define_rows.specs.Row.{Row}
use Rattle.define_searches.specs.Best.{IsBest, Qualifies, comes_before}
use Rattle.define_searches.specs.Classes.{Classes}
use Rattle.define_searches.specs.Compositions.{attains, compositions, first_greatest, price, weight_in}
use Rattle.define_searches.proofs.Contained.{contains_filter, each_contains, each_itself, filtered}
use Rattle.define_searches.proofs.Order.{Ordered, compositions_ordered, not_back, ordered_after}

-- ---- the first of greatest weight above a floor

-- `counts` is the first list of greatest weight in `xs`: it weighs more than the floor and than all before it, and none after it weighs
-- more
record StandsFirst (weight : List ℕ → ℤ) (floor : ℤ) (xs : List (List ℕ)) (counts : List ℕ) : Type 0 where
  before : List (List ℕ)
  after : List (List ℕ)
  whole : xs ≡ before ++ counts ∷ after
  above : int_lt floor (weight counts) ≡ true
  lighter : AllByRecursion (λ x. int_lt (weight x) (weight counts) ≡ true) before
  no_heavier : AllByRecursion (λ x. int_lt (weight counts) (weight x) ≡ false) after

-- if `first_greatest` finds nothing, no list weighs more than the floor
pub none_above : (weight : List ℕ → ℤ) (floor : ℤ) (xs : List (List ℕ)) → first_greatest weight floor xs ≡ None → AllByRecursion (λ x. int_lt floor (weight x) ≡ false) xs
none_above weight floor [] n = tt
none_above weight floor (x ∷ xs) n = by (int_lt floor (weight x)) refl (λ s. none_above weight floor xs s) n
  where
    by : (b : Bool) → int_lt floor (weight x) ≡ b → (first_greatest weight floor xs ≡ None → AllByRecursion (λ x. int_lt floor (weight x) ≡ false) xs) →
        cond b (Some (unwrap_or (first_greatest weight (weight x) xs) x)) (first_greatest weight floor xs) ≡ None → AllByRecursion (λ x. int_lt floor (weight x) ≡ false) (x ∷ xs)
    by true t rest s = absurd cc
    by false t rest s = (t, rest s)

below_above : (a b c : ℤ) → int_lt a b ≡ false → int_lt a c ≡ true → int_lt b c ≡ true
below_above a b c e f = sym (true_is_lt b c (omega (arith, lt-false a b e, lt-true a c f)))

above_above : (a b c : ℤ) → int_lt a b ≡ true → int_lt b c ≡ true → int_lt a c ≡ true
above_above a b c e f = sym (true_is_lt a c (omega (arith, lt-true a b e, lt-true b c f)))

stands_first : (weight : List ℕ → ℤ) (floor : ℤ) (xs : List (List ℕ)) (counts : List ℕ) → first_greatest weight floor xs ≡ Some counts → StandsFirst weight floor xs counts
stands_first weight floor [] counts e = absurd cc
stands_first weight floor (x ∷ xs) counts e =
    by (int_lt floor (weight x)) refl (λ z n. stands_first weight (weight x) xs z n) (λ n. stands_first weight floor xs counts n) e
  where
    or_later : ((z : List ℕ) → first_greatest weight (weight x) xs ≡ Some z → StandsFirst weight (weight x) xs z) → (found : Option (List ℕ)) → first_greatest weight (weight x) xs ≡ found →
        int_lt floor (weight x) ≡ true → Some (unwrap_or found x) ≡ Some counts → StandsFirst weight floor (x ∷ xs) counts
    or_later further None n t s =
        let same : x ≡ counts = cc in
        subst (StandsFirst weight floor (x ∷ xs)) same (record { before = []; after = xs; whole = refl; above = t; lighter = tt; no_heavier = none_above weight (weight x) xs n })
    or_later further (Some z) n t s =
        let same : z ≡ counts = cc in let later = further z n in
        subst (StandsFirst weight floor (x ∷ xs)) same (record {
          before = x ∷ later.before;
          after = later.after;
          whole = ap (λ ys. x ∷ ys) later.whole;
          above = above_above floor (weight x) (weight z) t later.above;
          lighter = (later.above, later.lighter);
          no_heavier = later.no_heavier;
        })

    by : (b : Bool) → int_lt floor (weight x) ≡ b → ((z : List ℕ) → first_greatest weight (weight x) xs ≡ Some z → StandsFirst weight (weight x) xs z) →
        (first_greatest weight floor xs ≡ Some counts → StandsFirst weight floor xs counts) →
        cond b (Some (unwrap_or (first_greatest weight (weight x) xs) x)) (first_greatest weight floor xs) ≡ Some counts → StandsFirst weight floor (x ∷ xs) counts
    by true t further rest s = or_later further (first_greatest weight (weight x) xs) refl t s
    by false t further rest s =
        let later = rest s in record {
          before = x ∷ later.before;
          after = later.after;
          whole = ap (λ ys. x ∷ ys) later.whole;
          above = later.above;
          lighter = (below_above floor (weight x) (weight counts) t later.above, later.lighter);
          no_heavier = later.no_heavier;
        }

-- ---- pricing

-- x weighs at most as much as `counts`, and less if it comes before `counts`
abbrev IsBehind : (List ℕ → ℤ) → List ℕ → List ℕ → Type 0
IsBehind weight counts x = (int_lt (weight counts) (weight x) ≡ false) × (comes_before x counts ≡ true → int_lt (weight x) (weight counts) ≡ true)

behind : (weight : List ℕ → ℤ) (floor : ℤ) (xs : List (List ℕ)) (counts : List ℕ) → Ordered xs → StandsFirst weight floor xs counts → AllByRecursion (IsBehind weight counts) xs
behind weight floor xs counts ordered stands =
    subst (AllByRecursion (IsBehind weight counts)) (sym stands.whole)
    (each_append (IsBehind weight counts) stands.before (counts ∷ stands.after)
    (each_map (λ x. int_lt (weight x) (weight counts) ≡ true) (IsBehind weight counts) (λ x l. (not_less (weight x) (weight counts) l, λ e. l)) stands.before stands.lighter) (
      (not_itself (weight counts), λ e. absurd (not_back counts counts e e)),
      later stands.after stands.no_heavier (ordered_after stands.before stands.after counts (subst Ordered stands.whole ordered)),
    ))
  where
    not_less : (a b : ℤ) → int_lt a b ≡ true → int_lt b a ≡ false
    not_less a b e = by (int_lt b a) refl
      where
        by : (t : Bool) → int_lt b a ≡ t → t ≡ false
        by false f = refl
        by true f = absurd (omega (arith, lt-true a b e, lt-true b a f))

    not_itself : (a : ℤ) → int_lt a a ≡ false
    not_itself a = by (int_lt a a) refl
      where
        by : (t : Bool) → int_lt a a ≡ t → t ≡ false
        by false f = refl
        by true f = absurd (omega (arith, lt-true a a f))

    later : (ys : List (List ℕ)) → AllByRecursion (λ x. int_lt (weight counts) (weight x) ≡ false) ys → AllByRecursion (λ y. comes_before counts y ≡ true) ys → AllByRecursion (IsBehind weight counts) ys
    later [] h k = tt
    later (y ∷ ys) h k = ((h.0, λ e. absurd (not_back counts y k.0 e)), later ys h.1 k.1)

module _ (all : Classes) (closed : List Row) (row : Row) where
  -- the compositions that attain the closed rows
  abbrev sought : List (List ℕ)
  sought = filter (attains closed) (compositions all)

  pub price_found : (counts : List ℕ) → price all closed row ≡ Some counts → Qualifies all closed row counts
  price_found counts e =
      let stands = stands_first (weight_in row.a) row.b sought counts e in
      let each = filtered (Contains (compositions all)) (attains closed) (compositions all) (each_itself (compositions all)) in
      let here = among stands.before stands.after (subst (AllByRecursion (λ x. Contains (compositions all) x × (attains closed x ≡ true))) stands.whole each) in
      record { composition = here.0; attained = here.1; above = stands.above }
    where
      among : (xs ys : List (List ℕ)) → AllByRecursion (λ x. Contains (compositions all) x × (attains closed x ≡ true)) (xs ++ counts ∷ ys) → Contains (compositions all) counts × (attains closed counts ≡ true)
      among [] ys h = h.0
      among (x ∷ xs) ys h = among xs ys h.1

  pub price_none : (counts : List ℕ) → price all closed row ≡ None → Contains (compositions all) counts → attains closed counts ≡ true → int_lt row.b (weight_in row.a counts) ≡ false
  price_none counts n there attained =
      each_contains (λ x. int_lt row.b (weight_in row.a x) ≡ false) sought counts (none_above (weight_in row.a) row.b sought n) (contains_filter (attains closed) (compositions all) counts there attained)

  pub price_best : (counts : List ℕ) → price all closed row ≡ Some counts → IsBest all closed row counts
  price_best counts e = record {
    qualifies = price_found counts e;
    none_heavier = λ other q. at_most (weight_in row.a other) (weight_in row.a counts) (behind_of other q).0;
    first = λ other q before. (behind_of other q).1 before;
  }
    where
      behind_of : (other : List ℕ) → Qualifies all closed row other → IsBehind (weight_in row.a) counts other
      behind_of other q =
          each_contains (IsBehind (weight_in row.a) counts) sought other
          (behind (weight_in row.a) row.b sought counts (compositions_ordered all (attains closed)) (stands_first (weight_in row.a) row.b sought counts e))
          (contains_filter (attains closed) (compositions all) other q.composition q.attained)

      at_most : (a b : ℤ) → int_lt b a ≡ false → int_le a b ≡ true
      at_most a b f = sym (true_is_le a b (omega (arith, lt-false b a f)))

  pub price_none_where : price all closed row ≡ None ↔ ((counts : List ℕ) → Qualifies all closed row counts → ⊥)
  price_none_where = (λ n counts q. conflict (price_none counts n q.composition q.attained) q.above, λ none. by none (price all closed row) refl)
    where
      conflict : {b : Bool} → b ≡ false → b ≡ true → ⊥
      conflict e f = cc

      by : ((counts : List ℕ) → Qualifies all closed row counts → ⊥) → (found : Option (List ℕ)) → price all closed row ≡ found → price all closed row ≡ None
      by none None e = e
      by none (Some counts) e = absurd (none counts (price_found counts e))
