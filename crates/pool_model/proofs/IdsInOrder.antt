-- Ids that are in order, and an id that follows the last of them: it is new, and with it they are in order.
use Rattle.std.proofs.Common.{◌≡◌, ℕ, zero, suc, ◌-◌, ◌≤◌, Bool, true, false, cond, eqb, ltb, ◌&&◌, ◌||◌, List, [], ◌∷◌, ◌++◌, length, Some, refl, sym, ap, ◌∙◌, subst, arith}
use Rattle.std.specs.List.{slice_get}
use Rattle.std.specs.Str.{bytes_eq}
use Rattle.std.specs.Cmp.{IsTotalOrder}
use Rattle.std.specs.Cmp.Lexicographic.{slice_cmp, slice_partial_cmp}
use Rattle.std.specs.declared.cmp.Ordering.{Ordering}
use Rattle.std.specs.declared.cmp.Ordering.TheVariants.{Less, Equal, Greater}
use Rattle.std.specs.Ordering.{MatchOrdering, nat_cmp, then_cmp, on, is_lt, is_some_and, ordering_then}
use Rattle.std.proofs.lemmas.Cmp.{nat_cmp_total, nat_list_cmp_total, then_total, on_total, tied_itself, same_from_slice_cmp_tested}
use Rattle.std.proofs.lemmas.Bool.{and_parts, and_from, or_from, false_from_ne_true, false≢true, ltb-true, eq-eqb}
use Rattle.std.proofs.lemmas.List.{map_push}
use Rattle.std.proofs.lemmas.Slice.Eq.{bytes_eq-Decides}
use Rattle.define_pools.specs.Lists.{includes_list}
use Rattle.define_pools.specs.Pool.{Volunteer}
use Rattle.define_pools.specs.Building.{ids, with_household}
use Rattle.pool_model.specs.IdOrder.{precedes, follows_last, are_in_order}

abbrev compared : List ℕ → List ℕ → Ordering
compared = then_cmp (on length nat_cmp) (slice_cmp nat_cmp)

compared_total : IsTotalOrder compared
compared_total = then_total (on_total length nat_cmp_total) nat_list_cmp_total

is_less : (o : Ordering) → is_lt o ≡ true → o ≡ Less
is_less Less h = refl
is_less Equal h = cc
is_less Greater h = cc

precedes_trans : (xs ys zs : List ℕ) → precedes xs ys ≡ true → precedes ys zs ≡ true → precedes xs zs ≡ true
precedes_trans xs ys zs h k = ap is_lt (compared_total.trans xs ys zs (is_less (compared xs ys) h) (is_less (compared ys zs) k))

precedes_differs : (xs ys : List ℕ) → precedes xs ys ≡ true → bytes_eq ys xs ≡ false
precedes_differs xs ys h =
    let not_itself : precedes xs xs ≡ false = ap is_lt (tied_itself compared_total xs) in
    false_from_ne_true (bytes_eq ys xs) (λ e. let same : ys ≡ xs = (bytes_eq-Decides ys xs).0 e in false≢true (sym not_itself ∙ subst (λ zs. precedes xs zs ≡ true) same h))

first_precedes : (first : List ℕ) (later : List (List ℕ)) (id : List ℕ) → are_in_order (first ∷ later) ≡ true → follows_last (first ∷ later) id ≡ true → precedes first id ≡ true
first_precedes first [] id h k = k
first_precedes first (next ∷ later) id h k =
    let parts = and_parts (precedes first next) (are_in_order (next ∷ later)) h in
    precedes_trans first next id parts.0 (first_precedes next later id parts.1 k)

pub is_new : (known : List (List ℕ)) (id : List ℕ) → are_in_order known ≡ true → follows_last known id ≡ true → includes_list known id ≡ false
is_new [] id h k = refl
is_new (last ∷ []) id h k = or_from (bytes_eq id last) false (precedes_differs last id k) refl
is_new (first ∷ (next ∷ later)) id h k =
    let parts = and_parts (precedes first next) (are_in_order (next ∷ later)) h in
    or_from (bytes_eq id first) (includes_list (next ∷ later) id) (precedes_differs first id (first_precedes first (next ∷ later) id h k)) (is_new (next ∷ later) id parts.1 k)

appended : (known : List (List ℕ)) (id : List ℕ) → are_in_order known ≡ true → follows_last known id ≡ true → are_in_order (known ++ id ∷ []) ≡ true
appended [] id h k = refl
appended (last ∷ []) id h k = and_from (precedes last id) true k refl
appended (first ∷ (next ∷ later)) id h k =
    let parts = and_parts (precedes first next) (are_in_order (next ∷ later)) h in
    and_from (precedes first next) (are_in_order ((next ∷ later) ++ id ∷ [])) parts.0 (appended (next ∷ later) id parts.1 k)

-- `in_order` says that the ids are in order, and `follows` whether the new one follows the last
pub stay_in_order : (volunteers : List Volunteer) (volunteer : Volunteer) (in_order follows : Bool) → (in_order ≡ true → are_in_order (ids volunteers) ≡ true) → follows ≡ follows_last (ids volunteers) volunteer.id →
    (in_order && follows) ≡ true → are_in_order (ids (volunteers ++ volunteer ∷ [])) ≡ true
stay_in_order volunteers volunteer in_order follows known is h =
    let parts = and_parts in_order follows h in
    rw (map_push (λ (v : Volunteer). v.id) volunteers volunteer) (appended (ids volunteers) volunteer.id (known parts.0) (sym is ∙ parts.1))

follows_at : (n : ℕ) (volunteers : List Volunteer) (volunteer : Volunteer) (id : List ℕ) → length volunteers ≡ suc n → Some volunteer ≡ slice_get volunteers n → follows_last (ids volunteers) id ≡ precedes volunteer.id id
follows_at n [] volunteer id e h = absurd (omega arith)
follows_at zero (first ∷ []) volunteer id e h = cc
follows_at zero (first ∷ (next ∷ later)) volunteer id e h = absurd (omega arith)
follows_at (suc n) (first ∷ []) volunteer id e h = absurd (omega arith)
follows_at (suc n) (first ∷ (next ∷ later)) volunteer id e h = follows_at n (next ∷ later) volunteer id (omega arith) h

pub follows-from_slice_get : (volunteers : List Volunteer) (volunteer : Volunteer) (id : List ℕ) → Some volunteer ≡ slice_get volunteers (length volunteers - 1) → follows_last (ids volunteers) id ≡ precedes volunteer.id id
follows-from_slice_get [] volunteer id h = cc
follows-from_slice_get (first ∷ later) volunteer id h =
    let e : suc (length later) - 1 ≡ length later = omega arith in follows_at (length later) (first ∷ later) volunteer id refl (rw e at h)

compared_by_bytes : (x y : ℕ) (xs ys : List ℕ) (o : Ordering) → o ≡ nat_cmp x y →
    MatchOrdering o (is_lt (slice_cmp nat_cmp (x ∷ xs) (y ∷ ys)) ≡ is_lt Less) (is_lt (slice_cmp nat_cmp (x ∷ xs) (y ∷ ys)) ≡ is_lt (slice_cmp nat_cmp xs ys)) (is_lt (slice_cmp nat_cmp (x ∷ xs) (y ∷ ys)) ≡ is_lt Greater)
compared_by_bytes x y xs ys Less h = ap (λ o. is_lt (ordering_then o (slice_cmp nat_cmp xs ys))) (sym h)
compared_by_bytes x y xs ys Equal h = ap (λ o. is_lt (ordering_then o (slice_cmp nat_cmp xs ys))) (sym h)
compared_by_bytes x y xs ys Greater h = ap (λ o. is_lt (ordering_then o (slice_cmp nat_cmp xs ys))) (sym h)

-- what `<` finds of two texts
is_below : (xs ys : List ℕ) (r : Bool) → r ≡ is_some_and is_lt (slice_partial_cmp (λ x y. Some (nat_cmp x y)) xs ys) → r ≡ is_lt (slice_cmp nat_cmp xs ys)
is_below = same_from_slice_cmp_tested nat_cmp is_lt (λ xs ys. is_lt (slice_cmp nat_cmp xs ys)) refl (λ _ _. refl) (λ _ _. refl) compared_by_bytes

by_both : (shorter alike : Bool) (o : Ordering) → (shorter || (alike && is_lt o)) ≡ is_lt (ordering_then (cond shorter Less (cond alike Equal Greater)) o)
by_both true alike o = refl
by_both false true o = refl
by_both false false o = refl

precedes_tested : (xs ys : List ℕ) (r : Bool) → r ≡ is_some_and is_lt (slice_partial_cmp (λ x y. Some (nat_cmp x y)) xs ys) →
    (ltb (length xs) (length ys) || (eqb (length xs) (length ys) && r)) ≡ precedes xs ys
precedes_tested xs ys r h =
    ap (λ below. ltb (length xs) (length ys) || (eqb (length xs) (length ys) && below)) (is_below xs ys r h)
    ∙ by_both (ltb (length xs) (length ys)) (eqb (length xs) (length ys)) (slice_cmp nat_cmp xs ys)

pub precedes_alike : (xs ys : List ℕ) (r : Bool) → length ys ≤ length xs → length xs ≡ length ys → r ≡ is_some_and is_lt (slice_partial_cmp (λ x y. Some (nat_cmp x y)) xs ys) → r ≡ precedes xs ys
precedes_alike xs ys r h k tested =
    let not_shorter : ltb (length xs) (length ys) ≡ false = false_from_ne_true (ltb (length xs) (length ys)) (λ e. absurd (omega (arith, ltb-true (length xs) (length ys) e))) in
    let alike : eqb (length xs) (length ys) ≡ true = eq-eqb (length xs) (length ys) k in
    sym (ap (λ shorter. shorter || (eqb (length xs) (length ys) && r)) not_shorter ∙ ap (λ b. b && r) alike) ∙ precedes_tested xs ys r tested

pub ids-housed : (volunteers : List Volunteer) (number : ℕ) (name : List ℕ) → ids (with_household volunteers number name) ≡ ids volunteers
ids-housed [] number name = refl
ids-housed (volunteer ∷ volunteers) zero name = refl
ids-housed (volunteer ∷ volunteers) (suc number) name = ap (λ rest. volunteer.id ∷ rest) (ids-housed volunteers number name)
