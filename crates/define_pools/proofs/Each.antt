-- Facts of each element of a list, by recursion: elements that pass a test, lists that are mapped, filtered or joined, and ranges of
-- numbers.
use Rattle.std.proofs.Common.{◌≡◌, ◌≢◌, ℕ, zero, suc, ◌+◌, ◌≤◌, ◌<◌, Bool, true, false, cond, List, [], ◌∷◌, ◌++◌, map, filter, length, get_or, slice_get, Some, ltb, refl, sym, ◌∙◌, subst, arith, le_of_eq, ⊎_elim}
use Rattle.std.specs.List.{list_all, AllByRecursion, enumerate_from, flat_map, range_with_len}
use Rattle.std.proofs.lemmas.Bool.{and_from, and_parts, cases_eq, false≢true, ltb-true}
use Rattle.std.proofs.lemmas.List.Concat.{flat_map-cons}
use Rattle.std.proofs.lemmas.List.{get_or_default}

pub each_map : {X : Type 0} (P Q : X → Type 0) → ((x : X) → P x → Q x) → (xs : List X) → AllByRecursion P xs → AllByRecursion Q xs
each_map P Q f [] h = tt
each_map P Q f (x ∷ xs) h = (f x h.0, each_map P Q f xs h.1)

pub each_both : {X : Type 0} (P Q : X → Type 0) (xs : List X) → AllByRecursion P xs → AllByRecursion Q xs → AllByRecursion (λ x. P x × Q x) xs
each_both P Q [] h k = tt
each_both P Q (x ∷ xs) h k = ((h.0, k.0), each_both P Q xs h.1 k.1)

pub each_everywhere : {X : Type 0} (P : X → Type 0) → ((x : X) → P x) → (xs : List X) → AllByRecursion P xs
each_everywhere P f [] = tt
each_everywhere P f (x ∷ xs) = (f x, each_everywhere P f xs)

-- if P holds of each element, it holds of the element at place `k`
pub each_at : {X : Type 0} (P : X → Type 0) (xs : List X) (k : ℕ) (x : X) → AllByRecursion P xs → k < length xs → x ≡ get_or xs k x → P x
each_at P [] k x each l e = absurd (omega arith)
each_at P (y ∷ xs) zero x each l e = subst P (sym e) each.0
each_at P (y ∷ xs) (suc k) x each l e = each_at P xs k x each.1 (omega arith) e

pub each_slice_get : {X : Type 0} (P : X → Type 0) (xs : List X) (k : ℕ) (x : X) → AllByRecursion P xs → slice_get xs k ≡ Some x → P x
each_slice_get P [] k x each e = absurd cc
each_slice_get P (y ∷ xs) zero x each e = let same : y ≡ x = cc in subst P same each.0
each_slice_get P (y ∷ xs) (suc k) x each e = each_slice_get P xs k x each.1 e

-- ---- tests of all elements

pub each_from_list_all : {X : Type 0} (p : X → Bool) (xs : List X) → list_all p xs ≡ true → AllByRecursion (λ x. p x ≡ true) xs
each_from_list_all p [] h = tt
each_from_list_all p (x ∷ xs) h =
    let parts = and_parts (p x) (list_all p xs) h in (parts.0, each_from_list_all p xs parts.1)

pub list_all_from_each : {X : Type 0} (p : X → Bool) (xs : List X) → AllByRecursion (λ x. p x ≡ true) xs → list_all p xs ≡ true
list_all_from_each p [] h = refl
list_all_from_each p (x ∷ xs) h = and_from (p x) (list_all p xs) h.0 (list_all_from_each p xs h.1)

pub list_all_equal : {X : Type 0} (p q : X → Bool) → ((x : X) → p x ≡ q x) → (xs : List X) → list_all p xs ≡ list_all q xs
list_all_equal p q e [] = refl
list_all_equal p q e (x ∷ xs) = rw (e x, list_all_equal p q e xs) refl

pub list_all_implies : {X : Type 0} (p q : X → Bool) → ((x : X) → p x ≡ true → q x ≡ true) → (xs : List X) → list_all p xs ≡ true → list_all q xs ≡ true
list_all_implies p q f [] h = refl
list_all_implies p q f (x ∷ xs) h =
    let parts = and_parts (p x) (list_all p xs) h in and_from (q x) (list_all q xs) (f x parts.0) (list_all_implies p q f xs parts.1)

pub list_all-push : {X : Type 0} (p : X → Bool) (xs : List X) (x : X) → list_all p xs ≡ true → p x ≡ true → list_all p (xs ++ x ∷ []) ≡ true
list_all-push p [] x h k = and_from (p x) true k refl
list_all-push p (y ∷ ys) x h k =
    let parts = and_parts (p y) (list_all p ys) h in and_from (p y) (list_all p (ys ++ x ∷ [])) parts.0 (list_all-push p ys x parts.1 k)

-- if all elements pass a test, the element at place `k` does
pub passes_at : {X : Type 0} (p : X → Bool) (xs : List X) (k : ℕ) (d : X) → list_all p xs ≡ true → k < length xs → p (get_or xs k d) ≡ true
passes_at p xs k d h l = each_at (λ x. p x ≡ true) xs k (get_or xs k d) (each_from_list_all p xs h) l (get_or_default xs k d (get_or xs k d) l)

pub below_at : (n : ℕ) (xs : List ℕ) (k : ℕ) → list_all (λ i. ltb i n) xs ≡ true → k < length xs → get_or xs k 0 < n
below_at n xs k h l = ltb-true (get_or xs k 0) n (passes_at (λ i. ltb i n) xs k 0 h l)

-- ---- lists that are joined and mapped

pub each_left : {X : Type 0} (P : X → Type 0) (xs ys : List X) → AllByRecursion P (xs ++ ys) → AllByRecursion P xs
each_left P [] ys h = tt
each_left P (x ∷ xs) ys h = (h.0, each_left P xs ys h.1)

pub each_right : {X : Type 0} (P : X → Type 0) (xs ys : List X) → AllByRecursion P (xs ++ ys) → AllByRecursion P ys
each_right P [] ys h = h
each_right P (x ∷ xs) ys h = each_right P xs ys h.1

pub each_append : {X : Type 0} (P : X → Type 0) (xs ys : List X) → AllByRecursion P xs → AllByRecursion P ys → AllByRecursion P (xs ++ ys)
each_append P [] ys h k = k
each_append P (x ∷ xs) ys h k = (h.0, each_append P xs ys h.1 k)

pub each_mapped : {X Y : Type 0} (P : Y → Type 0) (f : X → Y) (xs : List X) → AllByRecursion (λ x. P (f x)) xs → AllByRecursion P (map f xs)
each_mapped P f [] h = tt
each_mapped P f (x ∷ xs) h = (h.0, each_mapped P f xs h.1)

pub each_of_map : {X Y : Type 0} (P : Y → Type 0) (f : X → Y) (xs : List X) → AllByRecursion P (map f xs) → AllByRecursion (λ x. P (f x)) xs
each_of_map P f [] h = tt
each_of_map P f (x ∷ xs) h = (h.0, each_of_map P f xs h.1)

pub each_flat_map : {X Y : Type 0} (P : Y → Type 0) (f : X → List Y) (xs : List X) → AllByRecursion (λ x. AllByRecursion P (f x)) xs → AllByRecursion P (flat_map f xs)
each_flat_map P f [] h = tt
each_flat_map P f (x ∷ xs) h = subst (AllByRecursion P) (sym (flat_map-cons f x xs)) (each_append P (f x) (flat_map f xs) h.0 (each_flat_map P f xs h.1))

-- ---- lists that are filtered

pub each_filter : {X : Type 0} (P : X → Type 0) (p : X → Bool) (xs : List X) → AllByRecursion (λ x. p x ≡ true → P x) xs → AllByRecursion P (filter p xs)
each_filter P p [] h = tt
each_filter P p (x ∷ xs) h =
    let rest = each_filter P p xs h.1 in
    (elim (p x) as (λ b. p x ≡ b → AllByRecursion P (cond b (x ∷ filter p xs) (filter p xs))) [
      | true ↦ λ e. (h.0 e, rest)
      | false ↦ λ e. rest
    ]) refl

pub each_from_filter : {X : Type 0} (P : X → Type 0) (p : X → Bool) (xs : List X) → AllByRecursion P (filter p xs) → AllByRecursion (λ x. p x ≡ true → P x) xs
each_from_filter P p [] h = tt
each_from_filter P p (x ∷ xs) h =
    (elim (p x) as (λ b. p x ≡ b → AllByRecursion P (cond b (x ∷ filter p xs) (filter p xs)) → (p x ≡ true → P x) × AllByRecursion (λ x. p x ≡ true → P x) xs) [
      | true ↦ λ e h. (λ _. h.0, each_from_filter P p xs h.1)
      | false ↦ λ e h. (λ t. absurd (false≢true (sym e ∙ t)), each_from_filter P p xs h)
    ]) refl h

pub each_filter_passes : {X : Type 0} (P : X → Type 0) (p : X → Bool) → ((x : X) → p x ≡ true → P x) → (xs : List X) → AllByRecursion P (filter p xs)
each_filter_passes P p f xs = each_filter P p xs (each_everywhere (λ x. p x ≡ true → P x) f xs)

pub none_pass : {X : Type 0} (p : X → Bool) (xs : List X) → AllByRecursion (λ x. p x ≡ false) xs → filter p xs ≡ []
none_pass p [] h = refl
none_pass p (x ∷ xs) h = let e = h.0 in let rest = none_pass p xs h.1 in rw e rest

-- ---- ranges of numbers

pub each_range : (P : ℕ → Type 0) (first count : ℕ) → ((k : ℕ) → first ≤ k → k < first + count → P k) → AllByRecursion P (range_with_len first count)
each_range P first zero h = tt
each_range P first (suc count) h = (h first (le_of_eq refl) (omega arith), each_range P (first + 1) count (λ k l m. h k (omega arith) (omega arith)))

pub range_each : (P : ℕ → Type 0) (first count k : ℕ) → AllByRecursion P (range_with_len first count) → first ≤ k → k < first + count → P k
range_each P first zero k h l m = absurd (omega arith)
range_each P first (suc count) k h l m =
    ⊎_elim (λ (e : k ≡ first). subst P (sym e) h.0) (λ (e : k ≢ first). range_each P (first + 1) count k h.1 (omega arith) (omega arith)) (cases_eq k first)

-- ---- lists whose elements are numbered

pub list_all-enumerated : {X : Type 0} (p : ℕ × X → Bool) (first : ℕ) (xs : List X) (d : X) → ((k : ℕ) → k < length xs → p (first + k, get_or xs k d) ≡ true) → list_all p (enumerate_from first xs) ≡ true
list_all-enumerated p first [] d f = refl
list_all-enumerated {X} p first (x ∷ xs) d f =
    let here : first + 0 ≡ first = omega arith in
    and_from (p (first, x)) (list_all p (enumerate_from (first + 1) xs)) (subst (λ n. p (n, x) ≡ true) here (f 0 (omega arith)))
    (list_all-enumerated p (first + 1) xs d (λ k l. let next : first + suc k ≡ (first + 1) + k = omega arith in subst (λ n. p (n, get_or xs k d) ≡ true) next (f (suc k) (omega arith))))

pub enumerated-each : {X : Type 0} (p : ℕ × X → Bool) (first : ℕ) (xs : List X) → list_all p (enumerate_from first xs) ≡ true → (k : ℕ) (d : X) → k < length xs → p (first + k, get_or xs k d) ≡ true
enumerated-each p first [] h k d l = absurd (omega arith)
enumerated-each p first (x ∷ xs) h zero d l =
    let here : first ≡ first + 0 = omega arith in
    subst (λ n. p (n, x) ≡ true) here (and_parts (p (first, x)) (list_all p (enumerate_from (first + 1) xs)) h).0
enumerated-each p first (x ∷ xs) h (suc k) d l =
    let next : (first + 1) + k ≡ first + suc k = omega arith in
    subst (λ n. p (n, get_or xs k d) ≡ true) next (enumerated-each p (first + 1) xs (and_parts (p (first, x)) (list_all p (enumerate_from (first + 1) xs)) h).1 k d (omega arith))
