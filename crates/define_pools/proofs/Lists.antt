-- Lists that are mapped or filtered, and lists whose elements are numbered.
use Rattle.std.proofs.Common.{◌≡◌, ℕ, zero, suc, ◌+◌, ◌<◌, Bool, true, false, cond, List, [], ◌∷◌, ◌++◌, map, filter, length, get_or, slice_get, Some, refl, sym, ap, ap₂, ◌∙◌, arith}
use Rattle.std.specs.List.{AllByRecursion, enumerate_from, range_with_len}
use Rattle.std.specs.Prelude.{count_by}
use Rattle.std.proofs.lemmas.List.Sums.{count_by-le-length, sum_by-cons}
use Rattle.std.proofs.lemmas.List.{append-nil}
use Rattle.std.proofs.lemmas.List.Elements.{filter-append}
use Rattle.std.proofs.lemmas.Option.{slice_get-get_or}

pub map_same : {X Y : Type 0} (f g : X → Y) (xs : List X) → AllByRecursion (λ x. f x ≡ g x) xs → map f xs ≡ map g xs
map_same f g [] h = refl
map_same f g (x ∷ xs) h = ap₂ (λ y ys. y ∷ ys) h.0 (map_same f g xs h.1)

pub filter_same : {X : Type 0} (p q : X → Bool) (xs : List X) → AllByRecursion (λ x. p x ≡ q x) xs → filter p xs ≡ filter q xs
filter_same p q [] h = refl
filter_same p q (x ∷ xs) h = ap₂ (λ b rest. cond b (x ∷ rest) rest) h.0 (filter_same p q xs h.1)

pub map-map : {X Y Z : Type 0} (g : Y → Z) (f : X → Y) (xs : List X) → map g (map f xs) ≡ map (λ x. g (f x)) xs
map-map g f [] = refl
map-map g f (x ∷ xs) = ap (λ ys. g (f x) ∷ ys) (map-map g f xs)

-- if `x` is the element at place `k`, `slice_get` returns it there
pub slice_get-at : {X : Type 0} (xs : List X) (k : ℕ) (d x : X) → k < length xs → x ≡ get_or xs k d → slice_get xs k ≡ Some x
slice_get-at xs k d x l e = slice_get-get_or xs k d l ∙ ap Some (sym e)

pub length-enumerate_from : {X : Type 0} (first : ℕ) (xs : List X) → length (enumerate_from first xs) ≡ length xs
length-enumerate_from first [] = refl
length-enumerate_from first (x ∷ xs) = ap suc (length-enumerate_from (first + 1) xs)

pub get_or-enumerate_from : {X : Type 0} (first : ℕ) (xs : List X) (t : ℕ) (d : ℕ × X) (e : X) → t < length xs → get_or (enumerate_from first xs) t d ≡ (first + t, get_or xs t e)
get_or-enumerate_from first [] t d e l = absurd (omega arith)
get_or-enumerate_from {X} first (x ∷ xs) zero d e l = let same : first ≡ first + 0 = omega arith in ap (λ n. let pair : ℕ × X = (n, x) in pair) same
get_or-enumerate_from {X} first (x ∷ xs) (suc t) d e l =
    get_or-enumerate_from (first + 1) xs t d e (omega arith)
    ∙ (let same : (first + 1) + t ≡ first + suc t = omega arith in ap (λ n. let pair : ℕ × X = (n, get_or xs t e) in pair) same)

-- a range that is one number longer ends with `first + count`
pub range-more : (first count : ℕ) → range_with_len first (suc count) ≡ range_with_len first count ++ (first + count) ∷ []
range-more first zero = let e : first ≡ first + 0 = omega arith in ap (λ k. k ∷ []) e
range-more first (suc count) =
    let e : (first + 1) + count ≡ first + suc count = omega arith in
    ap (λ ks. first ∷ ks) (range-more (first + 1) count ∙ ap (λ k. range_with_len (first + 1) count ++ k ∷ []) e)

pub numbers_more : (n : ℕ) → range_with_len 0 (n + 1) ≡ range_with_len 0 n ++ n ∷ []
numbers_more n =
    let next : n + 1 ≡ suc n = omega arith in let at : 0 + n ≡ n = omega arith in
    ap (range_with_len 0) next ∙ range-more 0 n ∙ ap (λ k. range_with_len 0 n ++ k ∷ []) at

-- if `n` passes, the filtered numbers up to `n` are the filtered numbers below `n`, and then `n`
pub filter_taken : (p : ℕ → Bool) (n : ℕ) → p n ≡ true → filter p (range_with_len 0 (n + 1)) ≡ filter p (range_with_len 0 n) ++ n ∷ []
filter_taken p n t = ap (filter p) (numbers_more n) ∙ filter-append p (range_with_len 0 n) (n ∷ []) ∙ ap (λ b. filter p (range_with_len 0 n) ++ cond b (n ∷ []) []) t

-- if `n` doesn't pass, the filtered numbers up to `n` are the filtered numbers below `n`
pub filter_passed : (p : ℕ → Bool) (n : ℕ) → p n ≡ false → filter p (range_with_len 0 (n + 1)) ≡ filter p (range_with_len 0 n)
filter_passed p n f =
    ap (filter p) (numbers_more n) ∙ filter-append p (range_with_len 0 n) (n ∷ []) ∙ ap (λ b. filter p (range_with_len 0 n) ++ cond b (n ∷ []) []) f
    ∙ append-nil (filter p (range_with_len 0 n))

-- if two tests agree on all numbers below the end of a range, filtering the range by either leaves the same numbers
pub filter_range_same : (p q : ℕ → Bool) (first count : ℕ) → ((k : ℕ) → k < first + count → p k ≡ q k) → filter p (range_with_len first count) ≡ filter q (range_with_len first count)
filter_range_same p q first zero e = refl
filter_range_same p q first (suc count) e = rw (e first (omega arith), filter_range_same p q (first + 1) count (λ k l. e k (omega arith))) refl

-- if the number of true elements is the length of the list, each element is true
pub all_pass : (xs : List Bool) (t : ℕ) → count_by (λ b. b) xs ≡ length xs → t < length xs → get_or xs t false ≡ true
all_pass [] t e l = absurd (omega arith)
all_pass (false ∷ xs) t e l = absurd (omega (arith, sum_by-cons (λ (b : Bool). cond b 1 0) false xs, count_by-le-length (λ (b : Bool). b) xs))
all_pass (true ∷ xs) zero e l = refl
all_pass (true ∷ xs) (suc t) e l = all_pass xs t (omega (arith, sum_by-cons (λ (b : Bool). cond b 1 0) true xs)) (omega arith)
