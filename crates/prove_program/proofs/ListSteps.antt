-- Loops that map, filter and number a list: what one more element adds to the result.
use Rattle.std.proofs.Common.{◌≡◌, ℕ, ◌+◌, ◌<◌, Bool, true, false, cond, List, [], ◌∷◌, ◌++◌, map, filter, take, length, get_or, sym, ap, ap₂, ◌∙◌, arith}
use Rattle.std.specs.List.{enumerate_from, range_with_len}
use Rattle.std.proofs.lemmas.List.{append-nil, append_assoc, map_push, take_more}
use Rattle.std.proofs.lemmas.List.Elements.{filter-append}
use Rattle.std.proofs.lemmas.List.FromFn.{get_or-enumerate_from}
use Rattle.define_pools.proofs.Lists.{numbers_more}

-- element `k` of a numbered list is `k` with element `k` of the list
pub numbered_at : {X : Type 0} (xs : List X) (k : ℕ) (x : X) → k < length xs → x ≡ get_or xs k x → get_or (enumerate_from 0 xs) k (k, x) ≡ (k, x)
numbered_at xs k x l e = get_or-enumerate_from 0 xs k (k, x) l ∙ ap₂ (λ n y. (n, y)) (let at : 0 + k ≡ k = omega arith in at) (sym e)

-- ---- one more element, which passes the filter or doesn't

filter_more : {X : Type 0} (p : X → Bool) (xs : List X) (x : X) → p x ≡ true → filter p (xs ++ x ∷ []) ≡ filter p xs ++ x ∷ []
filter_more p xs x t = filter-append p xs (x ∷ []) ∙ ap (λ b. filter p xs ++ cond b (x ∷ []) []) t

filter_same : {X : Type 0} (p : X → Bool) (xs : List X) (x : X) → p x ≡ false → filter p (xs ++ x ∷ []) ≡ filter p xs
filter_same p xs x f = filter-append p xs (x ∷ []) ∙ ap (λ b. filter p xs ++ cond b (x ∷ []) []) f ∙ append-nil (filter p xs)

taken_more : {X : Type 0} (xs : List X) (k : ℕ) (x : X) → k < length xs → get_or xs k x ≡ x → take (k + 1) xs ≡ take k xs ++ x ∷ []
taken_more xs k x l e = take_more xs k x l ∙ ap (λ y. take k xs ++ y ∷ []) e

pub passing_taken : {X Y : Type 0} (f : X → Y) (p : X → Bool) (xs : List X) (k : ℕ) (x : X) (old new : List Y) (y : Y) → k < length xs → get_or xs k x ≡ x → p x ≡ true → y ≡ f x →
    new ≡ old ++ y ∷ [] → old ≡ map f (filter p (take k xs)) → new ≡ map f (filter p (take (k + 1) xs))
passing_taken f p xs k x old new y l e t is added so_far =
    added ∙ ap₂ (λ old y. old ++ y ∷ []) so_far is ∙ sym (ap (λ xs. map f (filter p xs)) (taken_more xs k x l e) ∙ ap (map f) (filter_more p (take k xs) x t) ∙ map_push f (filter p (take k xs)) x)

pub passing_left : {X Y : Type 0} (f : X → Y) (p : X → Bool) (xs : List X) (k : ℕ) (x : X) (old new : List Y) → k < length xs → get_or xs k x ≡ x → p x ≡ false →
    new ≡ old → old ≡ map f (filter p (take k xs)) → new ≡ map f (filter p (take (k + 1) xs))
passing_left f p xs k x old new l e t same so_far =
    same ∙ so_far ∙ sym (ap (λ xs. map f (filter p xs)) (taken_more xs k x l e) ∙ ap (map f) (filter_same p (take k xs) x t))

-- ---- one more element of a list whose mapped elements come after `before`

behind : {X Y : Type 0} (f : X → Y) (before here : List Y) (old new : List X) (x : X) → new ≡ old ++ x ∷ [] → map f old ≡ before ++ here → map f new ≡ before ++ (here ++ f x ∷ [])
behind f before here old new x added so_far =
    ap (map f) added ∙ map_push f old x ∙ ap (λ ys. ys ++ f x ∷ []) so_far ∙ append_assoc before here (f x ∷ [])

pub mapped_more : {X Y Z : Type 0} (f : X → Y) (g : Z → Y) (before : List Y) (zs : List Z) (k : ℕ) (z : Z) (old new : List X) (x : X) → k < length zs → get_or zs k z ≡ z → f x ≡ g z →
    new ≡ old ++ x ∷ [] → map f old ≡ before ++ map g (take k zs) → map f new ≡ before ++ map g (take (k + 1) zs)
mapped_more f g before zs k z old new x l e is added so_far =
    behind f before (map g (take k zs)) old new x added so_far
    ∙ ap (λ ys. before ++ ys) (ap (λ y. map g (take k zs) ++ y ∷ []) is ∙ sym (ap (map g) (taken_more zs k z l e) ∙ map_push g (take k zs) z))

pub passing_more : {X Y : Type 0} (f : X → Y) (g : ℕ → Y) (p : ℕ → Bool) (before : List Y) (k : ℕ) (old new : List X) (x : X) → p k ≡ true → f x ≡ g k →
    new ≡ old ++ x ∷ [] → map f old ≡ before ++ map g (filter p (range_with_len 0 k)) → map f new ≡ before ++ map g (filter p (range_with_len 0 (k + 1)))
passing_more f g p before k old new x t is added so_far =
    let here = range_with_len 0 k in
    behind f before (map g (filter p here)) old new x added so_far
    ∙ ap (λ ys. before ++ ys) (ap (λ y. map g (filter p here) ++ y ∷ []) is ∙ sym (ap (λ xs. map g (filter p xs)) (numbers_more k) ∙ ap (map g) (filter_more p here k t) ∙ map_push g (filter p here) k))

pub passing_none : {X Y : Type 0} (f : X → Y) (g : ℕ → Y) (p : ℕ → Bool) (before : List Y) (k : ℕ) (old new : List X) → p k ≡ false →
    new ≡ old → map f old ≡ before ++ map g (filter p (range_with_len 0 k)) → map f new ≡ before ++ map g (filter p (range_with_len 0 (k + 1)))
passing_none f g p before k old new t same so_far =
    ap (map f) same ∙ so_far ∙ ap (λ ys. before ++ map g ys) (sym (ap (filter p) (numbers_more k) ∙ filter_same p (range_with_len 0 k) k t))
