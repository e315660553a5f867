-- Laws on the element at a place of a list, if an element is replaced or appended, and on `FirstHave`.
use Rattle.std.proofs.Common.{◌≡◌, ℕ, zero, suc, ◌+◌, ◌<◌, Bool, true, false, eqb, List, [], ◌∷◌, ◌++◌, length, set, Some, refl, sym, ap, ◌∙◌, arith, subst, length-append, ◌⊎◌, inl, inr}
use Rattle.std.specs.Prelude.{slice_get}
use Rattle.std.specs.List.{list_all}
use Rattle.std.proofs.lemmas.Bool.{and_from, eqb-true, eqb-false}
use Rattle.define_searches.specs.Beside.{FirstHave}

pub get_set_same : {X : Type 0} (xs : List X) (i j : ℕ) (x y : X) → j ≡ i → slice_get (set xs i x) j ≡ Some y → y ≡ x
get_set_same [] i j x y e h = cc
get_set_same (z ∷ zs) zero zero x y e h = cc
get_set_same (z ∷ zs) zero (suc j) x y e h = absurd (omega arith)
get_set_same (z ∷ zs) (suc i) zero x y e h = absurd (omega arith)
get_set_same (z ∷ zs) (suc i) (suc j) x y e h = get_set_same zs i j x y (omega arith) h

pub get_set_other : {X : Type 0} (xs : List X) (i j : ℕ) (x : X) → (j ≡ i → ⊥) → slice_get (set xs i x) j ≡ slice_get xs j
get_set_other [] i j x e = refl
get_set_other (z ∷ zs) zero zero x e = absurd (e refl)
get_set_other (z ∷ zs) zero (suc j) x e = refl
get_set_other (z ∷ zs) (suc i) zero x e = refl
get_set_other (z ∷ zs) (suc i) (suc j) x e = get_set_other zs i j x (λ h. e (ap suc h))

pub same_at : {X : Type 0} (xs : List X) (i j : ℕ) (x y : X) → i ≡ j → slice_get xs i ≡ Some x → slice_get xs j ≡ Some y → y ≡ x
same_at xs i j x y e h k = let l = ap (slice_get xs) e in cc

pub each_passes : {X : Type 0} (p : X → Bool) (xs : List X) → ((i : ℕ) (x : X) → slice_get xs i ≡ Some x → p x ≡ true) → list_all p xs ≡ true
each_passes p [] f = refl
each_passes p (x ∷ xs) f = and_from (p x) (list_all p xs) (f 0 x refl) (each_passes p xs (λ i y e. f (suc i) y e))

-- If the first k elements satisfy `p`, and so does the next one, the first k + 1 elements do.
pub each_next : {X : Type 0} (p : X → Bool) (xs : List X) (k : ℕ) (x : X) → slice_get xs k ≡ Some x → p x ≡ true → ((i : ℕ) (y : X) → i < k → slice_get xs i ≡ Some y → p y ≡ true) →
    (i : ℕ) (y : X) → i < k + 1 → slice_get xs i ≡ Some y → p y ≡ true
each_next p xs k x here passes earlier i y l e =
    (elim (eqb i k) as (λ b. eqb i k ≡ b → p y ≡ true) [
      | true ↦ λ t. let is : y ≡ x = same_at xs k i x y (sym (eqb-true i k t)) here e in ap p is ∙ passes
      | false ↦ λ t. let other = eqb-false i k t in earlier i y (omega (arith, l, other)) e
    ]) refl

pub get_pushed : {X : Type 0} (xs : List X) (x y : X) (i : ℕ) → slice_get (xs ++ x ∷ []) i ≡ Some y → (i < length xs) × (slice_get xs i ≡ Some y) ⊎ (i ≡ length xs) × (y ≡ x)
get_pushed [] x y zero e = inr (refl, cc)
get_pushed [] x y (suc i) e = cc
get_pushed (z ∷ zs) x y zero e = inl (omega arith, e)
get_pushed (z ∷ zs) x y (suc i) e = elim (get_pushed zs x y i e) [
  | inl h ↦ inl (omega (arith, h.0), h.1)
  | inr h ↦ inr (omega (arith, h.0), h.1)
]

-- If `FirstHave` holds of the first `done` elements, and P holds of the next element `x` of `xs` and `y`, it holds of the first `done + 1`
-- once `y` is appended to `ys`.
pub first_more : {X Y : Type 0} {P : X → Y → Type 0} (xs : List X) (done : ℕ) (ys : List Y) (x : X) (y : Y) → FirstHave P xs done ys → slice_get xs done ≡ Some x → P x y → FirstHave P xs (done + 1) (ys ++ y ∷ [])
first_more {P = P} xs done ys x y to here has = record {
  long = omega (arith, to.long, length-append ys (y ∷ []));
  each = λ i r w e f. elim (get_pushed ys y w i f) [
    | inl h ↦ to.each i r w e h.1
    | inr h ↦
        let is : r ≡ x = same_at xs done i x r (sym (h.0 ∙ to.long)) here e in
        subst (λ q. P q w) (sym is) (subst (P x) (sym h.1) has)
  ];
}
