-- The workers have one outcome for the place of each piece, and it is the outcome of this piece.
use Rattle.std.proofs.Common.{◌≡◌, ℕ, zero, suc, ◌+◌, ◌*◌, ◌/◌, ◌%◌, ◌<◌, ◌≤◌, true, false, ltb, ltb-true, List, [], ◌∷◌, ◌++◌, length, Some, Result, refl, sym, ap, subst, arith, mul-le-mul_right}
use Rattle.std.specs.Prelude.{slice_get, Vec, vec_items, IfOk, Ok, Err}
use Rattle.std.specs.declared.alloc.AllocError.{AllocError}
use Rattle.std.proofs.lemmas.List.{length-append}
use Rattle.std.specs.declared.alloc.Global.{Global}
use Rattle.std.proofs.Math.Nat.{mod-add-div', mod-lt}
use Rattle.std.proofs.lemmas.Bool.{ltb-false}
use Rattle.pricing_pool.specs.Outcomes.{AreOf, AreOfAll, AreTogether, HasAnswer, IsAnswer, Told}

-- if P holds of each element of `xs` at its place, and of `x` at the next place, it holds of each element of `xs ++ x ∷ []`
pub each_pushed : {X : Type 0} (P : ℕ → X → Type 0) (xs : List X) (x : X) → ((i : ℕ) (y : X) → slice_get xs i ≡ Some y → P i y) → P (length xs) x →
    (i : ℕ) (y : X) → slice_get (xs ++ x ∷ []) i ≡ Some y → P i y
each_pushed P [] x old new zero y e = let same : x ≡ y = cc in subst (P 0) same new
each_pushed P [] x old new (suc i) y e = absurd cc
each_pushed P (z ∷ xs) x old new zero y e = old 0 y e
each_pushed P (z ∷ xs) x old new (suc i) y e = each_pushed (λ j. P (suc j)) xs x (λ j w. old (suc j) w) new i y e

-- if P holds of each element of `xs` at its place, and of each of `ys` at the places after them, it holds of each element of `xs ++ ys`
each_of_both : {X : Type 0} (P : ℕ → X → Type 0) (xs ys : List X) → ((i : ℕ) (x : X) → slice_get xs i ≡ Some x → P i x) → ((i : ℕ) (y : X) → slice_get ys i ≡ Some y → P (length xs + i) y) →
    (i : ℕ) (z : X) → slice_get (xs ++ ys) i ≡ Some z → P i z
each_of_both P [] ys first second i z e = let same : 0 + i ≡ i = omega arith in subst (λ j. P j z) same (second i z e)
each_of_both P (x ∷ xs) ys first second zero z e = first 0 z e
each_of_both P (x ∷ xs) ys first second (suc i) z e =
    each_of_both (λ j. P (suc j)) xs ys (λ j w. first (suc j) w) (λ j w h. let same : length (x ∷ xs) + j ≡ suc (length xs + j) = omega arith in subst (λ k. P k w) same (second j w h)) i z e

module _ (answers : ℕ → Told → Type 0) (workers places : ℕ) where
  -- the outcomes of `half` workers from `from` on, followed by those of the next `others` workers, are the outcomes of all `count` of them
  pub of_both : (from half others count : ℕ) (xs ys : List (Vec Told Global)) → AreOfAll answers workers from half places xs → AreOfAll answers workers (from + half) others places ys → count ≡ half + others →
      length (xs ++ ys) ≡ length xs + length ys → AreOfAll answers workers from count places (xs ++ ys)
  of_both from half others count xs ys first second e lengths = record {
    one_each = omega (arith, lengths, first.one_each, second.one_each, e);
    each = each_of_both (λ j outcomes. AreOf answers workers (from + j) places (vec_items outcomes)) xs ys first.each
        (λ j outcomes h. let same : from + half + j ≡ from + (length xs + j) = omega (arith, first.one_each) in
        subst (λ k. AreOf answers workers k places (vec_items outcomes)) same (second.each j outcomes h));
  }

  module _ (all : List (Vec Told Global)) (are : AreOfAll answers workers 0 workers places all) (some : 1 ≤ workers) where
    worker_there : (place : ℕ) → place % workers < length all
    worker_there place = omega (arith, are.one_each, mod-lt place {m = workers} some)

    -- each place below `places` has an outcome
    pub has_answer : (place : ℕ) → place < places → HasAnswer all workers place
    has_answer place l = (
      worker_there place,
      λ outcomes e.
          let of = are.each (place % workers) outcomes e in
          let within : places ≤ place % workers + length (vec_items outcomes) * workers = omega (arith, of.all) in
          (elim (ltb (place / workers) (length (vec_items outcomes))) as (λ b. ltb (place / workers) (length (vec_items outcomes)) ≡ b → place / workers < length (vec_items outcomes)) [
            | true ↦ λ t. ltb-true (place / workers) (length (vec_items outcomes)) t
            | false ↦ λ f. absurd (omega (arith, within, l, mod-add-div' place workers, mul-le-mul_right workers (ltb-false (place / workers) (length (vec_items outcomes)) f)))
          ]) refl,
    )

    -- the outcome for a place is that of the piece at this place
    pub answers_piece : (place : ℕ) (told : Told) → IsAnswer all workers place told → answers place told
    answers_piece place told answer =
        let of = are.each (place % workers) answer.0 answer.1 in
        let same : 0 + place % workers + place / workers * workers ≡ place = omega (arith, mod-add-div' place workers) in
        subst (λ p. answers p told) same (of.each (place / workers) told answer.2)

-- a worker's next piece is `workers` places after the last one
pub next_place : (workers worker place many more : ℕ) → place ≡ worker + many * workers → more ≡ many + 1 → place + workers ≡ worker + more * workers
next_place workers worker place many more e f = omega (arith, e, ap (λ n. n * workers) f)

-- if `left` has the outcomes of `half` workers, `right` those of the next `others`, and neither failed, the result has those of all `count`
pub both_are : (answers : ℕ → Told → Type 0) (workers places from half others count : ℕ) (left right result : Result (Vec (Vec Told Global) Global) AllocError) → count ≡ half + others →
    IfOk result (λ all. AreTogether left right (vec_items all)) → IfOk left (λ all. AreOfAll answers workers from half places (vec_items all)) →
    IfOk right (λ all. AreOfAll answers workers (from + half) others places (vec_items all)) → IfOk result (λ all. AreOfAll answers workers from count places (vec_items all))
both_are answers workers places from half others count left right (Err stop) e together first second = tt
both_are answers workers places from half others count (Ok xs) (Ok ys) (Ok all) e together first second =
    subst (λ items. AreOfAll answers workers from count places items) (sym together)
    (of_both answers workers places from half others count (vec_items xs) (vec_items ys) first second e (length-append (vec_items xs) (vec_items ys)))
both_are answers workers places from half others count (Ok xs) (Err stop) (Ok all) e together first second = absurd together
both_are answers workers places from half others count (Err stop) right (Ok all) e together first second = absurd together
