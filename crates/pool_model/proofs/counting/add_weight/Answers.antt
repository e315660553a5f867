use Rattle.std.proofs.Common.{rules, ◌≡◌, ℕ, zero, suc, ◌+◌, ◌<◌, true, false, cond, ◌||◌, eqb, ltb, List, [], ◌∷◌, length, take, get_or, set, ℤ, pos, ◌+ℤ◌, refl, sym, ap, ◌∙◌, arith, ⊎_elim}
use Rattle.std.specs.List.{list_all}
use Rattle.std.proofs.lemmas.Bool.{and_parts, eq-eqb, ne_eqb, ltb-true, cases_eq}
use Rattle.std.proofs.lemmas.List.{get_or-set_same, get_or-set_other, length-set}
use Rattle.std.proofs.lemmas.List.Folds.{list_any_more}
use Rattle.std.proofs.lemmas.Int.{to_z-of_z}
use Rattle.std.proofs.Math.Bool.{or-true, or-false}
use Rattle.define_pools.proofs.Each.{passes_at}
use mir.Val.{SFits, to_z, of_z}
use mir.Syntax.{w128}
use Rattle.define_pools.specs.Lists.{includes, is_increasing}
use Rattle.pool_model.proofs.counting.add_weight.Goals as goal
use Rattle.pool_model.proofs.counting.add_weight.Goals.{then-i-chances, else-i-chances}

-- a member of an increasing list is not among those before it
not_before : (xs : List ℕ) (j : ℕ) → is_increasing xs ≡ true → j < length xs → includes (take j xs) (get_or xs j 0) ≡ false
not_before [] j h l = absurd (omega arith)
not_before (x ∷ xs) zero h l = refl
not_before (x ∷ xs) (suc j) h l =
    let parts = and_parts (list_all (λ y. ltb x y) xs) (is_increasing xs) h in
    let less = ltb-true x (get_or xs j 0) (passes_at (λ y. ltb x y) xs j 0 parts.0 (omega arith)) in
    let other : eqb x (get_or xs j 0) ≡ false = ne_eqb x (get_or xs j 0) (λ e. omega arith) in
    let rest = not_before xs j parts.1 (omega arith) in rw (other, rest) refl

-- `xs` is `before` with `weight` added at each place that is a member
abbrev AddedTo : List ℤ → List ℤ → List ℕ → ℤ → Type 0
AddedTo before xs members weight =
    (k : ℕ) → k < length xs → get_or xs k (pos 0) ≡ cond (includes members k) (get_or before k (pos 0) +ℤ weight) (get_or before k (pos 0))

-- the turn of the loop that adds the weight at member j
module _ (before xs : List ℤ) (members : List ℕ) (weight : ℤ) (j : ℕ) (up : is_increasing members ≡ true) (inside : j < length members) (added : AddedTo before xs (take j members) weight) where
  abbrev member : ℕ
  member = get_or members j 0

  pub as_before : member < length xs → get_or xs member (pos 0) ≡ get_or before member (pos 0)
  as_before l =
      added (get_or members j 0) l
      ∙ ap (λ b. cond b (get_or before (get_or members j 0) (pos 0) +ℤ weight) (get_or before (get_or members j 0) (pos 0))) (not_before members j up inside)

  -- at other places than member j nothing changes
  pub other_number : (k : ℕ) → k < length xs → (k ≡ member → ⊥) →
      get_or xs k (pos 0) ≡ cond (includes (take (j + 1) members) k) (get_or before k (pos 0) +ℤ weight) (get_or before k (pos 0))
  other_number k l apart =
      let e : eqb (get_or members j 0) k ≡ false = ne_eqb (get_or members j 0) k (λ e. apart (sym e)) in
      let more : includes (take (j + 1) members) k ≡ includes (take j members) k =
      list_any_more (λ x. eqb x k) members j 0 inside ∙ (ap (λ b. includes (take j members) k || b) e ∙ or-false (includes (take j members) k)) in
      added k l ∙ ap (λ b. cond b (get_or before k (pos 0) +ℤ weight) (get_or before k (pos 0))) (sym more)

  pub this_number : (k : ℕ) → k ≡ member →
      get_or before k (pos 0) +ℤ weight ≡ cond (includes (take (j + 1) members) k) (get_or before k (pos 0) +ℤ weight) (get_or before k (pos 0))
  this_number k same =
      let e : eqb (get_or members j 0) k ≡ true = eq-eqb (get_or members j 0) k (sym same) in
      let more : includes (take (j + 1) members) k ≡ true =
      list_any_more (λ x. eqb x k) members j 0 inside ∙ (ap (λ b. includes (take j members) k || b) e ∙ or-true (includes (take j members) k)) in
      ap (λ b. cond b (get_or before k (pos 0) +ℤ weight) (get_or before k (pos 0))) (sym more)

  -- after the turn, the weight is added at the first j + 1 members
  pub written : member < length xs → AddedTo before (set xs member (get_or xs member (pos 0) +ℤ weight)) (take (j + 1) members) weight
  written room k l =
      let m = get_or members j 0 in
      let size : length (set xs m (get_or xs m (pos 0) +ℤ weight)) ≡ length xs = length-set xs m (get_or xs m (pos 0) +ℤ weight) in
      ⊎_elim
      (λ (same : k ≡ m).
      ap (λ i. get_or (set xs m (get_or xs m (pos 0) +ℤ weight)) i (pos 0)) same ∙ (get_or-set_same xs m (get_or xs m (pos 0) +ℤ weight) (pos 0) room
      ∙ (ap (λ z. z +ℤ weight) (as_before room ∙ ap (λ i. get_or before i (pos 0)) (sym same)) ∙ this_number k same)))
      (λ (apart : k ≡ m → ⊥). get_or-set_other xs m k (get_or xs m (pos 0) +ℤ weight) (pos 0) apart ∙ other_number k (omega (arith, size)) apart)
      (cases_eq k m)

-- a number after it was stored in 128 bits
abbrev stored : ℤ → ℤ
stored z = to_z w128 (of_z w128 z)

sum_fits : (x a w : ℤ) → SFits w128 x → SFits w128 w → x ≡ a → SFits w128 (a +ℤ w) → SFits w128 (stored x +ℤ stored w)
sum_fits x a w f g e room = rw (to_z-of_z w128 x f, to_z-of_z w128 w g, e) room

sum_stored : (x a w : ℤ) → SFits w128 x → SFits w128 w → x ≡ a → SFits w128 (a +ℤ w) → stored (stored x +ℤ stored w) ≡ x +ℤ stored w
sum_stored x a w f g e room = to_z-of_z w128 (stored x +ℤ stored w) (sum_fits x a w f g e room) ∙ ap (λ z. z +ℤ stored w) (to_z-of_z w128 x f)

pub overflow_add-chances : goal.overflow_add-chances
overflow_add-chances c =
    let m = get_or c.args.members.now c.loop-i.i-index 0 in
    let same = as_before c.args.chances.now c.loop-i.chances c.args.members.now (stored c.args.weight) c.loop-i.i-index c.requires.increasing c.loop-i-test.true c.loop-i.invariant c.if-i-chances.true in
    let fits : SFits w128 (get_or c.loop-i.chances m (pos 0)) = search rules in
    sum_fits (get_or c.loop-i.chances m (pos 0)) (get_or c.args.chances.now m (pos 0)) c.args.weight fits c.ranges.weight same (c.requires.room m (omega arith))

pub loop-i-preserved : goal.loop-i-preserved
loop-i-preserved c k l =
    let weight = stored c.args.weight in
    let before = c.args.chances.now in
    let xs = c.loop-i.chances in
    let members = c.args.members.now in
    let j = c.loop-i.i-index in
    let m = get_or members j 0 in
    elim c.if-i-chances.branch [
      | then-i-chances w ↦
          let fits : SFits w128 (get_or xs m (pos 0)) = search rules in
          let same = as_before before xs members weight j c.requires.increasing c.loop-i-test.true c.loop-i.invariant w.if-i-chances.true in
          let sum = sum_stored (get_or xs m (pos 0)) (get_or before m (pos 0)) c.args.weight fits c.ranges.weight same (c.requires.room m (omega arith)) in
          ap (λ ys. get_or ys k (pos 0)) (w.chances-is ∙ ap (set xs m) sum)
          ∙ written before xs members weight j c.requires.increasing c.loop-i-test.true c.loop-i.invariant w.if-i-chances.true k (omega (arith, length-set xs m (get_or xs m (pos 0) +ℤ weight)))
      | else-i-chances w ↦
          ap (λ ys. get_or ys k (pos 0)) w.chances-is
          ∙ other_number before xs members weight j c.requires.increasing c.loop-i-test.true c.loop-i.invariant k (omega arith) (λ same. omega arith)
    ]
