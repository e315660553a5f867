use Rattle.std.proofs.Common.{◌≡◌, ◌+◌, ◌++◌, ◌∷◌, [], ℕ, Bool, true, false, List, filter, get_or, sym, ap, ◌∙◌}
use Rattle.std.specs.List.{range_with_len}
use Rattle.define_pools.proofs.Lists.{filter_taken, filter_passed}
use Rattle.alike.proofs.arcs.numbers.Goals as goal
use Rattle.alike.proofs.arcs.numbers.Goals.{then-is_given+in_ok-push, else-is_given}

-- if `number` is marked, the marked numbers below `number + 1` are those below `number`, and `number`
with_one : (given : List Bool) (number : ℕ) (before after new : List ℕ) → after ≡ new → new ≡ before ++ number ∷ [] → before ≡ filter (λ i. get_or given i false) (range_with_len 0 number) → get_or given number false ≡ true →
    after ≡ filter (λ i. get_or given i false) (range_with_len 0 (number + 1))
with_one given number before after new same pushed e marked =
    same ∙ pushed ∙ ap (λ xs. xs ++ number ∷ []) e ∙ sym (filter_taken (λ i. get_or given i false) number marked)

-- if `number` isn't marked, the marked numbers below `number + 1` are those below `number`
without : (given : List Bool) (number : ℕ) (before after : List ℕ) → after ≡ before → before ≡ filter (λ i. get_or given i false) (range_with_len 0 number) → get_or given number false ≡ false →
    after ≡ filter (λ i. get_or given i false) (range_with_len 0 (number + 1))
without given number before after same e marked =
    same ∙ e ∙ sym (filter_passed (λ i. get_or given i false) number marked)

pub loop-number-preserved : goal.loop-number-preserved
loop-number-preserved c =
    elim c.if-is_given.branch [
      | then-is_given+in_ok-push w ↦ with_one c.args.given.now c.loop-number.number c.loop-number.numbers.items c.if-is_given.numbers.items w.push.new.self.items (ap (λ v. v.items) w.numbers-is) w.in_ok-push.ensures.items c.loop-number.invariant w.if-is_given.true
      | else-is_given w ↦ without c.args.given.now c.loop-number.number c.loop-number.numbers.items c.if-is_given.numbers.items (ap (λ v. v.items) w.numbers-is) c.loop-number.invariant w.if-is_given.false
    ]
