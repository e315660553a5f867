use Rattle.std.proofs.Common.{◌≡◌, ℕ, List, ◌+◌, ◌-◌, ◌<◌, get_or, map, length, arith, sym}
use Rattle.std.proofs.lemmas.Bool.{false_from_ne_true}
use Rattle.std.proofs.lemmas.List.{length-map}
use Rattle.define_pools.specs.Lists.{is_increasing}
use Rattle.define_pools.proofs.Increasing.{is_increasing-from_neighbours, neighbours-from_is_increasing}
use Rattle.define_proofs.specs.Leaves.{Multiplier}
use Rattle.proof_text.proofs.ranges.are_in_order.Goals as goal

pub returns-then-number_at : goal.returns-then-number_at
returns-then-number_at c =
    let numbers : List ℕ = map (λ (m : Multiplier). m.number) c.args.multipliers.now in
    let many : length numbers ≡ length c.args.multipliers.now = length-map c.args.multipliers.now (λ (m : Multiplier). m.number) in
    sym (false_from_ne_true (is_increasing numbers) (λ up.
    let i = c.loop-i.i in let e : i - 1 + 1 ≡ i = omega arith in
    let rise = neighbours-from_is_increasing numbers up (i - 1) (omega arith) in
    let here : get_or numbers (i - 1) 0 < get_or numbers i 0 = rw e at rise in
    omega (arith, here)))

pub returns : goal.returns
returns c =
    let numbers : List ℕ = map (λ (m : Multiplier). m.number) c.args.multipliers.now in
    let many : length numbers ≡ length c.args.multipliers.now = length-map c.args.multipliers.now (λ (m : Multiplier). m.number) in
    sym (is_increasing-from_neighbours numbers (λ k l. c.loop-i.invariant k (omega arith)))
