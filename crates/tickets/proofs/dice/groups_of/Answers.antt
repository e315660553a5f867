use Rattle.std.proofs.Common.{◌≡◌, ◌/◌, ◌^◌, ap, ◌∙◌, arith}
use Rattle.define_draws.specs.Dice.{group_size}
use Rattle.tickets.proofs.Groups.{exponent-below, is_group_size, small-power}
use Rattle.tickets.proofs.dice.groups_of.Goals as goal

pub overflow_mul-count : goal.overflow_mul-count
overflow_mul-count c =
    let power = c.loop-count.invariant.power in
    let few = exponent-below c.loop-count.size (omega arith) in
    let small = small-power c.loop-count.size few in omega arith

pub returns : goal.returns
returns c =
    let loop = c.loop-count.invariant in
    let size : c.loop-count.size ≡ group_size c.args.total = is_group_size c.args.total c.loop-count.size loop.some (omega arith) loop.smaller in
    record { size = size; few = loop.few; groups_per_ticket = ap (λ n. n / c.args.total) (loop.power ∙ ap (λ s. 10 ^ s) size) }
