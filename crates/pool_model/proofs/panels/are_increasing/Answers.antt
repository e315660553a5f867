use Rattle.std.proofs.Common.{◌≡◌, ◌+◌, ◌-◌, ◌<◌, get_or, arith, sym}
use Rattle.std.proofs.lemmas.Bool.{false_from_ne_true}
use Rattle.define_pools.specs.Lists.{is_increasing}
use Rattle.define_pools.proofs.Increasing.{is_increasing-from_neighbours, neighbours-from_is_increasing}
use Rattle.pool_model.proofs.panels.are_increasing.Goals as goal

pub returns-then-members-i : goal.returns-then-members-i
returns-then-members-i c = sym (false_from_ne_true (is_increasing c.args.members.now) (λ up.
    let i = c.loop-i.i in let e : i - 1 + 1 ≡ i = omega arith in
    let rise = neighbours-from_is_increasing c.args.members.now up (i - 1) (omega arith) in
    let here : get_or c.args.members.now (i - 1) 0 < get_or c.args.members.now i 0 = rw e at rise in
    omega arith))

pub returns : goal.returns
returns c = sym (is_increasing-from_neighbours c.args.members.now (λ k l. c.loop-i.invariant k (omega arith)))
