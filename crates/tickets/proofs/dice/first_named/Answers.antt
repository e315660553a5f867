use Rattle.std.proofs.Common.{◌*◌, ◌/◌, ◌+◌, ◌<◌, ℤ, ap, ◌∙◌, arith}
use Rattle.std.specs.Prelude.{Ok, Result}
use Rattle.std.proofs.lemmas.Int.{to_z_pos}
use Rattle.define_draws.specs.declared.Named.{Named}
use Rattle.define_draws.specs.declared.DiceStop.{DiceStop}
use Rattle.tickets.proofs.Groups.{most_groups, named_below, names, names_nothing, some_digits}
use Rattle.tickets.proofs.dice.first_named.Goals as goal
use mir.Syntax.{w128}

pub overflow_mul-accepted : goal.overflow_mul-accepted
overflow_mul-accepted c = let most = most_groups c.args.total c.args.groups c.requires.groups in omega arith

pub nonzero_div-place-end : goal.nonzero_div-place-end
nonzero_div-place-end c = let some = some_digits c.args.total c.args.groups c.requires.groups in omega arith

pub returns-then-group-accepted-clause-named : goal.returns-then-group-accepted-clause-named
returns-then-group-accepted-clause-named c =
    let groups = c.args.groups in
    let place = c.loop-place.place in
    let group = c.group_at-group.result in
    let less : group < c.args.total * groups.groups_per_ticket = omega arith in
    let below = named_below c.args.total group groups c.requires.groups c.requires.some less in
    let stored = to_z_pos w128 (group / groups.groups_per_ticket) (omega (arith, below, c.requires.most)) in
    let used = (place + 1) * groups.size in
    ap (λ (t : ℤ). let named : Named = record { ticket = t; used = used } in let r : Result Named DiceStop = Ok named in r) stored
    ∙ names c.args.total groups c.args.digits.now c.requires.groups place group c.loop-place-test.true c.group_at-group.ensures less c.loop-place.invariant

pub returns-clause-named : goal.returns-clause-named
returns-clause-named c = names_nothing c.args.total c.args.groups c.args.digits.now c.requires.groups c.loop-place.place c.loop-place-test.false c.loop-place.invariant
