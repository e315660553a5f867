use Rattle.std.proofs.Common.{◌+◌, ◌*◌, ◌^◌, get_or, arith}
use Rattle.std.specs.Prelude.{sum}
use Rattle.define_draws.specs.Dice.{group_size, names_row, groups_per_ticket}
use Rattle.define_draws.specs.Tickets.{first_ticket}
use Rattle.define_draws.proofs.DiceLemmas.{between-named, count_between, named-between, groups_per_ticket-some, groups_per_ticket-within, to-within}
use Rattle.define_draws.proofs.dice_are_fair.Goals as goal

pub returns-clause-exactly : goal.returns-clause-exactly
returns-clause-exactly c weights row group inside some =
    (named-between weights row inside some group, λ h. between-named weights row inside some group h.0 h.1)

pub returns-clause-groups : goal.returns-clause-groups
returns-clause-groups c weights row inside some = omega (arith, to-within weights row inside some, groups_per_ticket-within (sum weights))

pub returns-clause-some : goal.returns-clause-some
returns-clause-some c = groups_per_ticket-some

pub returns-clause-count : goal.returns-clause-count
returns-clause-count c weights row inside some =
    let m = groups_per_ticket (sum weights) in
    let first = first_ticket weights row in
    let weight = get_or weights row 0 in
    let counted = count_between (names_row weights row) (m * first) (m * (first + weight)) (named-between weights row inside some) (between-named weights row inside some)
    0 (10 ^ group_size (sum weights)) (omega (arith, to-within weights row inside some, groups_per_ticket-within (sum weights))) in
    omega (arith, counted)
