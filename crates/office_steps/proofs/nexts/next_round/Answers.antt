use Rattle.std.proofs.Common.{◌≤◌, length, sym, arith}
use Rattle.office_steps.proofs.NamedRounds.{named_within}
use Rattle.office_steps.proofs.nexts.next_round.Goals as goal

pub overflow_add-after : goal.overflow_add-after
overflow_add-after c =
    let within = named_within c.args.tables.now.rounds c.args.after c.in-Some.round.now (sym c.in-Some.ensures) in
    let rounds : c.args.after ≤ length c.rounds.result.now = rw c.rounds.ensures within in
    grind arith
