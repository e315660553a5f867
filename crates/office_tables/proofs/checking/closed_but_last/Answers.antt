use Rattle.std.proofs.Common.{◌<◌, ◌∙◌, length, sym, arith}
use Rattle.std.proofs.lemmas.Bool.Decides.{nat_tests}
use Rattle.office_tables.proofs.KeptParts.{closed_where_drops}
use Rattle.office_tables.proofs.checking.closed_but_last.Goals as goal

pub returns-then-not-is_empty : goal.returns-then-not-is_empty
returns-then-not-is_empty c =
    let some : 0 < length c.args.rounds.now = grind (arith, nat_tests) in
    c.have_drops.ensures ∙ sym (closed_where_drops c.args.rounds.now some)
