use Rattle.std.proofs.Common.{◌∙◌, sym}
use Rattle.office_tables.proofs.KeptParts.{ids_from_pairs, pairs_from_ids}
use Rattle.office_tables.proofs.checking.have_ids.Goals as goal

pub returns-then-volunteers-register : goal.returns-then-volunteers-register
returns-then-volunteers-register c =
    let volunteers = c.args.volunteers.now in let register = c.args.register.now in
    ((λ h. ids_from_pairs volunteers register c.if-volunteers-register.true (sym c.ids_agree.ensures ∙ h)), (λ e. c.ids_agree.ensures ∙ (pairs_from_ids volunteers register e).1))
