use Rattle.std.proofs.Common.{◌≡◌, pos, length, ◌∙◌, rules, FitsSigned}
use Rattle.std.specs.Int.{w128}
use Rattle.std.proofs.lemmas.Int.{to_z-of_z}
use Rattle.check_proofs.proofs.Coefficients.{for_everybody}
use Rattle.check_proofs.proofs.constraints.one_of.Goals as goal

pub returns : goal.returns
returns c =
    let fits : FitsSigned w128 c.one_if.result = search rules in
    to_z-of_z w128 c.one_if.result fits ∙ c.one_if.ensures ∙ for_everybody (length c.args.volunteers.now) c.args.i
