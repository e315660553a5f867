use Rattle.std.proofs.Common.{◌≡◌, ◌*◌, ◌/◌, ◌%◌, ap, ◌∙◌, rules, unsigned_abs}
use Rattle.std.specs.Prelude.{FitsSigned}
use Rattle.std.specs.Int.{w128}
use Rattle.std.proofs.lemmas.Int.{to_z-of_z}
use Rattle.short_tickets.proofs.ShareLemmas.{remainder_is, whole_is}
use Rattle.short_tickets.proofs.shares.share_of.Goals as goal

pub returns-clause-whole : goal.returns-clause-whole
returns-clause-whole c =
    let fits : FitsSigned w128 c.weight.result = search rules in
    let weight : c.unsigned_abs.result ≡ c.args.row.now.weight = c.unsigned_abs.ensures.value ∙ ap unsigned_abs (to_z-of_z w128 c.weight.result fits ∙ c.weight.ensures) in
    whole_is c.args.total (c.unsigned_abs.result * c.args.tickets) c.share_of_weight.result c.share_of_weight.ensures.share
    ∙ ap (λ w. w * c.args.tickets / c.args.total) weight

pub returns-clause-remainder : goal.returns-clause-remainder
returns-clause-remainder c =
    let fits : FitsSigned w128 c.weight.result = search rules in
    let weight : c.unsigned_abs.result ≡ c.args.row.now.weight = c.unsigned_abs.ensures.value ∙ ap unsigned_abs (to_z-of_z w128 c.weight.result fits ∙ c.weight.ensures) in
    remainder_is c.args.total (c.unsigned_abs.result * c.args.tickets) c.share_of_weight.result c.share_of_weight.ensures.share
    ∙ ap (λ w. w * c.args.tickets % c.args.total) weight
