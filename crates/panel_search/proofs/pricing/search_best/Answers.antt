use Rattle.std.proofs.Common.{rules, ap, sym, ◌∙◌, arith, [], FitsSigned}
use Rattle.std.specs.Int.{w128}
use Rattle.std.proofs.lemmas.Int.{to_z-of_z}
use Rattle.panel_search.proofs.BestStepping.{none_entered}
use Rattle.panel_search.proofs.pricing.search_best.Goals as goal
use Rattle.define_searches.specs.Below.{search_from}

pub returns-then-nodes-eq0 : goal.returns-then-nodes-eq0
returns-then-nodes-eq0 c =
    let all = c.args.terms.now.classes.now in let closed = c.args.terms.now.closed.now in let row = c.args.terms.now.row.now in
    let told = c.in_ok-found.ensures in
    let fits : FitsSigned w128 c.side.result = search rules in
    let from = ap (λ floor. (search_from all closed row [] floor).visits) (to_z-of_z w128 c.side.result fits ∙ c.side.ensures) in
    let due = none_entered all closed row (omega (arith, told.2, c.if-visits-gt0.false, from)) in
    omega (arith, ap (λ now. now.visits) due, c.if-nodes-eq0.true)

pub returns : goal.returns
returns c =
    let all = c.args.terms.now.classes.now in let closed = c.args.terms.now.closed.now in let row = c.args.terms.now.row.now in
    let told = c.in_ok-found.ensures in
    let fits : FitsSigned w128 c.side.result = search rules in
    let from = ap (λ floor. (search_from all closed row [] floor).visits) (to_z-of_z w128 c.side.result fits ∙ c.side.ensures) in
    let due = none_entered all closed row (omega (arith, told.2, c.if-visits-gt0.false, from)) in
    (omega (arith, ap (λ now. now.visits) due, c.if-nodes-eq0.false), sym (ap (λ now. now.kept) due), omega (arith, ap (λ now. now.visits) due))
