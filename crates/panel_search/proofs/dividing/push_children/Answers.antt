use Rattle.std.proofs.Common.{rules, ◌++◌, ap, ◌∙◌, FitsSigned}
use Rattle.std.specs.Int.{w128}
use Rattle.std.proofs.lemmas.Int.{to_z-of_z}
use Rattle.std.proofs.lemmas.Result.{on_ok_weaker}
use Rattle.panel_search.specs.Pieces.{live_among}
use Rattle.panel_search.specs.Steps.{counts_below}
use Rattle.panel_search.proofs.dividing.push_children.Goals as goal

pub returns : goal.returns
returns c =
    let all = c.args.terms.now.classes.now in let front = c.args.front.now in let closed = c.args.terms.now.closed.now in let row = c.args.terms.now.row.now in
    let fits : FitsSigned w128 c.side.result = search rules in
    let floor = c.begin-low.ensures.floor ∙ ap (λ told. told.floor) c.in_ok-search.ensures.pricing ∙ to_z-of_z w128 c.side.result fits ∙ c.side.ensures in
    on_ok_weaker c.push_children.result
    (λ e. e ∙ ap (λ floor. c.args.next.now.items ++ live_among all closed row floor front (counts_below c.begin-low.result.0 c.begin-low.result.1)) floor
    ∙ ap (λ xs. c.args.next.now.items ++ xs) c.begin-low.ensures.all)
    c.push_children.ensures
