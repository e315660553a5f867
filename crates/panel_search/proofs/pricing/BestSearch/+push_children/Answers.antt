use Rattle.std.proofs.Common.{◌-◌, ◌++◌, ◌∷◌, [], ap, sym, ◌∙◌, arith, append_assoc}
use Rattle.std.proofs.lemmas.List.{append-nil}
use Rattle.std.proofs.lemmas.Result.{on_ok_weaker}
use Rattle.panel_search.specs.Pieces.{live_among}
use Rattle.panel_search.specs.Steps.{counts_below}
use Rattle.panel_search.proofs.Division.{among_more, among_none}
use Rattle.panel_search.proofs.pricing.BestSearch.+push_children.Goals as goal

pub returns-then-end-low : goal.returns-then-end-low
returns-then-end-low t c =
    let all = c.args.terms.now.classes.now in let front = c.args.front.now in let closed = c.args.terms.now.closed.now in let row = c.args.terms.now.row.now in let before = c.args.children.now.items in
    sym (ap (λ xs. before ++ xs) (among_none all closed row c.args.self.now.floor front c.args.low c.args.end (omega (arith, c.if-end-low.true))) ∙ append-nil before)

pub returns : goal.returns
returns t c =
    let all = c.args.terms.now.classes.now in let front = c.args.front.now in let closed = c.args.terms.now.closed.now in let row = c.args.terms.now.row.now in let before = c.args.children.now.items in
    let here = live_among all closed row c.args.self.now.floor front ((c.args.end - 1) ∷ []) in
    let later = live_among all closed row c.args.self.now.floor front (counts_below c.args.low (c.args.end - 1)) in
    on_ok_weaker c.push_children.result
    (λ e. e ∙ ap (λ floor. c.push_child.new.children.items ++ live_among all closed row floor front (counts_below c.args.low (c.args.end - 1))) c.in_ok-push_child.ensures.floor
    ∙ ap (λ xs. xs ++ later) c.in_ok-push_child.ensures.children ∙ append_assoc before here later
    ∙ ap (λ xs. before ++ xs) (sym (among_more all closed row c.args.self.now.floor front c.args.low c.args.end (omega (arith, c.if-end-low.false)))))
    c.push_children.ensures
