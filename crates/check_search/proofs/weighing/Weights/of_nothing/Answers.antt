use Rattle.std.proofs.Common.{rules, ◌≡◌, ◌+◌, length, replicate, ap, arith, ◌∙◌, pos}
use Rattle.std.proofs.lemmas.List.{get_or-replicate, length-replicate}
use Rattle.define_searches.specs.Weights.{at}
use Rattle.define_searches.proofs.WeightLaws.{weighs_none}
use Rattle.check_search.proofs.weighing.Weights.of_nothing.Goals as goal

pub returns : goal.returns
returns c =
    let all = c.args.classes.now in
    let zero : c.in_ok-by_length.by_length.items ≡ replicate (length c.entries.result.now + 1) (pos 0) = search rules in
    let long : length c.in_ok-by_length.by_length.items ≡ length all.classes + 1 = ap length zero ∙ length-replicate (length c.entries.result.now + 1) (pos 0) ∙ ap (λ xs. length xs + 1) c.entries.ensures ∙ ap (λ n. n + 1) c.requires.one_each in
    let none : at c.in_ok-by_length.by_length.items 0 ≡ pos 0 = ap (λ xs. at xs 0) zero ∙ get_or-replicate (length c.entries.result.now + 1) 0 (pos 0) (pos 0) (omega arith) in
    weighs_none all c.args.row.now _ long none
