use Rattle.std.proofs.Common.{rules, ◌≡◌, ◌+◌, ◌-◌, ◌*◌, length, ap, arith, ◌∙◌, pos, FitsSigned}
use Rattle.std.specs.Int.{w128}
use Rattle.std.proofs.lemmas.Int.{to_z-of_z}
use Rattle.std.proofs.lemmas.List.{get_or_read}
use Rattle.define_searches.specs.Weights.{at, cell_of}
use Rattle.define_searches.proofs.WeightLaws.{cell_within}
use Rattle.panel_search.proofs.greatest.Sums.greatest_of.Goals as goal

pub returns : goal.returns
returns c =
    let all = c.args.classes.now in let table = c.args.self.now.cells.items in let later = length all.classes - c.args.place in
    let fits : FitsSigned w128 c.index.result.now = search rules in
    let cell : (length c.classes.result.now - c.args.place) * (c.size.result + 1) + c.args.count ≡ cell_of all later c.args.count =
    ap (λ cs. (length cs - c.args.place) * (c.size.result + 1) + c.args.count) c.classes.ensures ∙ ap (λ n. later * (n + 1) + c.args.count) c.size.ensures in
    let within = cell_within all later c.args.count c.args.row.now.a table c.requires.sums (omega arith) c.requires.count in
    let read : c.index.result.now ≡ at table ((length c.classes.result.now - c.args.place) * (c.size.result + 1) + c.args.count) = get_or_read table _ _ (omega (arith, within, cell)) c.index.ensures (pos 0) in
    let value = read ∙ ap (at table) cell ∙ c.requires.sums.each later c.args.place c.args.count (omega (arith, c.requires.place)) (omega (arith, c.requires.place)) c.requires.count in
    simp to_z-of_z value
