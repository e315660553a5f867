use Rattle.std.proofs.Common.{◌∙◌, ◌||◌, ltb, ap, sym}
use Rattle.std.proofs.lemmas.Bool.{le-ltb, lt-ltb}
use Rattle.prove_program.proofs.CountedRows.{breaks_where}
use Rattle.prove_program.proofs.rows.can_break.Goals as goal

pub returns-then-least-demand : goal.returns-then-least-demand
returns-then-least-demand c number =
    let demand = c.args.demand.now in let least = c.reach-least.result.0 in let greatest = c.reach-least.result.1 in
    let t = lt-ltb least demand.lower c.if-least-demand.true in
    t ∙ sym (breaks_where c.args.pool.now demand c.args.columns.now least greatest number c.requires.columns.firsts c.reach-least.ensures.least c.reach-least.ensures.greatest ∙ ap (λ b. b || ltb demand.upper greatest) t)

pub returns-else-least-demand : goal.returns-else-least-demand
returns-else-least-demand c number =
    let demand = c.args.demand.now in let least = c.reach-least.result.0 in let greatest = c.reach-least.result.1 in
    let f = le-ltb least demand.lower c.if-least-demand.false in
    sym (breaks_where c.args.pool.now demand c.args.columns.now least greatest number c.requires.columns.firsts c.reach-least.ensures.least c.reach-least.ensures.greatest ∙ ap (λ b. b || ltb demand.upper greatest) f)
