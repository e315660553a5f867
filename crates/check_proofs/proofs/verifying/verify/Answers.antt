use Rattle.std.proofs.Common.{sym, ap, ap₂, ◌∙◌}
use Rattle.define_proofs.specs.ProofVerdict.{OfLottery, OfNoPanel}
use Rattle.proof_text.specs.Parts.{seen}
use Rattle.check_proofs.proofs.Shown.{greatest, no_panel}
use Rattle.check_proofs.proofs.verifying.verify.Goals as goal

pub returns-in-Lottery-clause-greatest : goal.returns-in-Lottery-clause-greatest
returns-in-Lottery-clause-greatest c =
    let bundle = c.in-Lottery.bundle in
    let trees = c.deref.result.now in
    greatest c.args.proof.now (OfLottery c.pool.result.now c.answer.result.now trees)
    (ap₂ (λ pool answer. OfLottery pool answer trees) c.pool.ensures c.answer.ensures.value ∙ ap (OfLottery bundle.pool bundle.answer) c.deref.ensures.value ∙ ap seen (sym c.in-Lottery.is) ∙ c.parts.ensures)
    c.facts.ensures c.of_lottery.result c.of_lottery.ensures

pub returns-in-NoPanel-clause-none : goal.returns-in-NoPanel-clause-none
returns-in-NoPanel-clause-none c =
    no_panel c.args.proof.now (OfNoPanel c.in-NoPanel.pool c.lines.result.now)
    (ap (OfNoPanel c.in-NoPanel.pool) c.lines.ensures ∙ ap seen (sym c.in-NoPanel.is) ∙ c.parts.ensures)
    c.facts.ensures c.of_no_panel.result c.of_no_panel.ensures
