use Rattle.std.proofs.Common.{◌∙◌, ap, unwrap_or}
use Rattle.define_lines.specs.Numbers.{number_up_to}
use Rattle.pool_text.proofs.SizeLine.{size_behind}
use Rattle.pool_text.proofs.progress.size_of.Goals as goal

pub returns-in-Some : goal.returns-in-Some
returns-in-Some c =
    c.unwrap_or.ensures ∙ (ap (λ o. unwrap_or o 0) (c.number_up_to.ensures ∙ ap (λ most. number_up_to most c.in-Some.field.now) c.members.ensures) ∙ size_behind c.args.limits c.args.line.now c.in-Some.field.now c.in-Some.ensures.cases.0 c.in-Some.ensures.cases.1)
