use Rattle.std.proofs.Common.{◌≡◌, sym, subst}
use Rattle.std.specs.Prelude.{IfOk}
use Rattle.frac128.specs.Fractions.{Fraction, fraction_text}
use Rattle.bundle_page.proofs.SummedCounts.{lowest_of_sum}
use Rattle.bundle_page.proofs.sums.sum_text.Goals as goal

pub returns : goal.returns
returns c =
    subst (λ (f : Fraction). IfOk c.lowest_text.result (λ text. text.items ≡ fraction_text f))
    (sym (lowest_of_sum c.args.sum.whole c.args.sum.rest c.args.total c.requires.rest)) c.lowest_text.ensures
