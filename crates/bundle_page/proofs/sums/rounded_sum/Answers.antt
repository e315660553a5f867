use Rattle.std.proofs.Common.{◌+◌, ◌*◌, ap, ◌∙◌}
use Rattle.bundle_page.proofs.SummedCounts.{rounded_is}
use Rattle.bundle_page.proofs.sums.rounded_sum.Goals as goal

pub returns-clause-value : goal.returns-clause-value
returns-clause-value c =
    ap (λ part. c.args.sum.whole * 10000 + part) c.ten_thousandths.ensures.value ∙ rounded_is c.args.sum.whole c.args.sum.rest c.args.total c.requires.rest
