use Rattle.std.proofs.Common.{◌+◌, ◌*◌, ◌^◌, ◌<◌, ◌≤◌, ◌++◌, ap, sym, ◌∙◌, arith}
use Rattle.bundle_page.specs.Decimals.{last_digits}
use Rattle.bundle_page.proofs.SummedCounts.{decimal_parts}
use Rattle.bundle_page.proofs.sums.wide_decimal.Goals as goal

pub returns : goal.returns
returns c =
    let high = c.args.high in
    let low = c.args.low in
    let some : 1 ≤ high = omega (arith, c.if-high-eq0.false) in
    let fits : high * 10 ^ 19 + low < 10 ^ 64 = omega (arith, c.requires.low, c.requires.high) in
    c.in_ok-push_last_digits.ensures
    ∙ ap (λ text. text ++ last_digits 19 low) (c.in_ok-text.ensures.items ∙ c.as_bytes-2.ensures.value ∙ c.format-2.ensures.text)
    ∙ sym (decimal_parts 19 high low some c.requires.low fits)
