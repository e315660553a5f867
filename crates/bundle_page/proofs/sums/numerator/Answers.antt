use Rattle.std.proofs.Common.{◌≡◌, ℕ, ◌+◌, ◌*◌, ◌/◌, ◌%◌, ap, sym, subst, ◌∙◌}
use Rattle.std.specs.Fmt.{decimal}
use Rattle.std.specs.Prelude.{IfOk}
use Rattle.bundle_page.proofs.SummedCounts.{numerator_is}
use Rattle.bundle_page.proofs.sums.numerator.Goals as goal

pub returns : goal.returns
returns c =
    let whole = c.args.whole in
    let num = c.args.num in
    let den = c.args.den in
    let base = c.power_of_ten-base.result in
    let low : ℕ = whole * (den % base) + num % base in
    let high : ℕ = whole * (den / base) + num / base + low / base in
    let same = ap (λ b. high * b + low % base) (sym c.power_of_ten-base.ensures.value) ∙ numerator_is whole num den base in
    subst (λ n. IfOk c.wide_decimal.result (λ text. text.items ≡ decimal n)) same c.wide_decimal.ensures
