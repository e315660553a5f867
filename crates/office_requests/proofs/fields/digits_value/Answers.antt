use Rattle.std.proofs.Common.{◌≡◌, ℕ, ◌+◌, ◌-◌, ◌*◌, ◌^◌, ◌<◌, length, get_or, subst, sym, rules, arith}
use Rattle.std.proofs.lemmas.Grind.{common_steps}
use Rattle.office_requests.proofs.Numbers.{IsValueAt, digit_at, one_more, small_at, spelled}
use Rattle.office_requests.proofs.fields.digits_value.Goals as goal

pub overflow_mul-value : goal.overflow_mul-value
overflow_mul-value c =
    let within : c.loop-digit.digit-index < length c.args.text.now = omega arith in
    let small : c.loop-digit.value < 10 ^ 17 = small_at c.args.text.now c.loop-digit.digit-index c.loop-digit.value (spelled c.args.text.now c.requires) within c.loop-digit.invariant in
    omega (arith, small)

pub overflow_add-value : goal.overflow_add-value
overflow_add-value c =
    let within : c.loop-digit.digit-index < length c.args.text.now = omega arith in
    let it = spelled c.args.text.now c.requires in
    let small : c.loop-digit.value < 10 ^ 17 = small_at c.args.text.now c.loop-digit.digit-index c.loop-digit.value it within c.loop-digit.invariant in
    let range = digit_at c.args.text.now c.loop-digit.digit-index it within in
    let is : c.from.result ≡ get_or c.args.text.now c.loop-digit.digit-index 0 - 48 = first_of (search rules, grind (arith, common_steps), omega (arith, c.from.ensures), cc c.from.ensures) in
    omega (arith, small, range.0, range.1, is)

pub loop-digit-preserved : goal.loop-digit-preserved
loop-digit-preserved c =
    let within : c.loop-digit.digit-index < length c.args.text.now = omega arith in
    let is : c.from.result ≡ get_or c.args.text.now c.loop-digit.digit-index 0 - 48 = first_of (search rules, grind (arith, common_steps), omega (arith, c.from.ensures), cc c.from.ensures) in
    let P : ℕ → Type 0 = λ n. IsValueAt c.args.text.now (c.loop-digit.digit-index + 1) (c.loop-digit.value * 10 + n) in
    subst P (sym is) (one_more c.args.text.now c.loop-digit.digit-index c.loop-digit.value (spelled c.args.text.now c.requires) within c.loop-digit.invariant)
