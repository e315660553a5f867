use Rattle.std.proofs.Common.{◌∙◌, ◌+◌, ◌*◌, ◌<◌, ap, sym, length, get_or, leb, ltb, ◌&&◌}
use Rattle.std.specs.Char.{digit_value, is_ascii_digit}
use Rattle.std.specs.List.{list_all}
use Rattle.std.proofs.lemmas.Bool.{and_parts}
use Rattle.std.proofs.lemmas.Int.Digits.{digits_value_more}
use Rattle.define_pools.proofs.Each.{passes_at}
use Rattle.office_desk.proofs.Digits.{digit_in_range, one_more_digit}
use Rattle.office_desk.proofs.routes.number_of.Goals as goal

pub loop-digit-preserved : goal.loop-digit-preserved
loop-digit-preserved c =
    let digits = c.args.digits.now in
    let i = c.loop-digit.digit-index in
    let all = (and_parts (ltb 0 (length digits) && leb (length digits) 4) (list_all is_ascii_digit digits) c.requires).1 in
    let inside : i < length digits = c.loop-digit-test.true in
    let range = digit_in_range (get_or digits i 0) (passes_at is_ascii_digit digits i 0 all inside) in
    let step = one_more_digit c.loop-digit.number (get_or digits i 0) i range c.loop-digit.invariant.small in
    record {
      read = step.0 ∙ (ap (λ n. n * 10 + digit_value (get_or digits i 0)) c.loop-digit.invariant.read ∙ sym (digits_value_more 10 digits i inside));
      small = step.1;
    }
