use Rattle.std.proofs.Common.{◌++◌}
use Rattle.bundle_page.specs.Decimals.{last_digits}
use Rattle.bundle_page.proofs.Numbers.{digit_added}
use Rattle.bundle_page.proofs.decimals.push_last_digits.Goals as goal

pub loop-place-preserved : goal.loop-place-preserved
loop-place-preserved c =
    digit_added (c.args.text.now.items ++ last_digits c.args.count c.args.number) c.loop-place.text.items c.push.new.self.items c.args.count c.loop-place.place c.args.number
    c.digit_at.result c.loop-place-test.true c.digit_at.ensures c.loop-place.invariant c.in_ok-push.ensures.items
