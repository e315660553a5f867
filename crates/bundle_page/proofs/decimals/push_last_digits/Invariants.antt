use Rattle.std.proofs.Common.{◌≡◌, ◌-◌, ◌++◌}
use Rattle.bundle_page.specs.Decimals.{last_digits}
use Rattle.bundle_page.proofs.decimals.push_last_digits.Given as goal

-- `text` with the digits that are left to write is the old text with all `count` digits
abbrev pub invariant-loop-place : goal.invariant-loop-place
invariant-loop-place l = l.text.items ++ last_digits (l.count - l.place) l.number ≡ l.fn.text.items ++ last_digits l.count l.number
