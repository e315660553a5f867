use Rattle.std.proofs.Common.{◌≡◌, ◌++◌, length, take}
use Rattle.define_bundles.specs.PoolText.{names_at}
use Rattle.define_lines.specs.Lines.{tabbed}
use Rattle.pool_text.proofs.writing.push_names.Given as goal

-- the names for the categories read so far, each after a TAB, were appended
abbrev pub invariant-loop-category : goal.invariant-loop-category
invariant-loop-category l = l.text.items ≡ l.fn.text.items ++ tabbed (names_at (take (length l.yielded) l.categories) (take (length l.yielded) l.places))
