use Rattle.std.proofs.Common.{◌≡◌, ◌++◌, ◌≤◌, drop, length, map}
use Rattle.bundle_page.specs.Markup.{filled}
use Rattle.bundle_page.proofs.markup.put_values.Given as goal

-- `text`, and after it the rest of the template filled with the values that are left, is the old text with the whole template filled
abbrev pub invariant-loop-byte : goal.invariant-loop-byte
invariant-loop-byte l = record {
  few : l.next ≤ length l.values;
  whole : l.text.items ++ filled (drop l.byte-index l.template) (drop l.next (map (λ value. value.now) l.values))
      ≡ l.fn.text.items ++ filled l.template (map (λ value. value.now) l.values);
}
