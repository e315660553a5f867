use Rattle.std.proofs.Common.{rules, ap, sym, false, true, reverse, ◌≡◌, ◌∙◌}
use Rattle.define_imports.specs.Cells.{is_blank}
use Rattle.office_import.proofs.CellLemmas.{back_steps, back_stops, back_ends}
use Rattle.office_import.proofs.records.trim_back.Goals as goal

pub loop-last-preserved : goal.loop-last-preserved
loop-last-preserved c =
    let blank : is_blank c.in-Some.last.now ≡ true = search rules in
    back_steps _ _ _ c.in-Some.ensures.cases.0 blank ∙ c.loop-last.invariant

pub returns-then-not-is_blank : goal.returns-then-not-is_blank
returns-then-not-is_blank c =
    let plain : is_blank c.in-Some.last.now ≡ false = search rules in
    sym (back_stops _ _ _ c.in-Some.ensures.cases.0 plain) ∙ ap reverse c.loop-last.invariant

pub returns : goal.returns
returns c = sym (back_ends c.loop-last.rest.now c.in_default.ensures.cases) ∙ ap reverse c.loop-last.invariant
