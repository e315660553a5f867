use Rattle.std.proofs.Common.{rules, sym, false, true, ◌≡◌, ◌∙◌}
use Rattle.define_imports.specs.Cells.{is_blank}
use Rattle.office_import.proofs.CellLemmas.{front_steps, front_stops, front_ends}
use Rattle.office_import.proofs.records.trim_front.Goals as goal

pub loop-first-preserved : goal.loop-first-preserved
loop-first-preserved c =
    let blank : is_blank c.in-Some.first.now ≡ true = search rules in
    front_steps _ _ _ c.in-Some.ensures.cases.0 blank ∙ c.loop-first.invariant

pub returns-then-not-is_blank : goal.returns-then-not-is_blank
returns-then-not-is_blank c =
    let plain : is_blank c.in-Some.first.now ≡ false = search rules in
    sym (front_stops _ _ _ c.in-Some.ensures.cases.0 plain) ∙ c.loop-first.invariant

pub returns : goal.returns
returns c = sym (front_ends c.loop-first.rest.now c.in_default.ensures.cases) ∙ c.loop-first.invariant
