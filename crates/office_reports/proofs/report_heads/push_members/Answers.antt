use Rattle.std.proofs.Common.{◌≡◌, ◌<◌, ◌∙◌, ◌++◌, ap, get_or, length, map, take}
use Rattle.std.proofs.lemmas.List.{take_all}
use Rattle.define_pools.proofs.Each.{below_at}
use Rattle.define_lines.specs.Lines.{text_of}
use Rattle.define_draws.specs.Lines.{member_ids}
use Rattle.define_offices.specs.Report.{member_line}
use Rattle.define_offices.proofs.VolunteerSteps.{member_added}
use Rattle.office_reports.proofs.report_heads.push_members.Goals as goal

pub loop-number-preserved : goal.loop-number-preserved
loop-number-preserved c =
    let members = c.members-number-items.result.now in
    let same = c.members-number-items.ensures.value in
    let below : get_or members c.loop-number.number-index 0 < length c.args.pool.now.volunteers =
    rw same (below_at (length c.args.pool.now.volunteers) c.args.panel.now c.loop-number.number-index c.requires (rw same at c.loop-number-test.true)) in
    member_added c.args.pool.now members c.loop-number.number-index c.args.text.now.items _ _ c.index-volunteers-number.result
    c.loop-number-test.true (rw c.volunteers.ensures at c.index-volunteers-number.is) below
    c.loop-number.invariant (rw (c.as_bytes.ensures ∙ c.id.ensures) at c.in_ok-push_line.ensures.whole)

pub returns : goal.returns
returns c =
    let members = c.members-number-items.result.now in
    let whole : take c.loop-number.number-index members ≡ members = take_all c.loop-number.number-index members c.loop-number-test.false in
    c.loop-number.invariant ∙ ap (λ xs. c.args.text.now.items ++ text_of (map member_line (member_ids c.args.pool.now xs))) (whole ∙ c.members-number-items.ensures.value)
