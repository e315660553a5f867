use Rattle.std.proofs.Common.{◌≡◌, [], ◌∷◌, ◌++◌, ap, ◌∙◌}
use Rattle.define_lines.specs.Lines.{text_of}
use Rattle.define_bundles.specs.PoolText.{end_line}
use Rattle.define_offices.specs.Tables.{bundle_of, phase_of}
use Rattle.define_offices.specs.Report.{bundle_lines, chance_lines_in, counted, head_lines, quota_lines}
use Rattle.define_offices.proofs.LineSteps.{lines_added}
use Rattle.office_reports.proofs.DrawnRounds.{groups_are_counted, members_are_of_pool}
use Rattle.office_reports.proofs.reports.report_text.Goals as goal

pub push_quotas-requires : goal.push_quotas-requires
push_quotas-requires c = members_are_of_pool c.args.round.now c.args.pool.now c.in_ok-drawn.drawn c.requires.pool c.in_ok-drawn.ensures

pub returns : goal.returns
returns c =
    let number = c.args.number in
    let title = c.args.title.now in
    let round = c.args.round.now in
    let pool = c.args.pool.now in
    let head = head_lines number title (phase_of round) pool in
    let bundle = bundle_lines round in
    let quotas = quota_lines pool (counted pool round) in
    let chances = chance_lines_in (bundle_of round) in
    let with_head : c.push_head.new.text.items ≡ [] ++ text_of head =
    c.in_ok-push_head.ensures ∙ (ap (λ text. text ++ text_of (head_lines number title c.phase.result pool)) c.new-text.ensures.items
    ∙ ap (λ phase. text_of (head_lines number title phase pool)) c.phase.ensures) in
    let with_bundle = lines_added [] c.push_head.new.text.items c.push_bundle.new.text.items head bundle with_head c.in_ok-push_bundle.ensures in
    let with_quotas = lines_added [] c.push_bundle.new.text.items c.push_quotas.new.text.items (head ++ bundle) quotas with_bundle
    (c.in_ok-push_quotas.ensures ∙ ap (λ groups. c.push_bundle.new.text.items ++ text_of (quota_lines pool groups)) (groups_are_counted round pool c.in_ok-drawn.drawn c.in_ok-drawn.ensures)) in
    let with_chances = lines_added [] c.push_quotas.new.text.items c.push_chances_in.new.text.items (head ++ bundle ++ quotas) chances with_quotas
    (c.in_ok-push_chances_in.ensures ∙ ap (λ kept. c.push_quotas.new.text.items ++ text_of (chance_lines_in kept)) c.bundle.ensures) in
    lines_added [] c.push_chances_in.new.text.items c.push_line.new.text.items (head ++ bundle ++ quotas ++ chances) (end_line ∷ []) with_chances c.in_ok-push_line.ensures.whole
