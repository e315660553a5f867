use Rattle.std.proofs.Common.{codes, length, string_bytes, take, refl, sym, ◌∙◌, ap}
use Rattle.std.proofs.lemmas.List.{append-nil}
use Rattle.define_pools.specs.Lottery.{Lottery}
use Rattle.define_made_pools.specs.Summary.{Sizes, size_lines}
use Rattle.office_reports.proofs.SummaryTexts.{last_number, number_is_added}
use Rattle.office_reports.proofs.summaries.push_sizes.Goals as goal

pub returns : goal.returns
returns c =
    let pool = c.args.pool.now in
    let answer = c.args.answer.now in
    let sizes : Sizes = record { classes = c.args.sizes.now.classes; columns = c.args.sizes.now.columns; pivots = c.args.sizes.now.pivots } in
    let before = string_bytes c.args.text.now in
    let lines = size_lines pool answer sizes in
    let e1 = number_is_added before before (string_bytes c.push_number.new.text) (codes "volunteers") (length c.volunteers.result.now) (length pool.volunteers) (take 0 lines) (ap length c.volunteers.ensures) (sym (append-nil before)) c.in_ok-push_number.ensures in
    let e2 = number_is_added before (string_bytes c.push_number.new.text) (string_bytes c.push_number-2.new.text) (codes "classes") (sizes.classes) (sizes.classes) (take 1 lines) (refl) (e1) c.in_ok-push_number-2.ensures in
    let e3 = number_is_added before (string_bytes c.push_number-2.new.text) (string_bytes c.push_number-3.new.text) (codes "size") (c.size.result) (pool.size) (take 2 lines) (c.size.ensures) (e2) c.in_ok-push_number-3.ensures in
    let e4 = number_is_added before (string_bytes c.push_number-3.new.text) (string_bytes c.push_number-4.new.text) (codes "panels") (length c.rows.result.now) (length answer.lottery.rows) (take 3 lines) (ap length c.rows.ensures.value ∙ ap (λ (lottery : Lottery). length lottery.rows) c.lottery.ensures) (e3) c.in_ok-push_number-4.ensures in
    let e5 = number_is_added before (string_bytes c.push_number-4.new.text) (string_bytes c.push_number-5.new.text) (codes "columns") (sizes.columns) (sizes.columns) (take 4 lines) (refl) (e4) c.in_ok-push_number-5.ensures in
    let e6 = number_is_added before (string_bytes c.push_number-5.new.text) (string_bytes c.push_number-6.new.text) (codes "pivots") (sizes.pivots) (sizes.pivots) (take 5 lines) (refl) (e5) c.in_ok-push_number-6.ensures in
    last_number c.push_number-7.result before (string_bytes c.push_number-6.new.text) (string_bytes c.push_number-7.new.text) (codes "stages") (length c.stages.result.now) (length answer.stages) (take 6 lines)
    (ap length c.stages.ensures ∙ ap length c.certificate.ensures) e6 c.push_number-7.ensures
