use Rattle.std.proofs.Common.{◌≡◌, ◌∙◌}
use Rattle.office_desk.specs.Pages.{body_of}
use Rattle.office_desk.specs.Shown.{own_in, shown_to}
use Rattle.office_desk.proofs.own_page.told_own.Goals as goal

pub returns : goal.returns
returns c =
    let text : c.as_str.result.now ≡ body_of c.args.page (shown_to c.args.tables.now c.args.entry.now) (own_in c.args.tables.now c.args.entry.now) = c.as_str.ensures.value ∙ c.in_ok-body.ensures in
    rw text at c.told_json.ensures
