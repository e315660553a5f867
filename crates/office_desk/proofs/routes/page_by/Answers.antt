use Rattle.std.proofs.Common.{ap, sym, ◌∙◌}
use Rattle.matchit.specs.Router.{RouteOf}
use Rattle.matchit.specs.Rows.{RowsOf}
use Rattle.matchit.specs.Seek.{first}
use Rattle.office_desk.proofs.Routing.{missed, shown}
use Rattle.office_desk.specs.declared.routes.Route.{Route}
use Rattle.office_desk.proofs.routes.page_by.Goals as goal

pub returns-in-Ok : goal.returns-in-Ok
returns-in-Ok c =
    let path = c.args.path.now in
    let found = ap (λ (rows : RowsOf (RouteOf Route)). first rows path) (sym c.requires) ∙ c.in-Ok.ensures.found in
    c.page_at.ensures ∙ shown path _ c.round_in.result.now c.utf8.path (rw c.in-Ok.ensures.path at c.round_in.ensures) found

pub returns-in-Err : goal.returns-in-Err
returns-in-Err c =
    let path = c.args.path.now in
    sym (missed path (ap (λ (rows : RowsOf (RouteOf Route)). first rows path) (sym c.requires) ∙ c.in-Err.ensures.missing))
