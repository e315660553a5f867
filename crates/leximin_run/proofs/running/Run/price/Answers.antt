use Rattle.std.proofs.Common.{◌≡◌, ◌≤◌, ◌∷◌, [], ◌++◌, Some, None, refl, sym, ap, ◌∙◌, subst, arith}
use Rattle.std.specs.Prelude.{IsFalse}
use Rattle.std.proofs.lemmas.Result.{err_from_is_err_and}
use Rattle.define_rows.specs.Steps.{add_column, close_stage}
use Rattle.define_rows.specs.Table.{row_at}
use Rattle.define_runs.specs.Run.{GoOn, pricing_visits, run_limits, step}
use Rattle.leximin_run.proofs.Turns.{IsAsked, asked_so, close_stands, column_may, column_stands, has_side, have_entries, have_reach, made, refused_so}
use Rattle.leximin_run.specs.Advancing.{HoldsFrom, Stands}
use Rattle.leximin_run.proofs.running.Run.price.Given.{Over}
use Rattle.leximin_run.proofs.running.Run.price.Goals as goal
use Rattle.leximin_run.proofs.running.Run.price.Goals.{After-priced_by, In_ok-found}

pub priced_by-requires-clause-entries : goal.priced_by-requires-clause-entries
priced_by-requires-clause-entries g c = λ lifetimes outlives.
    let run = c.args.self.now in
    ((have_entries run.pricer.classes (run_limits run.limits) run.table c.requires.stands.keeps c.row-row.result.now c.open_row.result c.open_row.ensures.place c.row-row.ensures run.pricer.closed c.requires.stands.closed_are).0, tt)

pub priced_by-requires-clause-reach : goal.priced_by-requires-clause-reach
priced_by-requires-clause-reach g c = λ lifetimes outlives.
    let run = c.args.self.now in
    ((have_reach run.pricer.classes (run_limits run.limits) run.table c.requires.stands.keeps c.row-row.result.now c.open_row.result c.open_row.ensures.place c.row-row.ensures run.pricer.closed c.requires.stands.closed_are).0, tt)

pub priced_by-requires-clause-positive : goal.priced_by-requires-clause-positive
priced_by-requires-clause-positive g c = λ lifetimes outlives.
    let run = c.args.self.now in
    has_side run.pricer.classes (run_limits run.limits) run.table c.requires.stands.keeps c.row-row.result.now c.open_row.result c.open_row.ensures.place c.row-row.ensures

-- before the pricing: the stage is open, no pivot is chosen, and the row is the open row
asked : (g : Over) (c : After-priced_by g) → IsAsked c.args.self.now.pricer.classes (run_limits c.args.self.now.limits) c.args.self.now.table c.args.self.now.pricer.closed c.row-row.result.now
asked g c = asked_so c.requires.stands c.requires.open c.requires.done refl c.row-row.ensures c.open_row.ensures.row

-- If the workers share nothing, a pricing that is answered makes at most as many visits as its budget.
few : (g : Over) (c : In_ok-found g) → IsFalse c.args.self.now.share → pricing_visits c.args.self.now.pricer.classes c.args.self.now.pricer.closed c.row-row.result.now ≤ (run_limits c.args.self.now.limits).pricing
few g c apart = omega (arith, c.in_ok-found.ensures.1 apart, c.nodes-nodes.ensures.value)

pub add_column-requires-clause-counts : goal.add_column-requires-clause-counts
add_column-requires-clause-counts g c = (column_may _ _ _ _ _ (asked g (goal.at.add_column-requires-clause-counts g c).After-priced_by) c.in-Some.column (sym c.in-Some.is ∙ c.in_ok-found.ensures.0)).each

pub add_column-requires-clause-bounds : goal.add_column-requires-clause-bounds
add_column-requires-clause-bounds g c = (column_may _ _ _ _ _ (asked g (goal.at.add_column-requires-clause-bounds g c).After-priced_by) c.in-Some.column (sym c.in-Some.is ∙ c.in_ok-found.ensures.0)).bounds

pub add_column-requires-clause-fresh : goal.add_column-requires-clause-fresh
add_column-requires-clause-fresh g c = (column_may _ _ _ _ _ (asked g (goal.at.add_column-requires-clause-fresh g c).After-priced_by) c.in-Some.column (sym c.in-Some.is ∙ c.in_ok-found.ensures.0)).fresh

pub returns-in_ok-add_column-in-Some-clause-makes : goal.returns-in_ok-add_column-in-Some-clause-makes
returns-in_ok-add_column-in-Some-clause-makes g c =
    let run = c.args.self.now in let at = goal.at.returns-in_ok-add_column-in-Some-clause-makes g c in
    subst (λ t. HoldsFrom run.share (run_limits run.limits) (λ free. step run.pricer.classes free run.table ≡ GoOn t)) (sym c.in_ok-add_column-in-Some.ensures.ok)
    (made run.pricer.classes (run_limits run.limits) run.table run.pricer.closed c.row-row.result.now (asked g at.After-priced_by) run.share (Some c.in-Some.column) (GoOn (add_column run.table c.in-Some.column)) refl
    (few g at.In_ok-found) (sym c.in-Some.is ∙ c.in_ok-found.ensures.0))

pub returns-in_ok-add_column-in-Some-clause-stands : goal.returns-in_ok-add_column-in-Some-clause-stands
returns-in_ok-add_column-in-Some-clause-stands g c =
    let run = c.args.self.now in let at = goal.at.returns-in_ok-add_column-in-Some-clause-stands g c in
    subst (λ t. Stands run.pricer.classes (run_limits run.limits) t run.pricer.closed) (sym c.in_ok-add_column-in-Some.ensures.ok)
    (column_stands run.pricer.classes (run_limits run.limits) run.table run.pricer.closed c.row-row.result.now (asked g at.After-priced_by) c.in-Some.column (sym c.in-Some.is ∙ c.in_ok-found.ensures.0))

pub returns-in_ok-close-in-None-clause-makes : goal.returns-in_ok-close-in-None-clause-makes
returns-in_ok-close-in-None-clause-makes g c =
    let run = c.args.self.now in let at = goal.at.returns-in_ok-close-in-None-clause-makes g c in
    subst (λ t. HoldsFrom run.share (run_limits run.limits) (λ free. step run.pricer.classes free run.table ≡ GoOn t)) (sym c.in_ok-close-in-None.ensures.table)
    (made run.pricer.classes (run_limits run.limits) run.table run.pricer.closed c.row-row.result.now (asked g at.After-priced_by) run.share None (GoOn (close_stage run.table)) refl
    (few g at.In_ok-found) (sym c.in-None.is ∙ c.in_ok-found.ensures.0))

pub returns-in_ok-close-in-None-clause-stands : goal.returns-in_ok-close-in-None-clause-stands
returns-in_ok-close-in-None-clause-stands g c =
    let run = c.args.self.now in let at = goal.at.returns-in_ok-close-in-None-clause-stands g c in
    let stands = close_stands run.pricer.classes (run_limits run.limits) run.table run.pricer.closed c.row-row.result.now (asked g at.After-priced_by) (sym c.in-None.is ∙ c.in_ok-found.ensures.0) in
    let told = c.in_ok-close-in-None.ensures in
    subst (λ all. Stands all (run_limits c.close.new.self.limits) c.close.new.self.table c.close.new.self.pricer.closed) (sym told.classes)
    (subst (λ limits. Stands run.pricer.classes (run_limits limits) c.close.new.self.table c.close.new.self.pricer.closed) (sym told.limits)
    (subst (λ t. Stands run.pricer.classes (run_limits run.limits) t c.close.new.self.pricer.closed) (sym told.table)
    (subst (Stands run.pricer.classes (run_limits run.limits) (close_stage run.table)) (ap (λ row. run.pricer.closed ++ row ∷ []) (c.row-row.ensures ∙ ap (row_at run.table) c.open_row.ensures.row) ∙ sym told.closed) stands)))

pub returns-in_err-found-clause-makes : goal.returns-in_err-found-clause-makes
returns-in_err-found-clause-makes g c =
    let run = c.args.self.now in
    let out = err_from_is_err_and c.from_residual.result c.from_residual.ensures.1 in
    rw (out.1, out.2)
    (refused_so run.pricer.classes (run_limits run.limits) run.table run.pricer.closed c.row-row.result.now (asked g (goal.at.returns-in_err-found-clause-makes g c).After-priced_by) run.share c.in_err-found.field-0.0 c.nodes-nodes.result c.nodes-nodes.ensures.value c.in_err-found.ensures)
