use Rattle.std.proofs.Common.{◌≡◌, ℕ, true, nat_lt, List, length, sym, ap₂, ◌∙◌}
use Rattle.std.specs.List.{list_all}
use Rattle.define_pools.specs.Pool.{Volunteer, keeps_standings}
use Rattle.quota_conflicts.proofs.Selected.{is_selected}
use Rattle.quota_conflicts.proofs.selections.is_selection.Goals as goal

pub returns-then-are_below-clause-is : goal.returns-then-are_below-clause-is
returns-then-are_below-clause-is c =
    let pool = c.args.pool.now in
    let panel = c.args.panel.now in
    let are_below = λ (volunteers : List Volunteer) (panel : List ℕ). list_all (λ i. nat_lt i (length volunteers)) panel in
    let below : are_below pool.volunteers panel ≡ true =
    ap₂ are_below (sym c.volunteers.ensures) (sym c.members-members.ensures.value) ∙ sym c.are_below.ensures ∙ c.if-are_below.true in
    c.keep_standings.ensures ∙ ap₂ keeps_standings c.volunteers-then-are_below.ensures c.members-members.ensures.value
    ∙ is_selected pool panel c.members-members.ensures.increasing below
