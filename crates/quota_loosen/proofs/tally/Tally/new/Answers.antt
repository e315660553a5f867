use Rattle.std.proofs.Common.{rules, ◌≡◌, ◌*◌, length, replicate, ap, arith, refl, sym, ◌∙◌}
use Rattle.std.proofs.lemmas.List.{with_items_is}
use Rattle.define_searches.proofs.Tracking.{starts, zero_cells}
use Rattle.quota_loosen.proofs.tally.Tally.new.Goals as goal

pub returns : goal.returns
returns c =
    let all = c.args.classes.now in
    let rows = ap length c.bounds.ensures in
    let held_room : length c.in_ok-held.held.items ≡ 50 * length all.bounds = omega (arith, rows, c.in_ok-held.ensures.len, c.in_ok-held.held.ok.0) in
    let later_room : length c.in_ok-later.later.items ≡ 50 * length all.bounds = omega (arith, rows, c.in_ok-later.ensures.len, c.in_ok-later.later.ok.0) in
    let items = with_items_is c.in_ok-later.later c.add_all-later_taken.new.later (c.add_all-later_taken.ensures.room ∙ (sym later_room ∙ sym c.in_ok-later.later.ok.0)) in
    let zero : c.in_ok-held.held.items ≡ replicate (50 * length c.bounds.result.now) 0 = search rules in
    let homes : c.in_ok-homes.homes.items ≡ replicate c.volunteers.result 0 = search rules in
    starts all c.add_all-later_taken.new.later _ refl (zero_cells _ (length all.bounds) _ zero held_room) held_room items c.add_all-later_taken.ensures c.volunteers.result c.volunteers.ensures.count homes
