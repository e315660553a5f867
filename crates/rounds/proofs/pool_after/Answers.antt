use Rattle.std.proofs.Common.{◌≡◌, ℕ, List, length, get_or, ap, ◌∙◌, arith}
use Rattle.define_pools.specs.Pool.{Volunteer}
use Rattle.define_offices.specs.Pools.{next_standing}
use Rattle.rounds.proofs.Restanding.{length-next, next-more, restood_pool_to-all}
use Rattle.rounds.proofs.pool_after.Goals as goal

pub set_standing-requires : goal.set_standing-requires
set_standing-requires c =
    let other = next_standing c.args.panel.now c.args.drops.now in
    let same : length c.loop-number.next.volunteers ≡ length c.args.pool.now.volunteers = length-next other c.loop-number.number c.args.pool.now c.loop-number.next c.loop-number.invariant in
    let items : length c.volunteers-volunteer-items.result.now ≡ length c.args.pool.now.volunteers = ap length c.volunteers-volunteer-items.ensures in
    omega arith

pub loop-number-preserved : goal.loop-number-preserved
loop-number-preserved c =
    let pool = c.args.pool.now in
    let number = c.loop-number.number in
    let v = c.volunteer-item.result in
    let other = next_standing c.args.panel.now c.args.drops.now in
    let items : length c.volunteers-volunteer-items.result.now ≡ length pool.volunteers = ap length c.volunteers-volunteer-items.ensures in
    let before : c.standing.result ≡ (get_or pool.volunteers number v).standing =
    c.standing.ensures ∙ (ap (λ (one : Volunteer). one.standing) c.volunteer-item.is ∙ ap (λ (all : List Volunteer). (get_or all number v).standing) c.volunteers-volunteer-items.ensures) in
    let after : c.next_standing-standing.result ≡ other number (get_or pool.volunteers number v).standing =
    c.next_standing-standing.ensures ∙ (ap (λ (members : List ℕ). next_standing members c.args.drops.now number c.standing.result) c.members.ensures.value ∙ ap (other number) before) in
    next-more other number pool c.loop-number.next c.set_standing.new.self v c.next_standing-standing.result c.loop-number.invariant (omega arith) after c.set_standing.ensures

pub returns : goal.returns
returns c =
    let other = next_standing c.args.panel.now c.args.drops.now in
    let items : length c.volunteers-volunteer-items.result.now ≡ length c.args.pool.now.volunteers = ap length c.volunteers-volunteer-items.ensures in
    c.loop-number.invariant ∙ restood_pool_to-all other c.loop-number.number c.args.pool.now (omega arith)
