use Rattle.std.proofs.Common.{◌≡◌, List, length, get_or, ap, ◌∙◌, arith}
use Rattle.define_pools.specs.Pool.{Volunteer}
use Rattle.rounds.specs.Next.{standing_marked}
use Rattle.rounds.proofs.Restanding.{length-next, next-more, next-same, restood_pool_to-all, withdrawn_by_marks}
use Rattle.rounds.proofs.withdraw.Goals as goal

pub bounds-volunteers-number : goal.bounds-volunteers-number
bounds-volunteers-number c =
    let other = standing_marked c.args.withdrawn.now in
    let same : length c.loop-number.pool.volunteers ≡ length c.args.pool.now.volunteers = length-next other c.loop-number.number c.args.pool.now c.loop-number.pool c.loop-number.invariant in
    let items : length c.volunteers-number-end.result.now ≡ length c.args.pool.now.volunteers = ap length c.volunteers-number-end.ensures in
    let here : length c.volunteers.result.now ≡ length c.loop-number.pool.volunteers = ap length c.volunteers.ensures in
    omega arith

pub set_standing-requires : goal.set_standing-requires
set_standing-requires c =
    let other = standing_marked c.args.withdrawn.now in
    let same : length c.loop-number.pool.volunteers ≡ length c.args.pool.now.volunteers = length-next other c.loop-number.number c.args.pool.now c.loop-number.pool c.loop-number.invariant in
    let items : length c.volunteers-number-end.result.now ≡ length c.args.pool.now.volunteers = ap length c.volunteers-number-end.ensures in
    omega arith

pub loop-number-preserved : goal.loop-number-preserved
loop-number-preserved c =
    let pool = c.args.pool.now in
    let number = c.loop-number.number in
    let v = c.index-volunteers-number.result in
    let other = standing_marked c.args.withdrawn.now in
    let items : length c.volunteers-number-end.result.now ≡ length pool.volunteers = ap length c.volunteers-number-end.ensures in
    let before : c.standing-standing.result ≡ (get_or pool.volunteers number v).standing =
    c.standing-standing.ensures
    ∙ (ap (λ (one : Volunteer). one.standing) c.index-volunteers-number.is
    ∙ (ap (λ (all : List Volunteer). (get_or all number v).standing) c.volunteers.ensures
    ∙ ap (λ (one : Volunteer). one.standing) (next-same other number pool c.loop-number.pool v c.loop-number.invariant))) in
    next-more other number pool c.loop-number.pool c.set_standing.new.self v c.standing_marked.result
    c.loop-number.invariant (omega arith) (c.standing_marked.ensures ∙ ap (other number) before) c.set_standing.ensures

pub returns : goal.returns
returns c = λ register marks.
    let other = standing_marked c.args.withdrawn.now in
    let items : length c.volunteers-number-end.result.now ≡ length c.args.pool.now.volunteers = ap length c.volunteers-number-end.ensures in
    c.loop-number.invariant ∙ (restood_pool_to-all other c.loop-number.number c.args.pool.now (omega arith) ∙ withdrawn_by_marks register c.args.withdrawn.now c.args.pool.now marks)
