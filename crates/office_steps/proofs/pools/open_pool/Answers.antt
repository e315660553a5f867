use Rattle.std.proofs.Common.{◌≡◌, ◌-◌, List, get_or, Some, IfOk, sym, ap, ap₂, ◌∙◌, arith, subst}
use Rattle.define_pools.specs.Pool.{IsPool, Pool}
use Rattle.define_offices.specs.Pools.{first_pool, open_pool, pool_after, with_bounds}
use Rattle.define_offices.specs.Tables.{Entry, Round}
use Rattle.office_steps.proofs.Rounds.{first_is_pool, is_drawn_before, open_pool-later}
use Rattle.office_steps.proofs.pools.open_pool.Goals as goal

pub first_pool-requires : goal.first_pool-requires
first_pool-requires c =
    let tables = c.args.tables.now in
    subst (λ (register : List Entry). IsPool (first_pool c.args.charter.now c.args.rules.now register)) (sym c.register.ensures)
    (first_is_pool tables c.facts.ensures c.args.charter.now c.args.rules.now c.requires.charter c.requires.rules (omega arith))

pub later_pool-requires : goal.later_pool-requires
later_pool-requires c =
    let round = c.index-rounds-place.result in
    let read : round ≡ get_or c.args.tables.now.rounds (c.args.place - 1) round = c.index-rounds-place.is ∙ ap (λ (rounds : List Round). get_or rounds (c.args.place - 1) round) c.rounds.ensures in
    is_drawn_before c.args.tables.now c.facts.ensures c.args.place (omega arith) c.requires.place round read

pub returns-in_ok-pool : goal.returns-in_ok-pool
returns-in_ok-pool c =
    let tables = c.args.tables.now in
    let round = c.index-rounds-place.result in
    let read : round ≡ get_or tables.rounds (c.args.place - 1) round = c.index-rounds-place.is ∙ ap (λ (rounds : List Round). get_or rounds (c.args.place - 1) round) c.rounds.ensures in
    let before : c.in_ok-pool.pool ≡ pool_after tables.register (Some round) =
    c.in_ok-pool.ensures ∙ ap (λ (register : List Entry). pool_after register (Some round)) c.register-else-place-eq0.ensures in
    let same : with_bounds c.bounds.result.now c.in_ok-pool.pool ≡ open_pool c.args.charter.now c.args.rules.now tables c.args.place =
    ap₂ with_bounds c.bounds.ensures before ∙ open_pool-later c.args.charter.now c.args.rules.now tables c.args.place (omega arith) c.requires.place round read in
    subst (λ (is : Pool). IfOk c.with_bounds.result (λ pool. pool ≡ is)) same c.with_bounds.ensures
