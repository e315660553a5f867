use Rattle.std.proofs.Common.{length, ◌∙◌, ap, arith}
use Rattle.std.proofs.lemmas.List.FromFn.{length-map-range_with_len}
use Rattle.define_made_pools.specs.MadePools.{made_values}
use Rattle.office_reports.proofs.Making.{pool_is_made}
use Rattle.office_reports.proofs.made_pools.made_pool.Goals as goal

pub add_categories-requires-clause-few : goal.add_categories-requires-clause-few
add_categories-requires-clause-few c =
    let few = ap length (c.deref.ensures.value ∙ c.in_ok-first_values.ensures) ∙ length-map-range_with_len (made_values c.args.seed) 0 c.max-size.result in
    let size = c.max-size.ensures in omega arith

pub returns : goal.returns
returns c =
    pool_is_made c.args.seed c.args.volunteers c.max-size.result c.deref.result.now c.empty_pool-pool.result c.add_categories.new.pool c.add_volunteers.new.pool c.requires.some
    c.max-size.ensures (c.deref.ensures.value ∙ c.in_ok-first_values.ensures) c.empty_pool-pool.ensures c.in_ok-add_categories.ensures c.in_ok-add_volunteers.ensures
