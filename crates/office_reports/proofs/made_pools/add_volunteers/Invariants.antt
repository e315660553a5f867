use Rattle.std.proofs.Common.{◌≡◌, ◌*◌}
use Rattle.define_made_pools.specs.Generator.{state}
use Rattle.define_made_pools.specs.MadePools.{made_volunteers}
use Rattle.office_reports.proofs.made_pools.add_volunteers.Given as goal

abbrev pub invariant-loop-number : goal.invariant-loop-number
invariant-loop-number l = record {
  numbers : l.generator.state ≡ state l.seed (3 * l.number);
  size : l.pool.size ≡ l.initial.pool.size;
  categories : l.pool.categories ≡ l.initial.pool.categories;
  volunteers : l.pool.volunteers ≡ made_volunteers l.seed l.number;
}
