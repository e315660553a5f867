use Rattle.std.proofs.Common.{◌≡◌, ◌*◌, map}
use Rattle.std.specs.List.{range_with_len}
use Rattle.define_made_pools.specs.Generator.{state}
use Rattle.define_made_pools.specs.MadePools.{made_values}
use Rattle.office_reports.proofs.made_pools.first_values.Given as goal

abbrev pub invariant-loop : goal.invariant-loop
invariant-loop l = record {
  numbers : l.generator.state ≡ state l.seed (3 * l.counter);
  lists : l.first.items ≡ map (made_values l.seed) (range_with_len 0 l.counter);
}
