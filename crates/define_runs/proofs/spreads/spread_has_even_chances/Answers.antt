use Rattle.define_searches.specs.Classes.{classes_by}
use Rattle.define_searches.proofs.Parting.{classes_part}
use Rattle.define_runs.proofs.Lotteries.{even_chances, limits_can_give, pool_can_give}
use Rattle.define_runs.proofs.spreads.spread_has_even_chances.Goals as goal

pub returns : goal.returns
returns c = record {
  classes = λ all parts lottery keeps parting are e. even_chances all parts lottery parting (limits_can_give all keeps) are e;
  pool = λ pool alike parts lottery makes are e. even_chances (classes_by alike pool) parts lottery (classes_part pool alike makes) (pool_can_give pool alike) are e;
}
