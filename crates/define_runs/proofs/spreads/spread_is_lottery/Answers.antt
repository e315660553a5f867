use Rattle.define_runs.proofs.Lotteries.{is_spread, pool_lottery}
use Rattle.define_runs.proofs.spreads.spread_is_lottery.Goals as goal

pub returns : goal.returns
returns c = record {
  lottery = λ pool alike parts lottery makes are e. pool_lottery pool alike makes parts lottery are e;
  within = λ all parts lottery are e. (is_spread all parts lottery are e).common.within;
}
