use Rattle.define_runs.proofs.Shared.{endings_stay}
use Rattle.define_runs.proofs.Unbounded.{each_unbounded, one_unbounded}
use Rattle.define_runs.proofs.sharing.one_unbounded_ending.Goals as goal

pub returns : goal.returns
returns c = record {
  one = λ all limits first second a b. one_unbounded all limits first second a b;
  each = λ all limits limited ranges. each_unbounded all limits limited ranges;
  same = λ all limits ending ends kept. endings_stay all limits ending ends kept;
}
