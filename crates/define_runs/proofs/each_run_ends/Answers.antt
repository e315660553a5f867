use Rattle.define_runs.proofs.Work.{every_end, every_run_end, step_lessens}
use Rattle.define_runs.proofs.each_run_ends.Goals as goal

pub returns : goal.returns
returns c = record {
  less = λ all limits table next limited keeps e. step_lessens all limits table limited keeps next e;
  classes = λ all limits limited ranges. every_end all limits limited ranges;
  pool = λ pool limits is_pool ranges. every_run_end pool limits is_pool ranges;
}
