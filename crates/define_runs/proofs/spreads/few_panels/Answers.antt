use Rattle.std.proofs.Common.{◌<◌, ◌≤◌, length, sym, subst}
use Rattle.define_searches.specs.Classes.{classes_by}
use Rattle.define_searches.proofs.Parting.{all_counted}
use Rattle.define_runs.specs.Spreading.{rows_of}
use Rattle.define_runs.proofs.FewPanels.{few_rows}
use Rattle.define_runs.proofs.spreads.few_panels.Goals as goal

pub returns : goal.returns
returns c pool alike total part makes some =
    let many = all_counted pool alike makes in
    let few = few_rows (classes_by alike pool) total part (subst (λ n. 0 < n) (sym many) some) in
    (few.0, subst (λ n. length (rows_of (classes_by alike pool) total part) ≤ n) many few.1)
