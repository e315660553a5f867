use Rattle.laws_of_runs.proofs.Levels.{holds_from_levels}
use Rattle.laws_of_runs.proofs.levels_make_stages.Goals as goal

pub returns : goal.returns
returns c = λ pool lottery scale closed some hold levels. holds_from_levels pool lottery scale some closed hold levels
