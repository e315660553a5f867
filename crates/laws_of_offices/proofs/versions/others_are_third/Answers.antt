use Rattle.laws_of_offices.proofs.Third.{changes_decide_versions, others_are_third}
use Rattle.laws_of_offices.proofs.versions.others_are_third.Goals as goal

pub returns : goal.returns
returns c = record { third = others_are_third; exactly = changes_decide_versions }
