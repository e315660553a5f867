use Rattle.define_searches.proofs.Parting.{all_counted, classes_part}
use Rattle.define_searches.proofs.classes_part_volunteers.Goals as goal

pub returns : goal.returns
returns c = record { part = classes_part; count = all_counted }
