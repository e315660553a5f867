use Rattle.define_checks.proofs.StageRows.{rows_have_entries, rows_have_reach}
use Rattle.define_checks.proofs.stage_rows_keep_reach.Goals as goal

pub returns : goal.returns
returns c = record { entries = rows_have_entries; reach = rows_have_reach }
