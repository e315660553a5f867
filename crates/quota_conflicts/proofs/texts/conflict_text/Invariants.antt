use Rattle.std.proofs.Common.{◌≡◌, take}
use Rattle.std.specs.List.{flat_map}
use Rattle.define_quotas.specs.ConflictText.{quota_line}
use Rattle.quota_conflicts.proofs.texts.conflict_text.Given as goal

-- `text` has the lines of the quotas read so far
abbrev pub invariant-loop-quota : goal.invariant-loop-quota
invariant-loop-quota l = l.text.items ≡ flat_map (quota_line l.pool) (take l.quota-index l.conflict.quotas)
