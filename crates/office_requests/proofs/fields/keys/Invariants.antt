use Rattle.std.proofs.Common.{codes}
use Rattle.office_requests.proofs.FieldLaws.{AreValuesAt}
use Rattle.office_requests.proofs.fields.keys.Given as goal

abbrev pub invariant-loop-field : goal.invariant-loop-field
invariant-loop-field l = AreValuesAt (codes "office-key") l.head l.fields l.field-index l.keys.items
