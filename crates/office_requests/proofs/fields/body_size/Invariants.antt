use Rattle.std.proofs.Common.{codes, length, IfSome}
use Rattle.httparse.specs.Spans.{IsWithin}
use Rattle.office_requests.proofs.FieldLaws.{AreValuesAt, found_value}
use Rattle.office_requests.proofs.fields.body_size.Given as goal

abbrev pub invariant-loop-field : goal.invariant-loop-field
invariant-loop-field l = record {
  values : AreValuesAt (codes "content-length") l.head l.fields l.field-index (found_value l.head l.found);
  within : IfSome l.found (IsWithin (length l.head));
}
