use Rattle.std.proofs.Common.{sym, ◌∙◌, arith}
use Rattle.office_requests.proofs.AskingLaws.{none_left}
use Rattle.office_requests.proofs.Wants.{with_encoding, with_much, with_request, without_size}
use Rattle.office_requests.proofs.heads.wanted_of.Goals as goal

pub returns-in_default-clause-asks : goal.returns-in_default-clause-asks
returns-in_default-clause-asks c h at rest =
    without_size c.args.head.now c.args.fields.now c.args.spans.now h rest at (sym (none_left c.body_size.result c.in_default.not-Some) ∙ c.body_size.ensures)

pub returns-then-body-gt-MOST_OF_BODY-clause-asks : goal.returns-then-body-gt-MOST_OF_BODY-clause-asks
returns-then-body-gt-MOST_OF_BODY-clause-asks c h at rest =
    with_much c.args.head.now c.args.fields.now c.args.spans.now h rest c.in-Some.body at (sym c.in-Some.is ∙ c.body_size.ensures) (omega arith)

pub returns-then-is_encoded-clause-asks : goal.returns-then-is_encoded-clause-asks
returns-then-is_encoded-clause-asks c h at rest =
    with_encoding c.args.head.now c.args.fields.now c.args.spans.now h rest c.in-Some.body c.is_encoded.result at
    (sym c.in-Some.is ∙ c.body_size.ensures) (omega arith) c.is_encoded.ensures c.if-is_encoded.true

pub returns-clause-asks : goal.returns-clause-asks
returns-clause-asks c h at rest =
    with_request c.args.head.now c.args.fields.now c.args.spans.now h rest c.in-Some.body c.is_encoded.result c.in_ok-request_of.field-0 at
    (sym c.in-Some.is ∙ c.body_size.ensures) (omega arith) c.is_encoded.ensures c.if-is_encoded.false c.in_ok-request_of.ensures
