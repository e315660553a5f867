use Rattle.std.proofs.Common.{◌≡◌, ◌∙◌, true, false, cond, Some, Err, ap, refl}
use Rattle.std.specs.Str.{is_utf8}
use Rattle.std.proofs.lemmas.Bool.{false_from_ne_true}
use Rattle.std.proofs.lemmas.Str.{IsUtf8-from_is_utf8, is_utf8-from_IsUtf8}
use Rattle.toml.specs.Parse.{parse_document}
use Rattle.toml.specs.View.{table_view}
use Rattle.define_imports.specs.Charters.{charter_of, fault, read_charter}
use Rattle.office_import.proofs.StopLemmas.{stop_for, reads_same}
use Rattle.office_import.proofs.charters.read_charter.Goals as goal

pub returns-in_default : goal.returns-in_default
returns-in_default c =
    let bytes = c.args.bytes.now in
    let none : is_utf8 bytes ≡ false = false_from_ne_true (is_utf8 bytes) (λ text. c.in_default.ensures.cases.0 (IsUtf8-from_is_utf8 bytes text)) in
    let said : read_charter bytes ≡ Err (record { place = 0; kind = 1 }) = rw none refl in
    stop_for (read_charter bytes) (record { place = 0; kind = 1 }) said c.fault_at.result c.fault_at.ensures

pub returns-in-Ok-table_from_str : goal.returns-in-Ok-table_from_str
returns-in-Ok-table_from_str c =
    let bytes = c.args.bytes.now in
    let text : is_utf8 bytes ≡ true = is_utf8-from_IsUtf8 bytes c.in-Ok.ensures.cases.1 in
    let read : parse_document bytes ≡ Some (table_view c.in-Ok-table_from_str.table) = rw c.in-Ok.ensures.cases.0 at c.in-Ok-table_from_str.ensures.ok in
    let same : read_charter bytes ≡ charter_of (Some (table_view c.in-Ok-table_from_str.table)) = ap (λ b. cond b (charter_of (parse_document bytes)) (fault 1)) text ∙ ap charter_of read in
    reads_same (charter_of (Some (table_view c.in-Ok-table_from_str.table))) (read_charter bytes) c.charter_of.result same c.charter_of.ensures
