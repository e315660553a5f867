use Rattle.std.proofs.Common.{◌≡◌, ◌+◌, [], drop, map}
use Rattle.csv.specs.Records.{fields_of}
use Rattle.define_imports.specs.Cells.{read_from}
use Rattle.define_imports.specs.Rules.{after_rule, rule_kind}
use Rattle.office_import.proofs.rules.drafts_of.Given as goal

-- reading the records from `index` on, with `drafts` as what was read before, returns what reading all records returns
abbrev pub invariant-loop-index : goal.invariant-loop-index
invariant-loop-index l = read_from (rule_kind (fields_of l.header)) (after_rule (fields_of l.header)) (l.index + 2) l.drafts.items (map fields_of (drop l.index l.rows))
    ≡ read_from (rule_kind (fields_of l.header)) (after_rule (fields_of l.header)) 2 [] (map fields_of l.rows)
