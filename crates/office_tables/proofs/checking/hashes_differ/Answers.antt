use Rattle.std.proofs.Common.{◌≡◌, ℕ, true, false, List, take, sym, ap, ◌∙◌}
use Rattle.std.proofs.lemmas.Bool.{not-false, not-true}
use Rattle.define_offices.specs.Tables.{Entry}
use Rattle.office_tables.proofs.Different.{all_read, came, comes_again, in_set, kept_more, once_more}
use Rattle.office_tables.proofs.checking.hashes_differ.Goals as goal

abbrev part : Entry → List ℕ
part entry = entry.hash

pub returns-then-not-is_new : goal.returns-then-not-is_new
returns-then-not-is_new c =
    let rows = c.args.register.now in
    let row = c.entry-item.result in
    let set = c.loop-entry.earlier in
    let key = c.as_bytes.ensures ∙ c.hash-hash.ensures in
    let had : in_set set c.as_bytes.result.now ≡ true = not-false (in_set set c.as_bytes.result.now) (sym c.in_ok-is_new.ensures.added ∙ c.if-not-is_new.true) in
    let before : came part (take c.loop-entry.entry-index rows) row.hash ≡ true = sym (c.loop-entry.invariant.kept row.hash) ∙ ap (in_set set) (sym key) ∙ had in
    sym (comes_again part rows c.loop-entry.entry-index row c.loop-entry-test.true c.entry-item.is before)

pub loop-entry-preserved : goal.loop-entry-preserved
loop-entry-preserved c =
    let rows = c.args.register.now in
    let row = c.entry-item.result in
    let set = c.loop-entry.earlier in
    let key = c.as_bytes.ensures ∙ c.hash-hash.ensures in
    let new : in_set set c.as_bytes.result.now ≡ false = not-true (in_set set c.as_bytes.result.now) (sym c.in_ok-is_new.ensures.added ∙ c.if-not-is_new.false) in
    let before : came part (take c.loop-entry.entry-index rows) row.hash ≡ false = sym (c.loop-entry.invariant.kept row.hash) ∙ ap (in_set set) (sym key) ∙ new in
    record {
      once = once_more part rows c.loop-entry.entry-index row c.loop-entry-test.true c.entry-item.is c.loop-entry.invariant.once before;
      kept = kept_more part rows c.loop-entry.entry-index row c.as_bytes.result set c.insert.new.self c.loop-entry-test.true c.entry-item.is key c.loop-entry.invariant.kept c.in_ok-is_new.ensures.updates;
    }

pub returns : goal.returns
returns c = all_read part c.args.register.now c.loop-entry.entry-index c.loop-entry-test.false c.loop-entry.invariant.once
