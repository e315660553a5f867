use Rattle.std.proofs.Common.{◌∙◌, ℕ, Bool, not, Vec, Global, sym, ap}
use Rattle.std.specs.List.{list_any, range_with_len}
use Rattle.define_searches.specs.Classes.{Class, are_alike as alike, class_by}
use Rattle.define_searches.proofs.Filters.{mapped_passed, mapped_taken}
use Rattle.alike.proofs.grouping.groups.Goals.{then-leads+in_ok-group+in_ok-push, else-leads}
use Rattle.alike.proofs.grouping.groups.Goals as goal

pub loop-i-preserved : goal.loop-i-preserved
loop-i-preserved c =
    let pool = c.args.pool.now in
    let leads : ℕ → Bool = λ i. not (list_any (λ j. alike pool j i) (range_with_len 0 i)) in
    elim c.if-leads.branch [
      | then-leads+in_ok-group+in_ok-push w ↦
          mapped_taken (class_by (alike pool) pool) leads c.loop-i.i c.loop-i.found.items c.if-leads.found.items w.in_ok-group.field-0 (sym w.if-leads.ensures) w.in_ok-group.ensures
          c.loop-i.invariant (ap (λ (found : Vec Class Global). found.items) w.found-is ∙ w.in_ok-push.ensures.items)
      | else-leads w ↦
          mapped_passed (class_by (alike pool) pool) leads c.loop-i.i c.loop-i.found.items c.if-leads.found.items (sym w.if-leads.ensures)
          c.loop-i.invariant (ap (λ (found : Vec Class Global). found.items) w.found-is)
    ]
