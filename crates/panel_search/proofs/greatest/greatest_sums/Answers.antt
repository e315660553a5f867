use Rattle.std.proofs.Common.{◌≡◌, ◌+◌, ◌-◌, ◌++◌, length, arith, sym, ap, ◌∙◌, subst}
use Rattle.std.proofs.lemmas.List.{with_items_is}
use Rattle.define_searches.specs.Weights.{HoldsSums, units_from}
use Rattle.define_searches.proofs.UnitSums.{table_more, greatest_same}
use Rattle.panel_search.proofs.greatest.greatest_sums.Goals as goal

pub loop-later-preserved : goal.loop-later-preserved
loop-later-preserved c =
    let all = c.args.classes.now in let entries = c.args.entries.now in let loop = c.loop-later in let sums = c.put_class-units.new.sums in
    let place = length entries - 1 - loop.later in
    let down : loop.later + 1 + place ≡ length all.classes = omega (arith, c.requires.one_each) in
    let items = with_items_is loop.sums sums (c.put_class-units.ensures.same ∙ ap length c.deref_mut.ensures.value ∙ sym loop.sums.ok.0) in
    let long : length sums ≡ all.size + 1 = c.put_class-units.ensures.same ∙ ap length c.deref_mut.ensures.value ∙ loop.invariant.same in
    let table = table_more all entries (loop.later + 1) place loop.table.items sums down loop.invariant.table long c.put_class-units.ensures.greatest in
    let written = c.in_ok-extend_from_slice-2.ensures.items ∙ ap (λ xs. loop.table.items ++ xs) (c.deref-in-loop-later.ensures.value ∙ items) in
    record {
      same = ap length items ∙ long;
      units = λ p e. let here : place ≡ p = omega arith in c.put_class-units.ensures.units ∙ ap (λ q. length (units_from all entries q)) here;
      greatest = λ p e. greatest_same all entries place p sums _ (omega arith) items c.put_class-units.ensures.greatest;
      table = subst (HoldsSums all entries (loop.later + 1 + 1)) (sym written) table;
    }
