use Rattle.std.proofs.Common.{◌≡◌, ◌+◌, ◌<◌, ◌≤◌, true, false, ap, ◌∙◌, sym, length, arith}
use Rattle.std.proofs.lemmas.List.FromFn.{length-map-range_with_len}
use Rattle.define_rows.specs.Steps.{enter_stage}
use Rattle.exact_table.proofs.FrameLaws.{frame_entered}
use Rattle.exact_table.proofs.MarkLaws.{AreMarks-later}
use Rattle.exact_table.specs.Marks.{unsettled_before}
use Rattle.exact_table.proofs.frame.Frame.enter.Goals as goal

pub returns : goal.returns
returns c =
    let shut : c.self.inside.in_stage ≡ false = ap (λ table. table.in_stage) c.self.view_is ∙ c.requires.closed in
    frame_entered c.self.inside.sizes.items c.self.inside.settled_at.items c.self.inside.stages c.self.inside.columns.items c.self.inside.closed.items c.self.inside.bits c.self.inside.pivots c.self.inside.in_stage shut c.self.invariant ∙ ap enter_stage c.self.view_is

pub invariant_of-self : goal.invariant_of-self
invariant_of-self c =
    let marks = c.self.inside.settled_at.items in let stages = c.self.inside.stages in let was = c.self.invariant in
    let entered = sym (ap (λ table. length table.stages) c.self.view_is) ∙ length-map-range_with_len (unsettled_before marks) 0 stages in
    let sizes = ap (λ table. length table.sizes) c.self.view_is in
    let few = c.requires.few in let most = c.requires.sizes in
    record {
      some_each = was.some_each;
      marks_each = was.marks_each;
      marks = AreMarks-later stages marks was.marks;
      few = omega (arith, entered, sizes, few, most);
      entered = λ is_open. omega arith;
      room = was.room;
      closed_few = omega (arith, entered, sizes, few);
      count_each = was.count_each;
      count_bound = was.count_bound;
      some_bits = was.some_bits;
      few_bits = was.few_bits;
    }
