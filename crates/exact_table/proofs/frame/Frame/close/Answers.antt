use Rattle.std.proofs.Common.{◌≡◌, ℕ, ◌-◌, ◌<◌, ◌≤◌, Bool, true, false, List, length, set, take, ℤ, sym, ap, ◌∙◌, subst, arith, rules, length-set}
use Rattle.std.specs.Vec.{with_items}
use Rattle.std.proofs.lemmas.List.{with_items_is, length-take}
use Rattle.define_rows.specs.Steps.{closed_by}
use Rattle.exact_table.specs.Marks.{settled_marks}
use Rattle.exact_table.specs.Parts.{closed_count, frame_of, IsFrame}
use Rattle.exact_table.proofs.MarkLaws.{AreMarks-settled_marks, length-settled_marks}
use Rattle.exact_table.proofs.FrameLaws.{frame_closed}
use Rattle.exact_table.proofs.frame.Frame.close.Goals as goal

kept : (sizes marks : List ℕ) (stages : ℕ) (columns : List (List ℕ)) (closed : List ℕ) (bits row : ℕ) (xs : List ℤ) (in_stage : Bool) → in_stage ≡ true →
    IsFrame sizes marks stages columns closed in_stage bits → stages ≤ length closed →
    IsFrame sizes (settled_marks (stages - 1) xs marks) stages columns (set closed (stages - 1) row) false bits
kept sizes marks stages columns closed bits row xs in_stage e h l =
    let some : 0 < stages = h.entered e in
    record {
      some_each = h.some_each;
      marks_each = length-settled_marks (stages - 1) xs marks ∙ h.marks_each;
      marks = AreMarks-settled_marks stages (stages - 1) xs marks (omega arith) h.marks;
      few = h.few;
      entered = λ f. some;
      room = length-set closed (stages - 1) row ∙ h.room;
      closed_few = omega (arith, h.room);
      count_each = h.count_each;
      count_bound = h.count_bound;
      some_bits = h.some_bits;
      few_bits = h.few_bits;
    }

-- if a stage is open and not every class has a closed row, `closed` has a place for the stage's row
fits : (sizes marks : List ℕ) (stages : ℕ) (columns : List (List ℕ)) (closed : List ℕ) (bits : ℕ) (in_stage : Bool) → in_stage ≡ true →
    IsFrame sizes marks stages columns closed in_stage bits → length (take (closed_count stages in_stage) closed) < length sizes → stages ≤ length closed
fits sizes marks stages columns closed bits true e h l = omega (arith, length-take (stages - 1) closed, h.room)
fits sizes marks stages columns closed bits false e h l = absurd cc

pub invariant_of-self : goal.invariant_of-self
invariant_of-self c =
    let open_now : c.self.inside.in_stage ≡ true = ap (λ table. table.in_stage) c.self.view_is ∙ c.requires.open in
    let l = fits c.self.inside.sizes.items c.self.inside.settled_at.items c.self.inside.stages c.self.inside.columns.items c.self.inside.closed.items c.self.inside.bits c.self.inside.in_stage open_now c.self.invariant (subst (λ table. length table.closed < length table.sizes) (sym c.self.view_is) c.requires.room) in
    let items : (with_items c.self.inside.settled_at c.settle.new.settled_at).items ≡ c.settle.new.settled_at = with_items_is c.self.inside.settled_at c.settle.new.settled_at (search rules) in
    let marked : c.settle.new.settled_at ≡ settled_marks (c.self.inside.stages - 1) c.args.entries.now c.self.inside.settled_at.items = c.settle.ensures ∙ ap (settled_marks (c.self.inside.stages - 1) c.args.entries.now) c.deref_mut.ensures.value in
    subst (λ marks. IsFrame c.self.inside.sizes.items marks c.self.inside.stages c.self.inside.columns.items (set c.self.inside.closed.items (c.self.inside.stages - 1) c.args.row) false c.self.inside.bits) (sym (items ∙ marked))
    (kept c.self.inside.sizes.items c.self.inside.settled_at.items c.self.inside.stages c.self.inside.columns.items c.self.inside.closed.items c.self.inside.bits c.args.row c.args.entries.now c.self.inside.in_stage open_now c.self.invariant l)

pub returns : goal.returns
returns c =
    let open_now : c.self.inside.in_stage ≡ true = ap (λ table. table.in_stage) c.self.view_is ∙ c.requires.open in
    let l = fits c.self.inside.sizes.items c.self.inside.settled_at.items c.self.inside.stages c.self.inside.columns.items c.self.inside.closed.items c.self.inside.bits c.self.inside.in_stage open_now c.self.invariant (subst (λ table. length table.closed < length table.sizes) (sym c.self.view_is) c.requires.room) in
    let items : (with_items c.self.inside.settled_at c.settle.new.settled_at).items ≡ c.settle.new.settled_at = with_items_is c.self.inside.settled_at c.settle.new.settled_at (search rules) in
    let marked : c.settle.new.settled_at ≡ settled_marks (c.self.inside.stages - 1) c.args.entries.now c.self.inside.settled_at.items = c.settle.ensures ∙ ap (settled_marks (c.self.inside.stages - 1) c.args.entries.now) c.deref_mut.ensures.value in
    ap (λ marks. frame_of c.self.inside.sizes.items marks c.self.inside.stages c.self.inside.columns.items (set c.self.inside.closed.items (c.self.inside.stages - 1) c.args.row) false c.self.inside.bits c.self.inside.pivots) (items ∙ marked)
    ∙ frame_closed c.self.inside.sizes.items c.self.inside.settled_at.items c.self.inside.stages c.self.inside.columns.items c.self.inside.closed.items c.self.inside.bits c.self.inside.pivots c.args.row c.args.entries.now c.self.inside.in_stage open_now c.self.invariant l
    ∙ ap (closed_by c.args.row c.args.entries.now) c.self.view_is
