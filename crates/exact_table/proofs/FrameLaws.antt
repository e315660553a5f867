-- Each call on a frame changes the frame's table as the definition's step does.
use Rattle.std.proofs.Common.{◌≡◌, ℕ, ◌+◌, ◌-◌, ◌<◌, ◌≤◌, Bool, true, false, List, length, set, take, refl, ap, ap₂, ◌∙◌, arith, ℤ}
use Rattle.std.proofs.lemmas.List.{take_more_set}
use Rattle.std.proofs.lemmas.Bool.{true≢false, false≢true}
use Rattle.define_rows.specs.Steps.{enter_stage, closed_by, settled_by}
use Rattle.exact_table.specs.Marks.{marks_of, settled_of, settled_marks}
use Rattle.exact_table.specs.Parts.{frame_of, IsFrame}
use Rattle.exact_table.proofs.MarkLaws.{marks_of-more, marks_of-settled_marks, settled_of-settled_marks}

module _ (sizes marks : List ℕ) (stages : ℕ) (columns : List (List ℕ)) (closed : List ℕ) (bits pivots : ℕ) where
  pub frame_entered : (in_stage : Bool) → in_stage ≡ false → IsFrame sizes marks stages columns closed in_stage bits →
      frame_of sizes marks (stages + 1) columns closed true bits pivots ≡ enter_stage (frame_of sizes marks stages columns closed in_stage bits pivots)
  unfolding enter_stage
  frame_entered true e h = absurd (true≢false e)
  frame_entered false e h =
      ap₂ (λ m k. record (frame_of sizes marks stages columns closed true bits pivots) { stages = m; closed = take k closed })
      (marks_of-more stages marks h.few h.marks) (let k : stages + 1 - 1 ≡ stages - 0 = omega arith in k)

  pub frame_closed : (row : ℕ) (xs : List ℤ) (in_stage : Bool) → in_stage ≡ true → IsFrame sizes marks stages columns closed in_stage bits → stages ≤ length closed →
      frame_of sizes (settled_marks (stages - 1) xs marks) stages columns (set closed (stages - 1) row) false bits pivots
      ≡ closed_by row xs (frame_of sizes marks stages columns closed in_stage bits pivots)
  unfolding closed_by
  frame_closed row xs false e h l = absurd (false≢true e)
  frame_closed row xs true e h l =
      let some : 0 < stages = h.entered refl in
      let k : stages - 0 ≡ (stages - 1) + 1 = omega arith in
      let room : stages - 1 < length closed = omega arith in
      let first : frame_of sizes (settled_marks (stages - 1) xs marks) stages columns (set closed (stages - 1) row) false bits pivots ≡ record (frame_of sizes marks stages columns closed true bits pivots) {
        stages = marks_of marks stages;
        settled = settled_by xs (settled_of marks);
        closed = take (stages - 0) (set closed (stages - 1) row);
        in_stage = false;
      } = ap₂ (λ m s. record (frame_of sizes marks stages columns closed false bits pivots) { stages = m; settled = s; closed = take (stages - 0) (set closed (stages - 1) row) })
      (marks_of-settled_marks stages xs marks some h.few) (settled_of-settled_marks stages (stages - 1) xs marks h.few (omega arith) h.marks) in
      first ∙ ap (λ c. record (frame_of sizes marks stages columns closed true bits pivots) { settled = settled_by xs (settled_of marks); closed = c; in_stage = false })
      (ap (λ n. take n (set closed (stages - 1) row)) k ∙ take_more_set closed (stages - 1) row room)
