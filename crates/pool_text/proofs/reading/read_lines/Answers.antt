use Rattle.std.specs.Prelude.{Result, Err}
use Rattle.define_pools.specs.Pool.{Pool}
use Rattle.pool_text.specs.declared.faults.ReadPool.{ReadPool}
use Rattle.define_lines.specs.Lines.{pieces_of}
use Rattle.define_lines.proofs.LineLemmas.{some_piece}
use Rattle.std.proofs.Common.{◌≡◌, ◌≤◌, ◌+◌, ℕ, suc, List, length, refl, arith, sym, subst, ap, ◌∙◌}
use Rattle.define_lines.proofs.LineByLine.{leads_on}
use Rattle.define_lines.specs.Reading.{read_lines}
use Rattle.define_bundles.specs.PoolReading.{read, reader}
use Rattle.pool_text.specs.Answers.{IsRightBefore}
use Rattle.pool_text.specs.declared.progress.Progress.{Progress}
use Rattle.pool_text.specs.Progress.{seen, line_due}
use Rattle.pool_text.proofs.LineByLine.{stops_at, next_due, earlier, reads_from, memory_wanted}
use Rattle.pool_text.proofs.reading.read_lines.Goals as goal

pub returns-in-Err-clause-exact : goal.returns-in-Err-clause-exact
returns-in-Err-clause-exact c =
    stops_at Progress c.loop-line.number (seen c.loop-line.progress) c.loop-line.rest.now c.in-Some.line.now c.in-Some.later.now c.in-Some.ensures.some
    (read c.args.bytes.now) c.loop-line.invariant.same c.in-Err.stop c.in-Err.ensures.kind c.stop_at.result c.stop_at.ensures

pub returns-in-Err-clause-memory : goal.returns-in-Err-clause-memory
returns-in-Err-clause-memory c wanted =
    let number = c.loop-line.number in
    let progress = seen c.loop-line.progress in
    let stop = memory_wanted c.in-Err.stop number (sym c.stop_at.ensures ∙ same_error c.stop_at.result _ _ refl wanted) in
    let inside = c.in-Err.ensures.memory (ap Err stop) in
    let due = c.loop-line.invariant.due in
    let three : 3 ≤ number = omega arith in
    let pieces : length (pieces_of c.loop-line.rest.now) ≡ suc (length (pieces_of c.in-Some.later.now)) = ap (λ (ps : List (List ℕ)). length ps) c.in-Some.ensures.some in
    let some = some_piece c.in-Some.later.now in
    let more : length (pieces_of c.in-Some.later.now) ≡ suc (length some.1) = ap (λ (ps : List (List ℕ)). length ps) some.2 in
    let all = c.loop-line.invariant.count in (
      subst (IsRightBefore 3) c.loop-line.invariant.same (earlier 3 number (read_lines reader number progress (pieces_of c.loop-line.rest.now)) three (reads_from number progress (pieces_of c.loop-line.rest.now))),
      omega (arith, pieces, more),
    )
  where
    same_error : (x y : ReadPool) (r : Result Pool ReadPool) → r ≡ Err x → r ≡ Err y → x ≡ y
    same_error x y r h k = cc

pub loop-line-preserved : goal.loop-line-preserved
loop-line-preserved c = record {
  same = leads_on reader c.loop-line.number (seen c.loop-line.progress) c.loop-line.rest.now c.in-Some.line.now c.in-Some.later.now c.in-Some.ensures.some
      (read c.args.bytes.now) c.loop-line.invariant.same (seen c.in-Ok.next) c.in-Ok.ensures.kind c.in-Ok.ensures.ok;
  few = let less = c.in-Some.ensures.shorter in let few = c.loop-line.invariant.few in omega arith;
  due = subst (λ p. line_due p ≤ c.loop-line.number + 1) (sym c.in-Ok.ensures.ok) (next_due (seen c.loop-line.progress) c.in-Some.line.now c.loop-line.number c.loop-line.invariant.due);
  count = let one : length (pieces_of c.loop-line.rest.now) ≡ suc (length (pieces_of c.in-Some.later.now)) = ap (λ (ps : List (List ℕ)). length ps) c.in-Some.ensures.some in let all = c.loop-line.invariant.count in omega (arith, one);
}
