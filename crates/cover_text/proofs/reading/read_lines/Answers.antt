use Rattle.std.proofs.Common.{arith, sym, subst}
use Rattle.define_lines.proofs.LineByLine.{leads_on}
use Rattle.define_covers.specs.CoverReading.{read_cover, reader}
use Rattle.define_covers.proofs.Spelled.{IsRight, line_adds}
use Rattle.cover_text.specs.declared.progress.Progress.{Progress}
use Rattle.cover_text.specs.Progress.{seen}
use Rattle.cover_text.proofs.LineByLine.{stops_at, closed_right}
use Rattle.cover_text.proofs.reading.read_lines.Goals as goal

pub returns-in-Err : goal.returns-in-Err
returns-in-Err c =
    stops_at Progress c.loop-line.number (seen c.loop-line.progress) c.loop-line.unread.now c.in-Some.line.now c.in-Some.later.now c.in-Some.ensures.some
    (read_cover c.args.bytes.now) c.loop-line.invariant.same c.in-Err.stop c.in-Err.ensures.kind c.stop_at.result c.stop_at.ensures

pub last-requires : goal.last-requires
last-requires c = closed_right (seen c.loop-line.progress) c.loop-line.invariant.right

pub loop-line-preserved : goal.loop-line-preserved
loop-line-preserved c = record {
  same = leads_on reader c.loop-line.number (seen c.loop-line.progress) c.loop-line.unread.now c.in-Some.line.now c.in-Some.later.now c.in-Some.ensures.some
      (read_cover c.args.bytes.now) c.loop-line.invariant.same (seen c.in-Ok.next) c.in-Ok.ensures.kind c.in-Ok.ensures.ok;
  few = let less = c.in-Some.ensures.shorter in let few = c.loop-line.invariant.few in omega arith;
  right = subst IsRight (sym c.in-Ok.ensures.ok) (line_adds (seen c.loop-line.progress) c.in-Some.line.now c.loop-line.invariant.right c.in-Ok.ensures.kind).0;
}
