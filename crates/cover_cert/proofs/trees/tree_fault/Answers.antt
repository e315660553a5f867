use Rattle.std.proofs.Common.{[], Some, sym, ap, ◌∙◌, arith}
use Rattle.define_proofs.specs.TreeLines.{fault}
use Rattle.define_covers.specs.CoverVerdict.{fault_from}
use Rattle.define_covers.proofs.Lines.{line_passed, line_refused}
use Rattle.cover_cert.proofs.trees.tree_fault.Goals as goal

pub loop-k-preserved : goal.loop-k-preserved
loop-k-preserved g c =
    let all = c.args.terms.now.classes in let closed = c.args.terms.now.closed.items in let row = c.args.terms.now.row in
    let lines = c.args.lines.now in
    record {
      begins = c.in_ok-next.ensures.again;
      within = rw c.in-Ok.is at c.in_ok-next.ensures.within;
      same = line_passed all closed row c.args.number c.loop-k.k lines c.index-lines-k.result c.loop-k.place (fault_from all closed row c.args.number (Some []) lines) c.loop-k-test.true c.index-lines-k.is c.loop-k.invariant.same c.in-Ok.next
          (sym c.in-Ok.is ∙ c.in_ok-next.ensures.step);
      few = omega (arith, c.pass_line.ensures.one, c.loop-k.invariant.few);
    }

pub returns-in-Err-clause-fault : goal.returns-in-Err-clause-fault
returns-in-Err-clause-fault g c =
    let all = c.args.terms.now.classes in let closed = c.args.terms.now.closed.items in let row = c.args.terms.now.row in
    let lines = c.args.lines.now in
    ap Some c.new-in-Err.ensures ∙ ap (λ n. fault n c.in-Err.reason) c.in_ok-lines_after-in-Err.ensures
    ∙ sym (line_refused all closed row c.args.number c.loop-k.k lines c.index-lines-k.result c.loop-k.place (fault_from all closed row c.args.number (Some []) lines) c.loop-k-test.true c.index-lines-k.is c.loop-k.invariant.same c.in-Err.reason
    (sym c.in-Err.is ∙ c.in_ok-next.ensures.step))
