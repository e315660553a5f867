use Rattle.std.proofs.Common.{◌∙◌, sym, length}
use Rattle.std.proofs.lemmas.Result.{err_from_is_err_and}
use Rattle.define_bundles.specs.Ranges.{is_stage}
use Rattle.cert_check.proofs.Stages.{new_answer, new_earlier, new_later, refusing, same_lottery, same_pool, stopping}
use Rattle.cert_check.proofs.checking.stages_verdict.Goals as goal

pub returns-in_err-verdict : goal.returns-in_err-verdict
returns-in_err-verdict c =
    let course = c.loop-stage.course in
    let out = err_from_is_err_and c.from_residual.result c.from_residual.ensures.1 in
    rw (out.1, out.2)
    (stopping c.args.course.pool c.args.course.lottery c.args.nodes c.args.stages.now c.loop-stage.stage-index course c.stage-item.result c.loop-stage-test.true c.stage-item.is c.loop-stage.invariant.later c.loop-stage.invariant.same
    c.in_err-verdict.field-0.0 c.in_err-verdict.ensures)

pub returns-then-not-is_valid : goal.returns-then-not-is_valid
returns-then-not-is_valid c =
    refusing c.args.course.pool c.args.course.lottery c.args.nodes c.args.stages.now c.loop-stage.stage-index c.loop-stage.course c.stage-item.result c.loop-stage-test.true c.stage-item.is c.loop-stage.invariant.later c.loop-stage.invariant.same
    c.in_ok-verdict.verdict c.in_ok-verdict.ensures (sym c.is_valid.ensures ∙ c.if-not-is_valid.true)

pub loop-stage-preserved : goal.loop-stage-preserved
loop-stage-preserved c =
    let pool = c.args.course.pool in
    let lottery = c.args.course.lottery in
    let stages = c.args.stages.now in
    let course = c.loop-stage.course in
    let new = c.settle.new.self in
    let j = c.loop-stage.stage-index in
    let stage = c.stage-item.result in
    let later = c.loop-stage.invariant.later in
    let same = c.loop-stage.invariant.same in
    let valid = sym c.is_valid.ensures ∙ c.if-not-is_valid.false in
    record {
      pool = same_pool pool lottery c.args.nodes stages j course stage c.loop-stage-test.true c.stage-item.is later same c.in_ok-verdict.verdict c.in_ok-verdict.ensures valid new c.settle.ensures ∙ c.loop-stage.invariant.pool;
      lottery = same_lottery pool lottery c.args.nodes stages j course stage c.loop-stage-test.true c.stage-item.is later same c.in_ok-verdict.verdict c.in_ok-verdict.ensures valid new c.settle.ensures ∙ c.loop-stage.invariant.lottery;
      later = new_later pool lottery c.args.nodes stages j course stage c.loop-stage-test.true c.stage-item.is later same c.in_ok-verdict.verdict c.in_ok-verdict.ensures valid new c.settle.ensures;
      earlier = new_earlier pool lottery c.args.nodes stages j course stage c.loop-stage-test.true c.stage-item.is later same c.in_ok-verdict.verdict c.in_ok-verdict.ensures valid new c.settle.ensures
          (is_stage (length pool.volunteers)) c.requires.ranges c.loop-stage.invariant.earlier;
      same = new_answer pool lottery c.args.nodes stages j course stage c.loop-stage-test.true c.stage-item.is later same c.in_ok-verdict.verdict c.in_ok-verdict.ensures valid new c.settle.ensures;
    }
