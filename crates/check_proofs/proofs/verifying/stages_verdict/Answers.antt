use Rattle.std.proofs.Common.{◌≡◌, ◌+◌, ◌<◌, true, get_or, List, [], ◌∷◌, drop, length, sym, ap, ap₂, ◌∙◌, subst, arith}
use Rattle.std.specs.List.{list_all}
use Rattle.std.proofs.lemmas.Bool.{and_from}
use Rattle.check_reasons.specs.Courses.{Course, passed}
use Rattle.check_reasons.specs.Sayings.{holds}
use Rattle.define_pools.proofs.Each.{passes_at}
use Rattle.define_pools.specs.Pool.{Pool}
use Rattle.define_proofs.specs.TreeRanges.{is_tree_line}
use Rattle.define_proofs.specs.LeafSums.{is_stage_in_reach}
use Rattle.define_proofs.specs.TreeLines.{TreeLine}
use Rattle.check_proofs.specs.Kept.{AreConstraintsOf}
use Rattle.define_proofs.specs.ProofSteps.{verdict_from}
use Rattle.check_proofs.proofs.KeptRows.{kept_on, next_within}
use Rattle.check_proofs.proofs.Stages.{going_on, of_stage, reaches_so_far, refusing, stages_from}
use Rattle.check_proofs.proofs.verifying.stages_verdict.Goals as goal

pub stage_verdict-requires-clause-lines : goal.stage_verdict-requires-clause-lines
stage_verdict-requires-clause-lines c =
    let trees = c.args.trees.now in
    let k = c.loop-k.k in
    let has_tree : k < length trees = omega (arith, c.requires.one_each, c.loop-k-test.true) in
    let many = length c.args.course.pool.volunteers in
    let here : list_all (is_tree_line many) (get_or trees k c.index-trees-k.result) ≡ true = passes_at (list_all (is_tree_line many)) trees k c.index-trees-k.result c.requires.lines has_tree in
    let lines : c.lines-lines.result.now ≡ get_or trees k c.index-trees-k.result = c.lines-lines.ensures ∙ c.index-trees-k.is in
    ap (λ (pool : Pool). list_all (is_tree_line (length pool.volunteers)) c.lines-lines.result.now) c.loop-k.invariant.pool
    ∙ ap (list_all (is_tree_line many)) lines ∙ here

pub pass-requires : goal.pass-requires
pass-requires c =
    let old = c.loop-k.constraints in
    next_within c.args.course.pool c.loop-k.course.earlier old.rows.items old.next c.loop-k.invariant.kept

pub returns-then-not-is_valid : goal.returns-then-not-is_valid
returns-then-not-is_valid c =
    let pool = c.args.course.pool in
    let lottery = c.args.course.lottery in
    let stages = c.args.stages.now in
    let trees = c.args.trees.now in
    let k = c.loop-k.k in
    let earlier = c.loop-k.course.earlier in
    let stage = c.index-stages-k.result in
    let lines = c.index-trees-k.result in
    let number = c.loop-k.number in
    let has_tree : k < length trees = omega (arith, c.requires.one_each) in
    let said = c.in_ok-verdict.ensures
    ∙ ap₂ (λ pool lottery. of_stage pool lottery earlier stage number c.lines-lines.result.now) c.loop-k.invariant.pool c.loop-k.invariant.lottery
    ∙ ap (of_stage pool lottery earlier stage number) c.lines-lines.ensures in
    refusing pool lottery stages trees k earlier stage lines number c.loop-k-test.true c.index-stages-k.is has_tree c.index-trees-k.is
    (verdict_from pool lottery [] stages c.args.first trees) c.loop-k.invariant.same c.in_ok-verdict.verdict said (sym c.is_valid.ensures ∙ c.if-not-is_valid.true)

pub loop-k-preserved : goal.loop-k-preserved
loop-k-preserved c =
    let pool = c.args.course.pool in
    let lottery = c.args.course.lottery in
    let stages = c.args.stages.now in
    let trees = c.args.trees.now in
    let k = c.loop-k.k in
    let course = c.loop-k.course in
    let earlier = course.earlier in
    let stage = c.index-stages-k.result in
    let lines = c.index-trees-k.result in
    let number = c.loop-k.number in
    let old = c.loop-k.constraints in
    let kept = c.pass.new.self in
    let next = c.in_ok-number.number in
    let new = c.settle.new.self in
    let whole = verdict_from pool lottery [] stages c.args.first trees in
    let same = c.loop-k.invariant.same in
    let has_tree : k < length trees = omega (arith, c.requires.one_each) in
    let verdict = c.in_ok-verdict.verdict in
    let said : verdict ≡ of_stage pool lottery earlier stage number lines = c.in_ok-verdict.ensures
    ∙ ap₂ (λ pool lottery. of_stage pool lottery earlier stage number c.lines-lines.result.now) c.loop-k.invariant.pool c.loop-k.invariant.lottery
    ∙ ap (of_stage pool lottery earlier stage number) c.lines-lines.ensures in
    let valid : holds verdict ≡ true = sym c.is_valid.ensures ∙ c.if-not-is_valid.false in
    let later : course.later ≡ stage ∷ drop (k + 1) stages =
    c.loop-k.invariant.later ∙ stages_from pool lottery stages trees k earlier stage lines number c.loop-k-test.true c.index-stages-k.is has_tree c.index-trees-k.is whole same in
    let passes : new ≡ record course { earlier = stage ∷ earlier; later = drop (k + 1) stages } = c.settle.ensures ∙ ap (passed course) later in
    let now_earlier : new.earlier ≡ stage ∷ earlier = ap (λ (it : Course). it.earlier) passes in
    let counted : next ≡ number + length lines + 1 =
    let first = c.in_ok-lines_after.ensures in let second = c.in_ok-number.ensures in let many = ap (λ (those : List TreeLine). length those) c.lines-lines.ensures in omega (arith, first, second, many) in
    record {
      pool = ap (λ (it : Course). it.pool) passes ∙ c.loop-k.invariant.pool;
      lottery = ap (λ (it : Course). it.lottery) passes ∙ c.loop-k.invariant.lottery;
      later = ap (λ (it : Course). it.later) passes;
      near = ap (list_all is_stage_in_reach) now_earlier
          ∙ and_from (is_stage_in_reach stage) (list_all is_stage_in_reach earlier) (reaches_so_far pool lottery earlier stage number lines (ap holds (sym said) ∙ valid)) c.loop-k.invariant.near;
      kept = subst (λ those. AreConstraintsOf pool those kept.rows.items kept.next) (sym now_earlier)
          (kept_on pool earlier old.rows.items old.next c.loop-k.invariant.kept stage kept.rows.items kept.next c.in_ok-pass.ensures.rows c.in_ok-pass.ensures.next);
      same = going_on pool lottery stages trees k earlier stage lines number c.loop-k-test.true c.index-stages-k.is has_tree c.index-trees-k.is whole same verdict next said valid counted
          ∙ ap (λ those. verdict_from pool lottery those (drop (k + 1) stages) next (drop (k + 1) trees)) (sym now_earlier);
    }
