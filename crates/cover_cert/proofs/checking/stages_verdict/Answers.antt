use Rattle.std.proofs.Common.{◌≡◌, ◌+◌, ◌<◌, true, List, [], ◌∷◌, drop, length, sym, ap, ap₂, ◌∙◌, arith}
use Rattle.std.specs.List.{list_all}
use Rattle.std.proofs.lemmas.Bool.{and_from}
use Rattle.define_pools.proofs.Each.{passes_at}
use Rattle.define_bundles.specs.Ranges.{is_stage}
use Rattle.define_covers.specs.Covers.{FrontLine}
use Rattle.check_reasons.specs.Courses.{Course, passed}
use Rattle.check_reasons.specs.Sayings.{holds}
use Rattle.define_covers.specs.CoverSteps.{stage_verdict, verdict_from}
use Rattle.cover_cert.proofs.Stages.{going_on, lines_more, lines_within, refusing, stages_from}
use Rattle.cover_cert.proofs.checking.stages_verdict.Goals as goal

pub returns-then-not-is_valid-clause-verdict : goal.returns-then-not-is_valid-clause-verdict
returns-then-not-is_valid-clause-verdict g c =
    let pool = c.args.course.pool in let lottery = c.args.course.lottery in let stages = c.args.stages.now in let trees = c.args.trees.now in
    let k = c.loop-k.k in let earlier = c.loop-k.course.earlier in let stage = c.index-stages-k.result in let lines = c.index-trees-k.result in let number = c.loop-k.number in
    let has_tree : k < length trees = omega (arith, c.requires.one_each) in
    let said = c.in_ok-verdict.ensures.verdict
    ∙ ap₂ (λ pool lottery. stage_verdict pool lottery earlier stage number c.lines-lines.result.now) c.loop-k.invariant.pool c.loop-k.invariant.lottery
    ∙ ap (stage_verdict pool lottery earlier stage number) c.lines-lines.ensures in
    refusing pool lottery stages trees k earlier stage lines number c.loop-k-test.true c.index-stages-k.is has_tree c.index-trees-k.is
    (verdict_from pool lottery [] stages c.args.first trees) c.loop-k.invariant.same c.in_ok-verdict.verdict said (sym c.is_valid.ensures ∙ c.if-not-is_valid.true)

pub loop-k-preserved : goal.loop-k-preserved
loop-k-preserved g c =
    let pool = c.args.course.pool in let lottery = c.args.course.lottery in let stages = c.args.stages.now in let trees = c.args.trees.now in
    let k = c.loop-k.k in let course = c.loop-k.course in let earlier = course.earlier in let stage = c.index-stages-k.result in let lines = c.index-trees-k.result in let number = c.loop-k.number in
    let next = c.in_ok-number.number in let new = c.settle.new.self in
    let whole = verdict_from pool lottery [] stages c.args.first trees in
    let same = c.loop-k.invariant.same in
    let has_tree : k < length trees = omega (arith, c.requires.one_each) in
    let verdict = c.in_ok-verdict.verdict in
    let said : verdict ≡ stage_verdict pool lottery earlier stage number lines = c.in_ok-verdict.ensures.verdict
    ∙ ap₂ (λ pool lottery. stage_verdict pool lottery earlier stage number c.lines-lines.result.now) c.loop-k.invariant.pool c.loop-k.invariant.lottery
    ∙ ap (stage_verdict pool lottery earlier stage number) c.lines-lines.ensures in
    let valid : holds verdict ≡ true = sym c.is_valid.ensures ∙ c.if-not-is_valid.false in
    let later : course.later ≡ stage ∷ drop (k + 1) stages =
    c.loop-k.invariant.later ∙ stages_from pool lottery stages trees k earlier stage lines number c.loop-k-test.true c.index-stages-k.is has_tree c.index-trees-k.is whole same in
    let passes : new ≡ record course { earlier = stage ∷ earlier; later = drop (k + 1) stages } = c.settle.ensures ∙ ap (passed course) later in
    let now_earlier : new.earlier ≡ stage ∷ earlier = ap (λ (it : Course). it.earlier) passes in
    let many = ap (λ (those : List FrontLine). length those) c.lines-lines.ensures in
    let counted : next ≡ number + length lines + 1 = let first = c.in_ok-lines_after.ensures in let second = c.in_ok-number.ensures in omega (arith, first, second, many) in
    record {
      pool = ap (λ (it : Course). it.pool) passes ∙ c.loop-k.invariant.pool;
      lottery = ap (λ (it : Course). it.lottery) passes ∙ c.loop-k.invariant.lottery;
      later = ap (λ (it : Course). it.later) passes;
      earlier = ap (list_all (is_stage (length pool.volunteers))) now_earlier
          ∙ and_from (is_stage (length pool.volunteers) stage) (list_all (is_stage (length pool.volunteers)) earlier)
          (ap (is_stage (length pool.volunteers)) c.index-stages-k.is ∙ passes_at (is_stage (length pool.volunteers)) stages k stage c.requires.ranges c.loop-k-test.true) c.loop-k.invariant.earlier;
      same = going_on pool lottery stages trees k earlier stage lines number c.loop-k-test.true c.index-stages-k.is has_tree c.index-trees-k.is whole same verdict next said valid counted
          ∙ ap (λ those. verdict_from pool lottery those (drop (k + 1) stages) next (drop (k + 1) trees)) (sym now_earlier);
      few = omega (arith, c.loop-k.invariant.few, c.in_ok-verdict.ensures.steps, many, lines_more trees k lines has_tree c.index-trees-k.is);
    }

pub returns-in_err-verdict-clause-steps : goal.returns-in_err-verdict-clause-steps
returns-in_err-verdict-clause-steps g c =
    let trees = c.args.trees.now in let k = c.loop-k.k in let lines = c.index-trees-k.result in
    let has_tree : k < length trees = omega (arith, c.requires.one_each) in
    omega (arith, c.stage_verdict.ensures.steps, c.loop-k.invariant.few, lines_within trees k lines has_tree c.index-trees-k.is, ap (λ (those : List FrontLine). length those) c.lines-lines.ensures)

pub returns-then-not-is_valid-clause-steps : goal.returns-then-not-is_valid-clause-steps
returns-then-not-is_valid-clause-steps g c =
    let trees = c.args.trees.now in let k = c.loop-k.k in let lines = c.index-trees-k.result in
    let has_tree : k < length trees = omega (arith, c.requires.one_each) in
    omega (arith, c.stage_verdict.ensures.steps, c.loop-k.invariant.few, lines_within trees k lines has_tree c.index-trees-k.is, ap (λ (those : List FrontLine). length those) c.lines-lines.ensures)

pub returns-in_err-lines_after-clause-steps : goal.returns-in_err-lines_after-clause-steps
returns-in_err-lines_after-clause-steps g c =
    let trees = c.args.trees.now in let k = c.loop-k.k in let lines = c.index-trees-k.result in
    let has_tree : k < length trees = omega (arith, c.requires.one_each) in
    omega (arith, c.stage_verdict.ensures.steps, c.loop-k.invariant.few, lines_within trees k lines has_tree c.index-trees-k.is, ap (λ (those : List FrontLine). length those) c.lines-lines.ensures)

pub returns-in_err-number-clause-steps : goal.returns-in_err-number-clause-steps
returns-in_err-number-clause-steps g c =
    let trees = c.args.trees.now in let k = c.loop-k.k in let lines = c.index-trees-k.result in
    let has_tree : k < length trees = omega (arith, c.requires.one_each) in
    omega (arith, c.stage_verdict.ensures.steps, c.loop-k.invariant.few, lines_within trees k lines has_tree c.index-trees-k.is, ap (λ (those : List FrontLine). length those) c.lines-lines.ensures)
