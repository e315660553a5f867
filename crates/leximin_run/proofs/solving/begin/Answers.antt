use Rattle.std.proofs.Common.{◌≤◌, [], length, None, Err, sym, ap, ◌∙◌, subst}
use Rattle.std.specs.Prelude.{slice_index}
use Rattle.std.specs.List.{All}
use Rattle.define_rows.specs.Pivot.{start}
use Rattle.define_runs.specs.Run.{TooWide, run_limits}
use Rattle.exact_table.specs.Starting.{IsStarted}
use Rattle.leximin_run.specs.Advancing.{HoldsFrom, Reaches}
use Rattle.leximin_run.specs.Answers.{EndsFrom}
use Rattle.leximin_run.specs.Tracing.{ReachesWithLegs}
use Rattle.leximin_run.proofs.Beginning.{begun, begun_with_legs, may_start, wide_first}
use Rattle.leximin_run.proofs.solving.begin.Goals as goal

pub start-requires-clause-sizes : goal.start-requires-clause-sizes
start-requires-clause-sizes g c =
    let may = may_start c.args.classes.now (run_limits c.args.limits) c.args.composition c.requires.within c.requires.first c.facts.ensures in
    subst (All (λ size. 1 ≤ size)) (sym (c.deref.ensures.value ∙ c.in_ok-sizes.ensures)) may.each

pub start-requires-clause-counts : goal.start-requires-clause-counts
start-requires-clause-counts g c =
    let may = may_start c.args.classes.now (run_limits c.args.limits) c.args.composition c.requires.within c.requires.first c.facts.ensures in
    may.fits.each ∙ ap length (sym (c.deref.ensures.value ∙ c.in_ok-sizes.ensures))

pub start-requires-clause-bounds : goal.start-requires-clause-bounds
start-requires-clause-bounds g c =
    let may = may_start c.args.classes.now (run_limits c.args.limits) c.args.composition c.requires.within c.requires.first c.facts.ensures in
    λ t l. subst (λ sizes. slice_index c.args.composition t ≤ slice_index sizes t) (sym (c.deref.ensures.value ∙ c.in_ok-sizes.ensures)) (may.fits.bounds t)

pub finish-requires-clause-reached : goal.finish-requires-clause-reached
finish-requires-clause-reached g c = λ lifetimes outlives.
    let table_is = sym (ap (λ sizes. start sizes c.args.composition c.args.limits.bits) (c.deref.ensures.value ∙ c.in_ok-sizes.ensures))
    ∙ sym (ap (start c.deref.result.now c.args.composition) c.bits.ensures.value) ∙ c.in-Ok.ensures in
    subst (λ p. Reaches c.args.share p.classes (run_limits c.args.limits) c.in-Ok.table p.closed) (sym c.new.ensures)
    (begun c.args.share c.args.classes.now (run_limits c.args.limits) c.args.composition c.requires.within c.requires.first c.facts.ensures c.bits.ensures.ranges c.in-Ok.table table_is)

pub finish-requires-clause-legs : goal.finish-requires-clause-legs
finish-requires-clause-legs g c = λ lifetimes outlives.
    let table_is = sym (ap (λ sizes. start sizes c.args.composition c.args.limits.bits) (c.deref.ensures.value ∙ c.in_ok-sizes.ensures))
    ∙ sym (ap (start c.deref.result.now c.args.composition) c.bits.ensures.value) ∙ c.in-Ok.ensures in
    subst (λ p. HoldsFrom c.args.share (run_limits c.args.limits) (λ free. ReachesWithLegs p.classes free c.in-Ok.table [])) (sym c.new.ensures)
    (begun_with_legs c.args.share c.args.classes.now (run_limits c.args.limits) c.args.composition c.requires.within c.requires.first c.in-Ok.table table_is)

pub returns-in-Err-Pass : goal.returns-in-Err-Pass
returns-in-Err-Pass g c =
    let passes = subst (λ stop. IsStarted (Err stop) (start c.deref.result.now c.args.composition c.bits.result)) c.in-Err-Pass.field-0-is c.in-Err-Pass.ensures in
    let passed = sym (ap (λ sizes. start sizes c.args.composition c.args.limits.bits) (c.deref.ensures.value ∙ c.in_ok-sizes.ensures))
    ∙ sym (ap (start c.deref.result.now c.args.composition) c.bits.ensures.value) ∙ passes in
    subst (λ pass. EndsFrom c.args.share c.args.classes.now (run_limits c.args.limits) (TooWide None pass)) (sym c.in-Err-Pass.pass-is)
    (wide_first c.args.share c.args.classes.now (run_limits c.args.limits) c.args.composition c.requires.within c.requires.first c.in-Err-Pass.pass passed)
