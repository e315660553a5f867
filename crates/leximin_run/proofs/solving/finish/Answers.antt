use Rattle.std.proofs.Common.{◌<◌, Ok, Err, sym, ◌∙◌, subst}
use Rattle.define_runs.specs.Run.{run_limits}
use Rattle.define_runs.specs.Work.{work_left}
use Rattle.leximin_run.specs.Advancing.{Advances, HoldsFrom, Reaches, Stands}
use Rattle.leximin_run.specs.Answers.{EndsFrom, Tells, TellsRun, stop_of}
use Rattle.leximin_run.specs.Tracing.{ReachesWithLegs}
use Rattle.leximin_run.proofs.Budgets.{carried, lessens}
use Rattle.leximin_run.proofs.Ending.{few_so_far, legs_on, reaches_on, refused_at}
use Rattle.leximin_run.proofs.solving.finish.Goals as goal

pub loop-legs-smaller : goal.loop-legs-smaller
loop-legs-smaller g c =
    let run = c.loop-legs.run in let after = c.advance.new.self in
    let advanced = subst (λ went. Advances run.share run.pricer.classes (run_limits run.limits) run.table (Ok went) after.table) c.in-Ok-true.field-0-test c.in-Ok-true.ensures.advances in
    subst (λ limits. work_left (run_limits limits) after.table < work_left (run_limits run.limits) run.table) (sym c.in-Ok-true.ensures.limits)
    (lessens run.share run.pricer.classes (run_limits run.limits) run.table run.pricer.closed after.table c.loop-legs.invariant.reaches.stands advanced)

pub loop-legs-preserved : goal.loop-legs-preserved
loop-legs-preserved g c =
    let run = c.loop-legs.run in let after = c.advance.new.self in
    let told = c.in-Ok-true.ensures in
    let advanced = subst (λ went. Advances run.share run.pricer.classes (run_limits run.limits) run.table (Ok went) after.table) c.in-Ok-true.field-0-test told.advances in
    let stands = subst (λ all. Stands all (run_limits run.limits) after.table after.pricer.closed) told.classes
    (subst (λ limits. Stands after.pricer.classes (run_limits limits) after.table after.pricer.closed) told.limits told.stands) in
    let on = reaches_on run.share run.pricer.classes (run_limits run.limits) run.table run.pricer.closed c.loop-legs.invariant.reaches after.table after.pricer.closed advanced stands in
    let goes = legs_on run.share run.pricer.classes (run_limits run.limits) run.table run.pricer.closed c.loop-legs.invariant.reaches after.table c.loop-legs.legs.items c.loop-legs.invariant.legs advanced in
    let counted = c.in_ok-count_step-in-Ok-true.ensures run.table c.of-before.ensures in
    let with_legs = subst (λ legs. HoldsFrom run.share (run_limits run.limits) (λ free. ReachesWithLegs run.pricer.classes free after.table legs)) (sym counted) goes in
    record {
      legs = carried (λ share all limits. HoldsFrom share (run_limits limits) (λ free. ReachesWithLegs all free after.table c.count_step.new.legs.items))
          run.share after.share run.pricer.classes after.pricer.classes run.limits after.limits told.share told.classes told.limits with_legs;
      reaches = carried (λ share all limits. Reaches share all (run_limits limits) after.table after.pricer.closed)
          run.share after.share run.pricer.classes after.pricer.classes run.limits after.limits told.share told.classes told.limits on;
      classes = told.classes ∙ c.loop-legs.invariant.classes;
      limits = told.limits ∙ c.loop-legs.invariant.limits;
      share = told.share ∙ c.loop-legs.invariant.share;
    }

pub returns-in-Err : goal.returns-in-Err
returns-in-Err g c =
    let run = c.loop-legs.run in let after = c.advance.new.self in
    let told = refused_at run.share run.pricer.classes (run_limits run.limits) run.table run.pricer.closed c.loop-legs.invariant.reaches c.in-Err.refusal after.table c.in-Err.ensures.advances in
    subst (λ stop. TellsRun c.args.run.share c.args.run.pricer.classes (run_limits c.args.run.limits) (Err stop)) (sym c.stop.ensures)
    (carried (λ share all limits. Tells (EndsFrom share all (run_limits limits)) (Err (stop_of after.table c.in-Err.refusal)))
    run.share c.args.run.share run.pricer.classes c.args.run.pricer.classes run.limits c.args.run.limits
    (sym c.loop-legs.invariant.share) (sym c.loop-legs.invariant.classes) (sym c.loop-legs.invariant.limits) told)

pub count_step-requires : goal.count_step-requires
count_step-requires g c =
    let run = c.loop-legs.run in
    record { few = few_so_far run.share run.pricer.classes (run_limits run.limits) run.table run.pricer.closed c.loop-legs.invariant.reaches c.loop-legs.legs.items c.loop-legs.invariant.legs }

pub answer-requires-clause-legs : goal.answer-requires-clause-legs
answer-requires-clause-legs g c =
    let run = c.loop-legs.run in let after = c.advance.new.self in
    let told = c.in-Ok-false.ensures in
    let advanced = subst (λ went. Advances run.share run.pricer.classes (run_limits run.limits) run.table (Ok went) after.table) c.in-Ok-false.field-0-test told.advances in
    carried (λ share all limits. HoldsFrom share (run_limits limits) (λ free. ReachesWithLegs all free after.table c.loop-legs.legs.items))
    run.share after.share run.pricer.classes after.pricer.classes run.limits after.limits told.share told.classes told.limits
    (subst (λ t. HoldsFrom run.share (run_limits run.limits) (λ free. ReachesWithLegs run.pricer.classes free t c.loop-legs.legs.items)) (sym advanced.2) c.loop-legs.invariant.legs)
