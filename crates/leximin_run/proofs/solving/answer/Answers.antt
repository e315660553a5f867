use Rattle.std.proofs.Common.{Err, map, rules, refl, sym, ap, ◌∙◌, subst}
use Rattle.define_legs.specs.Legs.{EndsWithLegs}
use Rattle.define_runs.specs.Run.{Found, run_limits, stage_of}
use Rattle.define_runs.proofs.Parts.{parts_are}
use Rattle.define_runs.specs.Spreading.{AreParts, spread}
use Rattle.alike.specs.Spreads.{IsSpread}
use Rattle.leximin_run.specs.Advancing.{HoldsFrom}
use Rattle.leximin_run.proofs.Ending.{found_at_end, passed_at_end}
use Rattle.leximin_run.proofs.solving.answer.Goals as goal

pub spread-requires : goal.spread-requires
spread-requires c =
    let run = c.args.run in
    subst (λ all. AreParts all c.deref.result.now) (sym c.classes-classes.ensures)
    (subst (AreParts run.pricer.classes) (sym (c.deref.ensures.value ∙ c.in_ok-parts.ensures)) (parts_are run.pricer.classes (run_limits run.limits) run.table c.requires.reached.stands.keeps))

pub returns-in-Ok : goal.returns-in-Ok
returns-in-Ok c =
    let run = c.args.run in
    let made = sym (ap (spread run.pricer.classes) (c.deref.ensures.value ∙ c.in_ok-parts.ensures)) ∙ sym (ap (λ all. spread all c.deref.result.now) c.classes-classes.ensures) ∙ c.in-Ok.ensures.spread in
    let found = found_at_end run.share run.pricer.classes (run_limits run.limits) run.table run.pricer.closed c.requires.reached c.requires.shut c.requires.settled c.args.legs.items c.requires.legs c.in-Ok.lottery made in
    let stages = c.in_ok-certificate.ensures ∙ ap (λ all. map (stage_of all) c.closed.result.now) c.classes-classes.ensures ∙ ap (map (stage_of run.pricer.classes)) c.closed.ensures in (
      run.table,
      c.sizes_of.ensures,
      subst (λ answer. HoldsFrom run.share (run_limits run.limits) (λ free. EndsWithLegs run.pricer.classes free (Found run.table answer) c.args.legs.items)) (sym c.new.ensures)
          (subst (λ ss. HoldsFrom run.share (run_limits run.limits) (λ free. EndsWithLegs run.pricer.classes free (Found run.table (record { lottery = c.in-Ok.lottery; stages = ss })) c.args.legs.items)) (sym stages) found),
    )

pub returns-in-Err-TotalPasses : goal.returns-in-Err-TotalPasses
returns-in-Err-TotalPasses c =
    let run = c.args.run in
    let told = subst (λ stop. IsSpread (Err stop) (spread c.classes-classes.result.now c.deref.result.now)) c.in-Err-TotalPasses.field-0-is c.in-Err-TotalPasses.ensures.spread in
    let passes = sym (ap (spread run.pricer.classes) (c.deref.ensures.value ∙ c.in_ok-parts.ensures)) ∙ sym (ap (λ all. spread all c.deref.result.now) c.classes-classes.ensures) ∙ told.1 in
    let place = c.in-Err-TotalPasses.place-is in let total = c.in-Err-TotalPasses.total-is in let den = c.in-Err-TotalPasses.den-is in (
      run.table,
      told.0,
      refl,
      record { place_is = place ∙ told.2; total_is = search rules; den_is = search rules },
      passed_at_end run.share run.pricer.classes (run_limits run.limits) run.table run.pricer.closed c.requires.reached c.requires.shut c.requires.settled told.0 passes,
    )
