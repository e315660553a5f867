use Rattle.std.proofs.Common.{◌≡◌, Some, None, refl, sym, subst}
use Rattle.std.proofs.lemmas.Result.{IfOk-weaker}
use Rattle.define_quotas.specs.Loosenings.{least_loosening}
use Rattle.define_searches.specs.Classes.{are_alike}
use Rattle.command_shell.specs.declared.answer.Answer.{Answer}
use Rattle.command_shell.specs.declared.status.Printed.TheVariants.{NoPanel}
use Rattle.command_shell.specs.Answers.{IsRight, Prints, saying}
use Rattle.command_shell.specs.Lines.{no_panel_line}
use Rattle.command_meanings.specs.Loosening.{IsLeastLoosening, LoosenMeans, PrintsNoTeam}
use Rattle.command_quotas.proofs.Least.{no_panels, the_least}
use Rattle.command_quotas.proofs.loosen.answered.Goals as goal

pub loosening_text-requires : goal.loosening_text-requires
loosening_text-requires c =
    let pool = c.args.pool.now in
    let says = rw c.in-Ok-Some.field-0-is at c.in-Ok-Some.ensures in
    let found : least_loosening pool ≡ Some c.in-Ok-Some.loosened = sym says.1 in
    let least : IsLeastLoosening pool c.in-Ok-Some.loosened =
    the_least pool c.in-Ok-Some.loosened (λ counts e. c.cheapest_is_least.ensures.found pool (are_alike pool) counts (c.alike_make_classes.ensures pool) e)
    (c.least_loosening_is_least.ensures.least pool c.in-Ok-Some.loosened c.facts.ensures found) found in
    least.cheapest.is_one

pub returns-in_ok-loosening_text-in-Ok-Some : goal.returns-in_ok-loosening_text-in-Ok-Some
returns-in_ok-loosening_text-in-Ok-Some c =
    let pool = c.args.pool.now in
    let says = rw c.in-Ok-Some.field-0-is at c.in-Ok-Some.ensures in
    let found : least_loosening pool ≡ Some c.in-Ok-Some.loosened = sym says.1 in
    record {
      within = says.0;
      loosening = c.in-Ok-Some.loosened;
      least = the_least pool c.in-Ok-Some.loosened (λ counts e. c.cheapest_is_least.ensures.found pool (are_alike pool) counts (c.alike_make_classes.ensures pool) e)
          (c.least_loosening_is_least.ensures.least pool c.in-Ok-Some.loosened c.facts.ensures found) found;
      lines = c.in_ok-loosening_text-in-Ok-Some.ensures;
    }

pub returns-in-Ok-None : goal.returns-in-Ok-None
returns-in-Ok-None c =
    let pool = c.args.pool.now in
    let says = rw c.in-Ok-None.field-0-is at c.in-Ok-None.ensures in
    let found : least_loosening pool ≡ None = sym says.1 in
    let no_team = (c.least_loosening_is_least.ensures.none pool).0 found in
    let right : PrintsNoTeam c.args.nodes pool no_panel_line = record { within = says.0; no_team = no_team; none = no_panels pool c.facts.ensures no_team; line = refl } in
    IfOk-weaker c.no_panel.result (λ (answer : Answer). saying answer ≡ Prints NoPanel no_panel_line) (λ (answer : Answer). IsRight (LoosenMeans c.args.nodes pool) (saying answer))
    (λ answer e. subst (IsRight (LoosenMeans c.args.nodes pool)) (sym e) right) c.no_panel.ensures
