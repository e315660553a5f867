use Rattle.std.proofs.Common.{reverse, set, sym, subst}
use Rattle.define_pools.specs.declared.Standing.TheVariants.{Open}
use Rattle.check_proofs.specs.Paths.{KeepsStandings}
use Rattle.check_proofs.proofs.PathSteps.{keeps_less}
use Rattle.check_proofs.proofs.paths.Path.undo.Goals as goal

pub invariant_of-self-2 : goal.invariant_of-self-2
invariant_of-self-2 c =
    let inside = c.self.inside in
    let rest = c.pop.new.self.items in
    subst (λ i. KeepsStandings (record { pool = inside.pool.now; decisions = reverse rest }) (set inside.standings.items i Open)) (sym c.volunteer.ensures)
    (keeps_less inside.pool.now inside.decisions.items rest c.in_ok-latest.latest inside.standings.items c.in_ok-latest.ensures.items c.self.invariant)
