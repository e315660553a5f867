use Rattle.std.proofs.Common.{◌≡◌, ℕ, List, true, false, ap, subst, sym, ◌∙◌, rules}
use Rattle.std.specs.Prelude.{codes}
use Rattle.std.specs.Str.{bytes_eq}
use Rattle.define_desk.specs.Desk.{Served, withdrawal}
use Rattle.define_desk.specs.Replies.{not_allowed}
use Rattle.office_desk.specs.Answers.{FailsToStore, HasFault}
use Rattle.office_desk.specs.Endings.{EndsAs}
use Rattle.office_desk.proofs.ByMethod.{not_posted, posted}
use Rattle.office_desk.proofs.Ends.{left_so}
use Rattle.office_desk.proofs.withdrawing.withdrawal_answer.Goals as goal

pub returns-then-eq-clause-ends : goal.returns-then-eq-clause-ends
returns-then-eq-clause-ends g c =
    let before = g.K.Keeper.tables c.args.keeper.now in
    let after = g.K.Keeper.tables c.withdrawal_by.new.keeper in
    let tables = c.args.tables.now in
    let post : bytes_eq c.args.request.now.method (codes "POST") ≡ true = search rules in
    let whole = posted tables c.args.request.now post ∙ ap (withdrawal tables) (sym c.keys.ensures) in
    subst (λ (serves : Served). EndsAs before serves after c.withdrawal_by.result) (sym whole) c.withdrawal_by.ensures.ends

pub returns-else-eq-clause-ends : goal.returns-else-eq-clause-ends
returns-else-eq-clause-ends g c =
    let before = g.K.Keeper.tables c.args.keeper.now in
    let tables = c.args.tables.now in
    let other : bytes_eq c.args.request.now.method (codes "POST") ≡ false = search rules in
    subst (λ (serves : Served). EndsAs before serves before c.refused.result) (sym (not_posted tables c.args.request.now other))
    (left_so before tables (not_allowed (codes "POST")) c.refused.result c.requires.same c.refused.ensures)

pub returns-then-eq-clause-fault : goal.returns-then-eq-clause-fault
returns-then-eq-clause-fault g c =
    let old = g.K.Keeper.course c.args.keeper.now in
    let new = g.K.Keeper.course c.withdrawal_by.new.keeper in
    subst (λ (keys : List (List ℕ)). HasFault (FailsToStore c.args.tables.now keys old new) (g.K.Keeper.faults c.args.keeper.now) (g.K.Keeper.faults c.withdrawal_by.new.keeper) c.withdrawal_by.result.status)
    c.keys.ensures c.withdrawal_by.ensures.fault
