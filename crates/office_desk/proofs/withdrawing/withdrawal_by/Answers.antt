use Rattle.std.proofs.Common.{◌≡◌, ℕ, List, length, subst, sym, arith, rules}
use Rattle.define_desk.specs.Desk.{Served, withdrawal}
use Rattle.define_desk.specs.Replies.{unknown_key}
use Rattle.office_desk.specs.Answers.{FailsToStore, HasFault}
use Rattle.office_desk.specs.Endings.{EndsAs}
use Rattle.office_desk.proofs.Ends.{left_so}
use Rattle.office_desk.proofs.OwnReplies.{one_key, withdrawal_without}
use Rattle.office_desk.proofs.withdrawing.withdrawal_by.Goals as goal

pub returns-in-len1-clause-ends : goal.returns-in-len1-clause-ends
returns-in-len1-clause-ends g c =
    let before = g.K.Keeper.tables c.args.keeper.now in
    let after = g.K.Keeper.tables c.withdrawal_with.new.keeper in
    let low = c.in-len1.len_at_least in
    let high = c.in-len1.len_below in
    let size : length c.args.keys.now ≡ 1 = omega arith in
    let one = one_key c.args.keys.now c.key-item.result size c.key-item.is in
    subst (λ (keys : List (List ℕ)). EndsAs before (withdrawal c.args.tables.now keys) after c.withdrawal_with.result) (sym one) c.withdrawal_with.ensures.ends

pub returns-in_default-clause-ends : goal.returns-in_default-clause-ends
returns-in_default-clause-ends g c =
    let before = g.K.Keeper.tables c.args.keeper.now in
    let tables = c.args.tables.now in
    let apart : length c.args.keys.now ≡ 1 → ⊥ = search rules in
    subst (λ (serves : Served). EndsAs before serves before c.refused.result) (sym (withdrawal_without tables c.args.keys.now apart))
    (left_so before tables unknown_key c.refused.result c.requires.same c.refused.ensures)

pub returns-in-len1-clause-fault : goal.returns-in-len1-clause-fault
returns-in-len1-clause-fault g c =
    let low = c.in-len1.len_at_least in
    let high = c.in-len1.len_below in
    let size : length c.args.keys.now ≡ 1 = omega arith in
    let one = one_key c.args.keys.now c.key-item.result size c.key-item.is in
    let old = g.K.Keeper.course c.args.keeper.now in
    let new = g.K.Keeper.course c.withdrawal_with.new.keeper in
    subst (λ (keys : List (List ℕ)). HasFault (FailsToStore c.args.tables.now keys old new) (g.K.Keeper.faults c.args.keeper.now) (g.K.Keeper.faults c.withdrawal_with.new.keeper) c.withdrawal_with.result.status)
    (sym one) c.withdrawal_with.ensures.fault
