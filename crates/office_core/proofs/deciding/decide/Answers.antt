use Rattle.std.proofs.Common.{refl}
use Rattle.define_draws.specs.Seal.{seal_of}
use Rattle.define_offices.specs.Commands.{SetCharter, SetRules, Register, Keep, Seal, Draw, Drop, NextRound, Show, Withdraw, SetBounds, TryDraw, Undrop, Reopen, WithdrawId}
use Rattle.define_offices.specs.Deciding.{decide_bounds, decide_charter, decide_register, decide_rules, draw_in, drop_in, keep_in, next_in, place_of_hash, place_of_id, reopen_in, seal_in, show_in, undrop_in, withdraw_at, withdraw_id_at, without_change}
use Rattle.define_offices.specs.Tables.{named_round}
use Rattle.office_core.specs.Commands.{seen_command}
use Rattle.office_core.specs.Deciding.{IsSolve}
use Rattle.office_core.proofs.Runs.{at_once, may_run, no_run}
use Rattle.office_core.proofs.deciding.decide.Goals as goal

pub returns-in-Charter-clause-decides : goal.returns-in-Charter-clause-decides
returns-in-Charter-clause-decides g c =
    let tables = c.args.tables.now in
    rw c.in-Charter.is (at_once tables (SetCharter c.in-Charter.charter) (decide_charter tables c.in-Charter.charter) c.stepped.result refl (c.stepped.ensures.says _ c.set_charter.ensures))

pub returns-in-Rules-clause-decides : goal.returns-in-Rules-clause-decides
returns-in-Rules-clause-decides g c =
    let tables = c.args.tables.now in
    rw c.in-Rules.is (at_once tables (SetRules c.in-Rules.rules) (decide_rules tables c.in-Rules.rules) c.stepped-in-Rules.result refl (c.stepped-in-Rules.ensures.says _ c.set_rules.ensures))

pub returns-in-Register-clause-decides : goal.returns-in-Register-clause-decides
returns-in-Register-clause-decides g c =
    let tables = c.args.tables.now in
    rw c.in-Register.is (at_once tables (Register c.in-Register.rows) (decide_register tables c.in-Register.rows) c.stepped-in-Register.result refl (c.stepped-in-Register.ensures.says _ c.register.ensures))

pub returns-in-Seal-clause-decides : goal.returns-in-Seal-clause-decides
returns-in-Seal-clause-decides g c =
    let tables = c.args.tables.now in
    rw c.in-Seal.is (at_once tables (Seal c.in-Seal.round c.in-Seal.tickets) (seal_in tables c.in-Seal.round c.in-Seal.tickets (named_round tables.rounds c.in-Seal.round)) c.stepped-in-Seal.result refl (c.stepped-in-Seal.ensures.says _ c.seal_round.ensures))

pub returns-in-Draw-clause-decides : goal.returns-in-Draw-clause-decides
returns-in-Draw-clause-decides g c =
    let tables = c.args.tables.now in
    rw c.in-Draw.is (at_once tables (Draw c.in-Draw.round c.in-Draw.seal c.in-Draw.digits.items) (draw_in tables c.in-Draw.round c.in-Draw.seal c.in-Draw.digits.items (named_round tables.rounds c.in-Draw.round)) c.stepped-in-Draw.result refl (c.stepped-in-Draw.ensures.says _ (rw (c.as_str.ensures, c.deref.ensures.value) at c.draw_round.ensures)))

pub returns-in-Drop-clause-decides : goal.returns-in-Drop-clause-decides
returns-in-Drop-clause-decides g c =
    let tables = c.args.tables.now in
    rw c.in-Drop.is (at_once tables (Drop c.in-Drop.round c.in-Drop.id) (drop_in tables c.in-Drop.round c.in-Drop.id (named_round tables.rounds c.in-Drop.round)) c.stepped-in-Drop.result refl (c.stepped-in-Drop.ensures.says _ c.drop_member.ensures))

pub returns-in-NextRound-clause-decides : goal.returns-in-NextRound-clause-decides
returns-in-NextRound-clause-decides g c =
    let tables = c.args.tables.now in
    rw c.in-NextRound.is (at_once tables (NextRound c.in-NextRound.after) (next_in tables c.in-NextRound.after (named_round tables.rounds c.in-NextRound.after)) c.stepped-in-NextRound.result refl (c.stepped-in-NextRound.ensures.says _ c.next_round.ensures))

pub returns-in-Show-clause-decides : goal.returns-in-Show-clause-decides
returns-in-Show-clause-decides g c =
    let tables = c.args.tables.now in
    rw c.in-Show.is (at_once tables (Show c.in-Show.round) (show_in tables (named_round tables.rounds c.in-Show.round)) c.stepped-in-Show.result refl (c.stepped-in-Show.ensures.says _ c.show_round.ensures))

pub returns-in-Withdraw-clause-decides : goal.returns-in-Withdraw-clause-decides
returns-in-Withdraw-clause-decides g c =
    let tables = c.args.tables.now in
    rw c.in-Withdraw.is (at_once tables (Withdraw c.in-Withdraw.key.items) (withdraw_at tables (place_of_hash tables.register (seal_of c.in-Withdraw.key.items) 0)) c.stepped-in-Withdraw.result refl (c.stepped-in-Withdraw.ensures.says _ (rw c.deref-in-Withdraw.ensures.value at c.withdraw.ensures)))

pub returns-in-Keep-clause-decides : goal.returns-in-Keep-clause-decides
returns-in-Keep-clause-decides g c =
    let tables = c.args.tables.now in
    let round = c.in-Keep.round in
    rw c.in-Keep.is (at_once tables (Keep round c.in-Keep.proof) (keep_in tables round c.in-Keep.proof (named_round tables.rounds round)) c.keep_proof.result refl c.keep_proof.ensures.says)

pub returns-in-Bounds-clause-decides : goal.returns-in-Bounds-clause-decides
returns-in-Bounds-clause-decides g c =
    let tables = c.args.tables.now in
    rw c.in-Bounds.is (at_once tables (SetBounds c.in-Bounds.round c.in-Bounds.bounds) (decide_bounds tables c.in-Bounds.round c.in-Bounds.bounds) c.stepped-in-Bounds.result refl (c.stepped-in-Bounds.ensures.says _ (rw c.number.ensures.value at c.set_bounds.ensures)))

pub returns-in-Try-clause-decides : goal.returns-in-Try-clause-decides
returns-in-Try-clause-decides g c =
    let tables = c.args.tables.now in
    rw c.in-Try.is (at_once tables (TryDraw c.in-Try.round c.in-Try.seal c.in-Try.digits.items) (without_change (draw_in tables c.in-Try.round c.in-Try.seal c.in-Try.digits.items (named_round tables.rounds c.in-Try.round))) c.stepped-in-Try.result refl (c.stepped-in-Try.ensures.says _ (rw (c.as_str-in-Try.ensures, c.deref-in-Try.ensures.value) at c.try_draw.ensures)))

pub returns-in-Undrop-clause-decides : goal.returns-in-Undrop-clause-decides
returns-in-Undrop-clause-decides g c =
    let tables = c.args.tables.now in
    rw c.in-Undrop.is (at_once tables (Undrop c.in-Undrop.round c.in-Undrop.id) (undrop_in tables c.in-Undrop.round c.in-Undrop.id (named_round tables.rounds c.in-Undrop.round)) c.stepped-in-Undrop.result refl (c.stepped-in-Undrop.ensures.says _ c.undrop_member.ensures))

pub returns-in-Reopen-clause-decides : goal.returns-in-Reopen-clause-decides
returns-in-Reopen-clause-decides g c =
    let tables = c.args.tables.now in
    rw c.in-Reopen.is (at_once tables (Reopen c.in-Reopen.round) (reopen_in tables c.in-Reopen.round (named_round tables.rounds c.in-Reopen.round)) c.stepped-in-Reopen.result refl (c.stepped-in-Reopen.ensures.says _ (rw c.number-in-Reopen.ensures.value at c.reopen_round.ensures)))

pub returns-in-WithdrawId-clause-decides : goal.returns-in-WithdrawId-clause-decides
returns-in-WithdrawId-clause-decides g c =
    let tables = c.args.tables.now in
    rw c.in-WithdrawId.is (at_once tables (WithdrawId c.in-WithdrawId.id) (withdraw_id_at tables c.in-WithdrawId.id (place_of_id tables.register c.in-WithdrawId.id 0)) c.stepped-in-WithdrawId.result refl (c.stepped-in-WithdrawId.ensures.says _ c.withdraw_id.ensures))

pub returns-in-Charter-clause-runs : goal.returns-in-Charter-clause-runs
returns-in-Charter-clause-runs g c =
    no_run (IsSolve (seen_command c.args.command.now)) c.stepped.result c.stepped.ensures.no_run

pub returns-in-Rules-clause-runs : goal.returns-in-Rules-clause-runs
returns-in-Rules-clause-runs g c =
    no_run (IsSolve (seen_command c.args.command.now)) c.stepped-in-Rules.result c.stepped-in-Rules.ensures.no_run

pub returns-in-Register-clause-runs : goal.returns-in-Register-clause-runs
returns-in-Register-clause-runs g c =
    no_run (IsSolve (seen_command c.args.command.now)) c.stepped-in-Register.result c.stepped-in-Register.ensures.no_run

pub returns-in-Seal-clause-runs : goal.returns-in-Seal-clause-runs
returns-in-Seal-clause-runs g c =
    no_run (IsSolve (seen_command c.args.command.now)) c.stepped-in-Seal.result c.stepped-in-Seal.ensures.no_run

pub returns-in-Draw-clause-runs : goal.returns-in-Draw-clause-runs
returns-in-Draw-clause-runs g c =
    no_run (IsSolve (seen_command c.args.command.now)) c.stepped-in-Draw.result c.stepped-in-Draw.ensures.no_run

pub returns-in-Drop-clause-runs : goal.returns-in-Drop-clause-runs
returns-in-Drop-clause-runs g c =
    no_run (IsSolve (seen_command c.args.command.now)) c.stepped-in-Drop.result c.stepped-in-Drop.ensures.no_run

pub returns-in-NextRound-clause-runs : goal.returns-in-NextRound-clause-runs
returns-in-NextRound-clause-runs g c =
    no_run (IsSolve (seen_command c.args.command.now)) c.stepped-in-NextRound.result c.stepped-in-NextRound.ensures.no_run

pub returns-in-Show-clause-runs : goal.returns-in-Show-clause-runs
returns-in-Show-clause-runs g c =
    no_run (IsSolve (seen_command c.args.command.now)) c.stepped-in-Show.result c.stepped-in-Show.ensures.no_run

pub returns-in-Withdraw-clause-runs : goal.returns-in-Withdraw-clause-runs
returns-in-Withdraw-clause-runs g c =
    no_run (IsSolve (seen_command c.args.command.now)) c.stepped-in-Withdraw.result c.stepped-in-Withdraw.ensures.no_run

pub returns-in-Bounds-clause-runs : goal.returns-in-Bounds-clause-runs
returns-in-Bounds-clause-runs g c =
    no_run (IsSolve (seen_command c.args.command.now)) c.stepped-in-Bounds.result c.stepped-in-Bounds.ensures.no_run

pub returns-in-Try-clause-runs : goal.returns-in-Try-clause-runs
returns-in-Try-clause-runs g c =
    no_run (IsSolve (seen_command c.args.command.now)) c.stepped-in-Try.result c.stepped-in-Try.ensures.no_run

pub returns-in-Undrop-clause-runs : goal.returns-in-Undrop-clause-runs
returns-in-Undrop-clause-runs g c =
    no_run (IsSolve (seen_command c.args.command.now)) c.stepped-in-Undrop.result c.stepped-in-Undrop.ensures.no_run

pub returns-in-Reopen-clause-runs : goal.returns-in-Reopen-clause-runs
returns-in-Reopen-clause-runs g c =
    no_run (IsSolve (seen_command c.args.command.now)) c.stepped-in-Reopen.result c.stepped-in-Reopen.ensures.no_run

pub returns-in-WithdrawId-clause-runs : goal.returns-in-WithdrawId-clause-runs
returns-in-WithdrawId-clause-runs g c =
    no_run (IsSolve (seen_command c.args.command.now)) c.stepped-in-WithdrawId.result c.stepped-in-WithdrawId.ensures.no_run

pub returns-in-Keep-clause-runs : goal.returns-in-Keep-clause-runs
returns-in-Keep-clause-runs g c =
    no_run (IsSolve (seen_command c.args.command.now)) c.keep_proof.result c.keep_proof.ensures.no_run

pub returns-in-Solve-clause-runs : goal.returns-in-Solve-clause-runs
returns-in-Solve-clause-runs g c =
    may_run (IsSolve (seen_command c.args.command.now)) c.solve_round.result (rw c.in-Solve.is tt)
