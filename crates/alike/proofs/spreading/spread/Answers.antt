use Rattle.std.proofs.Common.{◌≡◌, Ok, ap, subst, arith, to_z}
use Rattle.std.specs.Prelude.{unsigned_abs}
use Rattle.std.specs.Int.{w128}
use Rattle.std.proofs.lemmas.Int.{ints}
use Rattle.std.proofs.lemmas.Result.{err_from_is_err_and}
use Rattle.define_runs.specs.Spreading.{AreParts, spread}
use Rattle.define_runs.proofs.CommonTotals.{common_total}
use Rattle.define_runs.proofs.Lotteries.{even_chances, limits_can_give, pool_lottery}
use Rattle.alike.proofs.SpreadStops.{lottery_made, stop_told}
use Rattle.alike.proofs.Totals.{total_of_each}
use Rattle.alike.proofs.Words128.{not_negative, signed_is, total_below}
use Rattle.alike.proofs.spreading.spread.Goals as goal

pub all_rows-requires : goal.all_rows-requires
all_rows-requires c =
    let all = c.args.classes.now in let parts = c.args.parts.now in
    let common = common_total all parts c.in_ok-total.total c.requires c.in_ok-total.ensures in
    total_of_each all parts c.in_ok-total.total c.requires common

pub overflow_cast-total : goal.overflow_cast-total
overflow_cast-total c =
    let all = c.args.classes.now in let parts = c.args.parts.now in
    let common = common_total all parts c.in_ok-total.total c.requires c.in_ok-total.ensures in
    let within = common.within in
    let below = total_below in
    omega (arith, ints)

pub new-requires : goal.new-requires
new-requires c =
    let all = c.args.classes.now in let parts = c.args.parts.now in
    let common = common_total all parts c.in_ok-total.total c.requires c.in_ok-total.ensures in
    not_negative c.in_ok-total.total common.within

pub returns-clause-spread : goal.returns-clause-spread
returns-clause-spread c =
    let all = c.args.classes.now in let parts = c.args.parts.now in
    let common = common_total all parts c.in_ok-total.total c.requires c.in_ok-total.ensures in
    let is : spread all parts ≡ Ok c.new.result = lottery_made all parts c.in_ok-total.total (unsigned_abs (to_z w128 c.in_ok-total.total)) c.in_ok-rows.rows.items c.new.result c.in_ok-total.ensures c.in_ok-rows.ensures
    (ap unsigned_abs (signed_is c.in_ok-total.total common.within)) c.new.ensures in
    is

pub returns-clause-lottery : goal.returns-clause-lottery
returns-clause-lottery c pool alike makes of_pool =
    let all = c.args.classes.now in let parts = c.args.parts.now in
    let common = common_total all parts c.in_ok-total.total c.requires c.in_ok-total.ensures in
    let is : spread all parts ≡ Ok c.new.result = lottery_made all parts c.in_ok-total.total (unsigned_abs (to_z w128 c.in_ok-total.total)) c.in_ok-rows.rows.items c.new.result c.in_ok-total.ensures c.in_ok-rows.ensures
    (ap unsigned_abs (signed_is c.in_ok-total.total common.within)) c.new.ensures in
    pool_lottery pool alike makes parts c.new.result (subst (λ all. AreParts all parts) of_pool c.requires) (subst (λ all. spread all parts ≡ Ok c.new.result) of_pool is)

pub returns-clause-even : goal.returns-clause-even
returns-clause-even c =
    let all = c.args.classes.now in let parts = c.args.parts.now in
    let common = common_total all parts c.in_ok-total.total c.requires c.in_ok-total.ensures in
    let is : spread all parts ≡ Ok c.new.result = lottery_made all parts c.in_ok-total.total (unsigned_abs (to_z w128 c.in_ok-total.total)) c.in_ok-rows.rows.items c.new.result c.in_ok-total.ensures c.in_ok-rows.ensures
    (ap unsigned_abs (signed_is c.in_ok-total.total common.within)) c.new.ensures in
    even_chances all parts c.new.result c.part.ensures (limits_can_give all c.facts.ensures) c.requires is

pub returns-in_err-total-clause-spread : goal.returns-in_err-total-clause-spread
returns-in_err-total-clause-spread c =
    let told = c.in_err-total.ensures in
    let stop = c.in_err-total.field-0.0 in
    let out = err_from_is_err_and c.from_residual.result c.from_residual.ensures.1 in
    rw (out.1, out.2) (stop_told c.args.classes.now c.args.parts.now stop told)
