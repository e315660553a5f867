use Rattle.std.proofs.Common.{◌≡◌, ℕ, ◌+◌, ◌-◌, ◌^◌, ◌<◌, ◌≤◌, ltb, Ok, true, false, refl, sym, ap, ◌∙◌, arith}
use Rattle.std.proofs.lemmas.Bool.{le-leb, lt-leb, lt-ltb}
use Rattle.std.proofs.lemmas.Result.{err_from_is_err_and}
use Rattle.define_rows.specs.declared.Var.{Var}
use Rattle.define_rows.specs.Table.{Table}
use Rattle.define_rows.specs.Pivot.{pivot}
use Rattle.exact_table.specs.Parts.{counted_on}
use Rattle.define_runs.specs.Run.{Ended, GoOn, PivotsSpent, pivoted, run_limits}
use Rattle.define_runs.proofs.Kept.{closed_rows_stay}
use Rattle.leximin_run.proofs.Turns.{pivot_due, pivot_steps, stands_on}
use Rattle.leximin_run.proofs.running.Run.pivot.Goals as goal

-- If the count of pivots is below its limit, one more pivot adds 1 to it.
counted_one_more : (n limit : ℕ) → n < limit → limit ≤ 2 ^ 64 - 1 → counted_on n ≡ n + 1
counted_one_more n limit few most = let t : ltb n (2 ^ 64 - 1) ≡ true = lt-ltb n (2 ^ 64 - 1) (omega arith) in rw t refl

made_whole : (table made : Table) (r : ℕ) (v : Var) (limit : ℕ) → table.pivots < limit → limit ≤ 2 ^ 64 - 1 → made.pivots ≡ counted_on table.pivots →
    Ok (record made { pivots = table.pivots + 1 }) ≡ pivot table r v → pivot table r v ≡ Ok made
made_whole table made r v limit few most counted e = sym (ap (λ n. Ok (record made { pivots = n })) (counted ∙ counted_one_more table.pivots limit few most) ∙ e)

pub returns-then-pivots-clause-makes : goal.returns-then-pivots-clause-makes
returns-then-pivots-clause-makes c =
    let run = c.args.self.now in (
      pivot_steps run.share run.pricer.classes (run_limits run.limits) run.table c.args.row c.args.variable c.requires.open c.requires.chosen true
          (le-leb run.limits.pivots run.table.pivots (omega (arith, c.if-pivots.true, c.pivots.ensures.value, c.pivots-2.ensures))) (Ended (PivotsSpent run.table)) refl,
      refl,
    )

pub returns-clause-makes : goal.returns-clause-makes
returns-clause-makes c =
    let run = c.args.self.now in
    let few : run.table.pivots < run.limits.pivots = omega (arith, c.if-pivots.false, c.pivots.ensures.value, c.pivots-2.ensures) in
    pivot_steps run.share run.pricer.classes (run_limits run.limits) run.table c.args.row c.args.variable c.requires.open c.requires.chosen false (lt-leb run.limits.pivots run.table.pivots few) (GoOn c.pivot.new.self)
    (ap (pivoted run.table) (made_whole run.table c.pivot.new.self c.args.row c.args.variable run.limits.pivots few (omega (arith, c.pivots.ensures.ranges.few_pivots)) c.in_ok-pivot.ensures.counted c.in_ok-pivot.ensures.made))

pub returns-clause-stands : goal.returns-clause-stands
returns-clause-stands c =
    let run = c.args.self.now in
    let few : run.table.pivots < run.limits.pivots = omega (arith, c.if-pivots.false, c.pivots.ensures.value, c.pivots-2.ensures) in
    let made = made_whole run.table c.pivot.new.self c.args.row c.args.variable run.limits.pivots few (omega (arith, c.pivots.ensures.ranges.few_pivots)) c.in_ok-pivot.ensures.counted c.in_ok-pivot.ensures.made in
    let due = pivot_due run.pricer.classes (run_limits run.limits) run.table c.args.row c.args.variable c.requires.open c.requires.chosen false (lt-leb run.limits.pivots run.table.pivots few)
    ∙ ap (pivoted run.table) made in
    let stands = c.requires.stands in
    stands_on run.pricer.classes (run_limits run.limits) run.table run.pricer.closed stands c.pivot.new.self due run.pricer.closed
    (stands.closed_are ∙ sym (closed_rows_stay run.table stands.keeps.in_order c.requires.open c.args.row c.args.variable c.requires.chosen c.pivot.new.self made))

pub returns-in_err-pivot-clause-makes : goal.returns-in_err-pivot-clause-makes
returns-in_err-pivot-clause-makes c =
    let run = c.args.self.now in
    let few : run.table.pivots < run.limits.pivots = omega (arith, c.if-pivots.false, c.pivots.ensures.value, c.pivots-2.ensures) in
    let out = err_from_is_err_and c.from_residual.result c.from_residual.ensures.1 in
    rw (out.1, out.2) (
      pivot_steps run.share run.pricer.classes (run_limits run.limits) run.table c.args.row c.args.variable c.requires.open c.requires.chosen false (lt-leb run.limits.pivots run.table.pivots few)
          _ (ap (pivoted run.table) (sym c.in_err-pivot.ensures.made)),
      c.in_err-pivot.ensures.kept,
    )
