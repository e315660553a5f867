use Rattle.std.proofs.Common.{◌≤◌, ◌+◌, ◌^◌, sym, arith}
use Rattle.define_rows.specs.Binomials.{binomial}
use Rattle.define_rows.proofs.BinomialLaws.{choose_none}
use Rattle.exact_table.proofs.ChoiceLaws.{few-turns, passes-on, small-product, turn-product}
use Rattle.exact_table.proofs.bases.choices.Goals as goal

pub loop-chosen-init : goal.loop-chosen-init
loop-chosen-init c = record { so_far = sym (choose_none (c.args.rest + 0)); within = omega arith }

pub scaled-requires-clause-few : goal.scaled-requires-clause-few
scaled-requires-clause-few c =
    let chosen = c.loop-chosen.chosen in
    let low : binomial (c.args.rest + chosen) chosen ≤ 10 ^ 38 = omega (arith, c.loop-chosen.invariant.so_far, c.loop-chosen.invariant.within) in
    small-product chosen c.args.rest (few-turns chosen c.args.rest (omega (arith, c.loop-chosen-test.true, c.requires.half)) low) c.requires.few

pub scaled-requires-clause-whole : goal.scaled-requires-clause-whole
scaled-requires-clause-whole c = (binomial (c.args.rest + (c.loop-chosen.chosen + 1)) (c.loop-chosen.chosen + 1), turn-product c.loop-chosen.chosen c.args.rest c.loop-chosen.ways c.loop-chosen.invariant.so_far)

pub returns-in_err-ways : goal.returns-in_err-ways
returns-in_err-ways c =
    let chosen = c.loop-chosen.chosen in
    let passes = c.in_err-ways.ensures (binomial (c.args.rest + (chosen + 1)) (chosen + 1)) (turn-product chosen c.args.rest c.loop-chosen.ways c.loop-chosen.invariant.so_far) in
    rw c.from_residual.ensures (λ l. passes (omega (arith, l, passes-on chosen c.args.rest c.args.size c.loop-chosen-test.true)))

pub loop-chosen-preserved : goal.loop-chosen-preserved
loop-chosen-preserved c =
    let chosen = c.loop-chosen.chosen in
    let told = c.in_ok-ways.ensures (binomial (c.args.rest + (chosen + 1)) (chosen + 1)) (turn-product chosen c.args.rest c.loop-chosen.ways c.loop-chosen.invariant.so_far) in
    record { so_far = told.1; within = omega (arith, told.0, told.1) }
