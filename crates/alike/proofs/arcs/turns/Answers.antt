use Rattle.std.proofs.Common.{◌≡◌, ◌<◌, ◌*◌, ◌/◌, ℕ, zero, suc, sym, arith}
use Rattle.std.specs.Int.{◌∣◌}
use Rattle.std.proofs.Math.Nat.{div-lt_iff_lt-mul, div-mul_cancel}
use Rattle.define_runs.proofs.Dials.{Divided, turn_is}
use Rattle.alike.proofs.arcs.turns.Goals as goal

some_step : (size places at : ℕ) → size ∣ places → at < places → 0 < places / size
some_step size places at h below = positive (places / size) (div-mul_cancel size h)
  where
    positive : (q : ℕ) → q * size ≡ places → 0 < q
    positive zero e = absurd (omega arith)
    positive (suc q) e = omega arith

abbrev steps : (size places at : ℕ) → 0 < size → size ∣ places → at < places → Divided size places
steps size places at has h below = record { step = places / size; some = some_step size places at h below; has = has; is = div-mul_cancel size h }

start_below : (size places at : ℕ) (d : Divided size places) → at < places → at / d.step < size
start_below size places at d below = let whole = d.is in (div-lt_iff_lt-mul d.some).1 (omega arith)

pub nonzero_div-result-2 : goal.nonzero_div-result-2
nonzero_div-result-2 c = (steps c.args.size c.args.places c.args.at c.requires.size.0 c.requires.size.1 c.requires.at).some

pub overflow_cast-result-2 : goal.overflow_cast-result-2
overflow_cast-result-2 c =
    let d = steps c.args.size c.args.places c.args.at c.requires.size.0 c.requires.size.1 c.requires.at in
    let below = start_below c.args.size c.args.places c.args.at d c.requires.at in
    let fits = c.ranges.size.fits in
    omega arith

pub returns-clause-value : goal.returns-clause-value
returns-clause-value c =
    sym (turn_is c.args.size c.args.places c.args.at (steps c.args.size c.args.places c.args.at c.requires.size.0 c.requires.size.1 c.requires.at))

pub returns-clause-within : goal.returns-clause-within
returns-clause-within c =
    start_below c.args.size c.args.places c.args.at (steps c.args.size c.args.places c.args.at c.requires.size.0 c.requires.size.1 c.requires.at) c.requires.at
