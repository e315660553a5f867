use Rattle.std.proofs.Common.{◌∙◌, ◌<◌, List, Option, ℕ, length, get_or, ap, arith}
use Rattle.std.proofs.lemmas.Bool.{false≢true, lt-ltb}
use Rattle.std.proofs.lemmas.List.FromFn.{get_or-map-range_with_len, length-map-range_with_len}
use Rattle.define_searches.specs.Classes.{shared_household}
use Rattle.prove_program.proofs.demands.household_of.Goals as goal

pub returns-in-Some : goal.returns-in-Some
returns-in-Some c =
    let pool = c.args.pool.now in
    c.in-Some.ensures.lookup.1 ∙ ap (λ (xs : List (Option ℕ)). get_or xs c.args.i c.in-Some.household.now) c.requires.households
    ∙ get_or-map-range_with_len (shared_household pool.volunteers) 0 (length pool.volunteers) c.args.i c.args.i c.in-Some.household.now c.requires.volunteer (omega arith)

pub returns-in-None : goal.returns-in-None
returns-in-None c =
    let pool = c.args.pool.now in
    let many = ap (λ (xs : List (Option ℕ)). length xs) c.requires.households ∙ length-map-range_with_len (shared_household pool.volunteers) 0 (length pool.volunteers) in
    let inside : c.args.i < length c.args.households.now = omega (arith, many, c.requires.volunteer) in
    absurd (false≢true (c.in-None.ensures.lookup.0 ∙ lt-ltb c.args.i (length c.args.households.now) inside))
