use Rattle.std.proofs.Common.{◌∙◌, ap, map}
use Rattle.std.specs.Prelude.{slice_get}
use Rattle.define_searches.specs.Classes.{Class, Classes, classes_of}
use Rattle.std.proofs.Common.{List}
use Rattle.prove_program.specs.Demands.{household_of}
use Rattle.prove_program.proofs.ClassHouseholds.{households_are}
use Rattle.prove_program.proofs.demands.shared_households.Goals as goal

pub returns : goal.returns
returns c =
    let pool = c.args.pool.now in
    c.in_ok-households.ensures
    ∙ ap (λ (classes : List Class). map (λ number. household_of (slice_get classes number)) c.args.numbers.now) (c.classes.ensures ∙ ap (λ (all : Classes). all.classes) c.requires.found)
    ∙ ap (map (λ number. household_of (slice_get (classes_of pool).classes number))) c.requires.numbers
    ∙ households_are pool
