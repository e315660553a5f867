use Rattle.std.proofs.Common.{◌∙◌, ap, map}
use Rattle.std.specs.List.{range_with_len}
use Rattle.define_searches.specs.Classes.{Classes, are_alike, class_number, classes_of, volunteer_count}
use Rattle.define_searches.proofs.AlikeClasses.{alike_makes}
use Rattle.define_searches.proofs.Parting.{all_counted}
use Rattle.prove_program.proofs.columns.numbers_of_classes.Goals as goal

pub returns : goal.returns
returns c =
    let pool = c.args.pool.now in
    c.in_ok-numbers.ensures
    ∙ ap (λ (all : Classes). map (class_number all.classes) (range_with_len 0 (volunteer_count all))) c.requires
    ∙ ap (λ n. map (class_number (classes_of pool).classes) (range_with_len 0 n)) (all_counted pool (are_alike pool) (alike_makes pool))
