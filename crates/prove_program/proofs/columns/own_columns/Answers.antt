use Rattle.std.proofs.Common.{◌≡◌, ◌∙◌, ◌<◌, [], ◌∷◌, ◌++◌, List, length, get_or, ap, ap₂, sym, arith}
use Rattle.std.specs.Prelude.{None}
use Rattle.std.proofs.lemmas.List.{get_or_default}
use Rattle.std.proofs.lemmas.List.FromFn.{map-range_with_len_more}
use Rattle.define_pools.specs.Pool.{Volunteer, volunteer}
use Rattle.define_pools.specs.declared.Standing.TheVariants.{Gone}
use Rattle.define_searches.specs.Classes.{least_taken, most_taken}
use Rattle.prove_program.specs.declared.columns.Column.{Column}
use Rattle.prove_program.specs.Programs.{own_column}
use Rattle.prove_program.proofs.columns.own_columns.Goals as goal

pub loop-number-preserved : goal.loop-number-preserved
loop-number-preserved c =
    let pool = c.args.pool.now in let k = c.loop-number.number in let item = c.volunteer-item.result in
    let same = c.volunteers-volunteer-items.ensures in
    let count = ap (λ (xs : List Volunteer). length xs) same in
    let below : k < length pool.volunteers = omega (arith, count) in
    let nobody : Volunteer = record { id = []; values = []; standing = Gone; household = None } in
    let is : item ≡ volunteer pool.volunteers k = c.volunteer-item.is ∙ ap (λ (xs : List Volunteer). get_or xs k item) same ∙ get_or_default pool.volunteers k item nobody below in
    let standing : c.standing.result ≡ (volunteer pool.volunteers k).standing = c.standing.ensures ∙ ap (λ (v : Volunteer). v.standing) is in
    let column : c.own_column.result ≡ own_column pool k = c.own_column.ensures ∙ ap (λ s. let made : Column = record { first = k; size = 1; least = least_taken s 1; greatest = most_taken s 1 } in made) standing in
    c.in_ok-push.ensures.items ∙ ap₂ (λ xs x. xs ++ x ∷ []) c.loop-number.invariant column ∙ sym (map-range_with_len_more (own_column pool) 0 k k (omega arith))
