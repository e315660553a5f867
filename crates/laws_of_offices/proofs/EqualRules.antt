-- Categories that `same_rules` finds the same are equal.
use Rattle.std.proofs.Common.{◌≡◌, true, eqb, ◌&&◌, List, [], ◌∷◌, refl, ap, ◌∙◌}
use Rattle.std.specs.Str.{bytes_eq}
use Rattle.std.proofs.lemmas.Bool.{and_parts, eqb-true, false≢true}
use Rattle.std.proofs.lemmas.Slice.Eq.{bytes_eq-Decides}
use Rattle.define_pools.specs.Pool.{BoundedValue, Category}
use Rattle.define_offices.specs.Tables.{same_rules, same_values}

equal_value : (v w : BoundedValue) → v.name ≡ w.name → v.lower ≡ w.lower → v.upper ≡ w.upper → v ≡ w
equal_value v w names lowers uppers =
    ap (λ n. record v { name = n }) names ∙ (ap (λ n. record v { name = w.name; lower = n }) lowers ∙ ap (λ n. record v { name = w.name; lower = w.lower; upper = n }) uppers)

equal_values : (one other : List BoundedValue) → same_values one other ≡ true → one ≡ other
equal_values [] [] h = refl
equal_values [] (w ∷ other) h = absurd (false≢true h)
equal_values (v ∷ one) [] h = absurd (false≢true h)
equal_values (v ∷ one) (w ∷ other) h =
    let parts = and_parts (bytes_eq v.name w.name && eqb v.lower w.lower && eqb v.upper w.upper) (same_values one other) h in
    let bounds = and_parts (bytes_eq v.name w.name && eqb v.lower w.lower) (eqb v.upper w.upper) parts.0 in
    let first = and_parts (bytes_eq v.name w.name) (eqb v.lower w.lower) bounds.0 in
    let here = equal_value v w ((bytes_eq-Decides v.name w.name).0 first.0) (eqb-true v.lower w.lower first.1) (eqb-true v.upper w.upper bounds.1) in
    let rest = equal_values one other parts.1 in
    cc

equal_category : (c d : Category) → c.name ≡ d.name → c.values ≡ d.values → c ≡ d
equal_category c d names values = ap (λ n. record c { name = n }) names ∙ ap (λ v. record c { name = d.name; values = v }) values

pub equal_rules : (one other : List Category) → same_rules one other ≡ true → one ≡ other
equal_rules [] [] h = refl
equal_rules [] (d ∷ other) h = absurd (false≢true h)
equal_rules (c ∷ one) [] h = absurd (false≢true h)
equal_rules (c ∷ one) (d ∷ other) h =
    let parts = and_parts (bytes_eq c.name d.name && same_values c.values d.values) (same_rules one other) h in
    let first = and_parts (bytes_eq c.name d.name) (same_values c.values d.values) parts.0 in
    let here = equal_category c d ((bytes_eq-Decides c.name d.name).0 first.0) (equal_values c.values d.values first.1) in
    let rest = equal_rules one other parts.1 in
    cc
