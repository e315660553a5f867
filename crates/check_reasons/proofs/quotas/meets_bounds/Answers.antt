use Rattle.std.proofs.Common.{◌≡◌, ℕ, ◌<◌, Bool, List, length, get_or, ap, ◌∙◌, arith}
use Rattle.std.specs.List.{enumerate_from, list_all}
use Rattle.define_pools.specs.Pool.{BoundedValue, Volunteer, is_within, members_with}
use Rattle.check_reasons.proofs.Enumerated.{list_all-enumerated_same}
use Rattle.check_reasons.proofs.quotas.meets_bounds.Goals as goal

-- If the counted numbers are how many members have each value, the test of the counted numbers is the test of the panel.
tested : (volunteers : List Volunteer) (members : List ℕ) (c : ℕ) (values own : List BoundedValue) (numbers counted : List ℕ) (said : Bool) → values ≡ own → counted ≡ numbers →
    ((v : ℕ) → v < length values → get_or numbers v 0 ≡ members_with volunteers members c v) →
    said ≡ list_all (λ (v, value). is_within value (get_or counted v 0)) (enumerate_from 0 values) →
    said ≡ list_all (λ (v, value). is_within value (members_with volunteers members c v)) (enumerate_from 0 own)
tested volunteers members c values own numbers counted said e f each is =
    is
    ∙ list_all-enumerated_same (λ (v, value). is_within value (get_or counted v 0)) (λ (v, value). is_within value (members_with volunteers members c v)) 0 values
    (λ v value l. ap (is_within value) (ap (λ (ns : List ℕ). get_or ns v 0) f ∙ each v (omega arith)))
    ∙ ap (λ values. list_all (λ (v, value). is_within value (members_with volunteers members c v)) (enumerate_from 0 values)) e

pub returns : goal.returns
returns c =
    tested c.args.volunteers.now c.args.members.now c.args.c c.values-values.result.now c.args.category.now.values c.in_ok-numbers.numbers.items c.deref.result.now c.lie_within.result
    c.values-values.ensures c.deref.ensures.value c.in_ok-numbers.ensures c.lie_within.ensures
