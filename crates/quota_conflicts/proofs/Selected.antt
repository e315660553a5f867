-- An increasing list of a pool's volunteers keeps the volunteers' standings exactly if it is a selection.
use Rattle.std.proofs.Common.{◌≡◌, ℕ, ◌+◌, true, ◌&&◌, nat_lt, List, [], ◌∷◌, length, map, refl, sym, ap, ◌∙◌}
use Rattle.std.specs.List.{enumerate_from, list_all}
use Rattle.std.proofs.lemmas.Bool.{and_from}
use Rattle.std.proofs.lemmas.List.{length-map}
use Rattle.define_proofs.specs.Leaves.{standings}
use Rattle.define_pools.specs.Lists.{includes, is_increasing}
use Rattle.define_pools.specs.Pool.{Pool, Volunteer, allows, keeps_standings}
use Rattle.define_quotas.specs.Quotas.{is_selection, keeps}

pub keeps_same : (panel : List ℕ) (first : ℕ) (volunteers : List Volunteer) →
    list_all (λ (i, volunteer). allows volunteer.standing (includes panel i)) (enumerate_from first volunteers) ≡ keeps panel first (map (λ volunteer. volunteer.standing) volunteers)
keeps_same panel first [] = refl
keeps_same panel first (volunteer ∷ volunteers) = ap (λ b. allows volunteer.standing (includes panel first) && b) (keeps_same panel (first + 1) volunteers)

-- an increasing list of the pool's volunteers is a selection exactly if it keeps the standings
pub is_selected : (pool : Pool) (panel : List ℕ) → is_increasing panel ≡ true → list_all (λ i. nat_lt i (length pool.volunteers)) panel ≡ true →
    keeps_standings pool.volunteers panel ≡ is_selection pool panel
is_selected pool panel increasing below =
    let all = standings pool in
    let many = length-map pool.volunteers (λ (volunteer : Volunteer). volunteer.standing) in
    let here : list_all (λ i. nat_lt i (length all)) panel ≡ true = ap (λ n. list_all (λ i. nat_lt i n) panel) many ∙ below in
    keeps_same panel 0 pool.volunteers
    ∙ ap (λ b. b && keeps panel 0 all) (sym (and_from (is_increasing panel) (list_all (λ i. nat_lt i (length all)) panel) increasing here))
