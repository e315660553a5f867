-- The line of a panel, written id by id.
use Rattle.std.proofs.Common.{◌≡◌, ◌∙◌, ℕ, ◌+◌, ◌<◌, List, [], ◌∷◌, ◌++◌, length, map, take, get_or, ap, sym, append_assoc}
use Rattle.std.proofs.lemmas.List.{append-nil, get_or_default, map-append, take_more}
use Rattle.std.proofs.lemmas.List.Concat.{flat_map-append}
use Rattle.define_pools.specs.Pool.{Volunteer, volunteer}
use Rattle.define_lines.specs.Lines.{tab, tabbed}

pub tabbed_then : (fields more : List (List ℕ)) → tabbed (fields ++ more) ≡ tabbed fields ++ tabbed more
tabbed_then fields more = flat_map-append (λ (field : List ℕ). tab ∷ field) fields more

-- if `before` is `word` and the ids of the first `index` members, and `after` is `before` with a TAB and the next member's id added, then
-- `after` is `word` and the ids of the first `index + 1` members
pub one_id : (word : List ℕ) (volunteers : List Volunteer) (members : List ℕ) (index : ℕ) (before after : List ℕ) (seen : Volunteer) →
    before ≡ word ++ tabbed (map (λ i. (volunteer volunteers i).id) (take index members)) → index < length members →
    after ≡ before ++ (tab ∷ seen.id) → seen ≡ get_or volunteers (get_or members index 0) seen → get_or members index 0 < length volunteers →
    after ≡ word ++ tabbed (map (λ i. (volunteer volunteers i).id) (take (index + 1) members))
one_id word volunteers members index before after seen stood l e is inside =
    let id_at : ℕ → List ℕ = λ i. (volunteer volunteers i).id in
    let more : take (index + 1) members ≡ take index members ++ get_or members index 0 ∷ [] = take_more members index 0 l in
    let ids : map id_at (take (index + 1) members) ≡ map id_at (take index members) ++ id_at (get_or members index 0) ∷ [] =
    ap (map id_at) more ∙ map-append id_at (take index members) (get_or members index 0 ∷ []) in
    let its : id_at (get_or members index 0) ≡ seen.id = ap (λ (v : Volunteer). v.id) (get_or_default volunteers (get_or members index 0) _ seen inside ∙ sym is) in
    let added : tabbed (map id_at (take (index + 1) members)) ≡ tabbed (map id_at (take index members)) ++ (tab ∷ seen.id) =
    ap tabbed ids ∙ (tabbed_then (map id_at (take index members)) (id_at (get_or members index 0) ∷ [])
    ∙ ap (λ id. tabbed (map id_at (take index members)) ++ (tab ∷ id)) (append-nil (id_at (get_or members index 0)) ∙ its)) in
    e ∙ (ap (λ text. text ++ (tab ∷ seen.id)) stood
    ∙ (append_assoc word (tabbed (map id_at (take index members))) (tab ∷ seen.id) ∙ ap (λ rest. word ++ rest) (sym added)))
