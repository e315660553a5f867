use Rattle.std.proofs.Common.{◌≡◌, ℕ, true, false, not, cond, List, [], ◌∷◌, Option, Some, None, option_map, refl, sym, ◌∙◌, rules, tests}
use Rattle.std.specs.List.{find}
use Rattle.std.proofs.lemmas.Iterator.{YieldsList-from_slice}
use Rattle.std.proofs.lemmas.Iterator.Consumers.{YieldsList-from_copied}
use Rattle.std.proofs.lemmas.Iterator.Search.{find_from_yields_List}
use Rattle.define_pools.specs.Lists.{includes}
use Rattle.define_offices.specs.Pools.{not_seated as first_not_seated}
use Rattle.rounds.proofs.not_seated.Goals as goal

found_same : (r : Option ℕ) → option_map (λ (n : ℕ). n) r ≡ r
found_same None = refl
found_same (Some n) = refl

not_seated-find : (panel drops : List ℕ) → find (λ n. not (includes panel n)) drops ≡ first_not_seated panel drops
not_seated-find panel [] = refl
not_seated-find panel (number ∷ drops) =
    elim (includes panel number) as (λ b. cond (not b) (Some number) (find (λ n. not (includes panel n)) drops) ≡ cond b (first_not_seated panel drops) (Some number))
    [ true ↦ not_seated-find panel drops | false ↦ refl ]

pub returns : goal.returns
returns c =
    let panel = c.args.panel.now in
    let drops = c.args.drops.now in
    let found : option_map (λ (n : ℕ). n) c.find.result ≡ find (λ n. not (includes panel n)) drops =
    find_from_yields_List (λ n. not (includes panel n)) _ _ c.find.result c.find.ensures.ran (YieldsList-from_copied (YieldsList-from_slice drops cc)) (λ x b q k. search (rules, tests)) in
    sym (found_same c.find.result) ∙ (found ∙ not_seated-find panel drops)
