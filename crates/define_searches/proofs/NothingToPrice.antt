-- If pricing over the classes of a pool finds nothing, no quota panel that attains the earlier caps weighs more than the cap.
use Rattle.std.proofs.Common.{◌≡◌, ℕ, Bool, true, List, [], ◌∷◌, map, length, filter, ℤ, pos, ◌+ℤ◌, ◌*ℤ◌, None, refl, sym, ap, ◌∙◌}
use Rattle.std.proofs.lemmas.List.Elements.{filter_agree}
use Rattle.define_pools.specs.Certificate.{Stage, weight_of, is_capped}
use Rattle.define_pools.specs.Pool.{Pool}
use Rattle.define_searches.specs.Classes.{MakesClasses, leaders, classes_by}
use Rattle.define_searches.specs.Compositions.{weight_in, attains, first_greatest, price, compositions}
use Rattle.define_searches.specs.Stages.{WeighAlike, row_of}
use Rattle.define_searches.proofs.LeaderForm as by_leader
use Rattle.define_searches.proofs.PanelCompositions.{is_capped-from_price}
use Rattle.define_searches.proofs.PoolClasses.{compositions_same}

-- a composition's weight, with the leaders' weights as entries, is its weight as LeaderForm defines it
pub weight_same : (w : ℕ → ℤ) (firsts counts : List ℕ) → weight_in (map w firsts) counts ≡ by_leader.composition_weight w firsts counts
weight_same w [] [] = refl
weight_same w [] (c ∷ counts) = refl
weight_same w (l ∷ firsts) [] = refl
weight_same w (l ∷ firsts) (c ∷ counts) = ap (λ rest. pos c *ℤ w l +ℤ rest) (weight_same w firsts counts)

greatest_same : (v w : List ℕ → ℤ) → ((counts : List ℕ) → v counts ≡ w counts) → (floor : ℤ) (xs : List (List ℕ)) → first_greatest v floor xs ≡ first_greatest w floor xs
greatest_same v w e floor [] = refl
greatest_same v w e floor (x ∷ xs) =
    let here = e x in let above = greatest_same v w e (w x) xs in let rest = greatest_same v w e floor xs in
    rw (here, above, rest) refl

module _ (pool : Pool) (alike : ℕ → ℕ → Bool) where
  abbrev firsts : List ℕ
  firsts = leaders alike (length pool.volunteers)

  attains_same : (stages : List Stage) (counts : List ℕ) → attains (map (row_of alike pool) stages) counts ≡ by_leader.composition_attains stages firsts counts
  attains_same [] counts = refl
  attains_same (stage ∷ stages) counts =
      let here = weight_same (weight_of stage) firsts counts in let rest = attains_same stages counts in rw (here, rest) refl

  pub capped_where_nothing_priced : (earlier : List Stage) (stage : Stage) → MakesClasses pool alike → WeighAlike alike (length pool.volunteers) (stage ∷ earlier) →
      price (classes_by alike pool) (map (row_of alike pool) earlier) (row_of alike pool stage) ≡ None → is_capped pool earlier stage ≡ true
  capped_where_nothing_priced earlier stage makes weigh none =
      is_capped-from_price pool alike makes earlier stage weigh
      (sym (ap (λ all. first_greatest (by_leader.composition_weight (weight_of stage) firsts) stage.cap (filter (by_leader.composition_attains earlier firsts) all)) (compositions_same pool alike))
      ∙ sym (ap (first_greatest (by_leader.composition_weight (weight_of stage) firsts) stage.cap)
      (filter_agree (attains (map (row_of alike pool) earlier)) (by_leader.composition_attains earlier firsts) (attains_same earlier) (compositions (classes_by alike pool))))
      ∙ sym (greatest_same (weight_in (row_of alike pool stage).a) (by_leader.composition_weight (weight_of stage) firsts) (weight_same (weight_of stage) firsts) stage.cap
      (filter (attains (map (row_of alike pool) earlier)) (compositions (classes_by alike pool))))
      ∙ none)
