use Rattle.std.proofs.Common.{◌≡◌, ℕ, ◌+◌, ◌<◌, ◌&&◌, leb, List, [], length, get_or, refl, ap, ◌∙◌, arith}
use Rattle.std.specs.Prelude.{slice_index_or}
use Rattle.std.proofs.lemmas.List.{get_or_default}
use Rattle.std.proofs.lemmas.Option.{get_or_from_slice_get}
use Rattle.define_searches.specs.declared.Bounds.{Bounds}
use Rattle.define_searches.specs.Compositions.{has_value, taken_of}
use Rattle.define_searches.specs.Fronts.{later_than, most_given}
use Rattle.define_searches.specs.Tallies.{HasBound, cell, within_reach}
use Rattle.define_searches.proofs.Tracking.{few_places, most_small, taken_within_all}
use Rattle.check_search.proofs.tally.Tally.reaches_value.Goals as goal
use Rattle.check_search.proofs.tally.Tally.reaches_value.Goals.{After-index-2}

-- the two numbers that the code reads
module _ (c : After-index-2) where
  within : c.args.value < 50
  within = let few = few_places c.args.classes.now c.facts.ensures c.args.category c.requires.category in omega (arith, few, c.requires.value)

  taken : c.index.result.now ≡ taken_of (has_value c.args.category c.args.value) c.args.classes.now.classes c.args.front.now
  taken =
      let stands = c.requires.stands in
      c.index.ensures ∙ get_or_default c.args.self.now.held.items (cell c.args.category c.args.value) _ 0 (omega (arith, stands.held_cells, c.requires.category, within)) ∙ stands.held c.args.category c.args.value c.requires.category within

  more : c.index-2.result.now ≡ most_given (has_value c.args.category c.args.value) (later_than c.args.front.now c.args.classes.now.classes)
  more =
      let stands = c.requires.stands in
      c.index-2.ensures ∙ get_or_default c.args.self.now.later.items (cell c.args.category c.args.value) _ 0 (omega (arith, stands.later_cells, c.requires.category, within)) ∙ stands.later c.args.category c.args.value c.requires.category within

  bound_is : (bound : Bounds) → HasBound c.args.classes.now.bounds c.args.category c.args.value bound → (d : Bounds) → get_or c.as_slice.result.now c.args.value d ≡ bound
  bound_is bound has d =
      ap (λ (xs : List Bounds). get_or xs c.args.value d) (c.as_slice.ensures ∙ c.index-bounds-category.is ∙ ap (λ (xs : List (List Bounds)). get_or xs c.args.category c.index-bounds-category.result) c.bounds.ensures ∙ get_or_default c.args.classes.now.bounds c.args.category _ [] c.requires.category)
      ∙ get_or_from_slice_get (slice_index_or c.args.classes.now.bounds c.args.category []) c.args.value bound d has

same_reach : (bound bound' : Bounds) (n n' m m' : ℕ) → bound ≡ bound' → n ≡ n' → m ≡ m' → within_reach bound n m ≡ (leb n' bound'.upper && leb bound'.lower (n' + m'))
same_reach bound bound' n n' m m' e f g = rw (e, f, g) refl

pub is_within_reach-requires : goal.is_within_reach-requires
is_within_reach-requires c =
    let here = (goal.at.is_within_reach-requires c).After-index-2 in
    let all = c.args.classes.now in let front = c.args.front.now in
    omega (
      arith,
      taken here,
      more here,
      taken_within_all (has_value c.args.category c.args.value) all.classes front,
      c.requires.few,
      most_small all (length front) (has_value c.args.category c.args.value) c.facts.ensures,
    )

pub returns : goal.returns
returns c = λ bound has.
    let here = (goal.at.returns c).After-index-2 in
    c.is_within_reach.ensures ∙ same_reach _ bound _ _ _ _ (bound_is here bound has _) (taken here) (more here)
