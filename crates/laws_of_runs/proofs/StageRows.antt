-- In the stage of a row, each volunteer's weight is the entry of the volunteer's class; and the row can be read back from the stage.
use Rattle.std.proofs.Common.{◌≡◌, ℕ, suc, ◌+◌, ◌<◌, Bool, true, List, [], ◌∷◌, map, length, get_or, pos, refl, sym, ap, ap₂, ◌∙◌, arith}
use Rattle.std.specs.List.{range_with_len}
use Rattle.std.proofs.lemmas.List.{get_or-map, length-map}
use Rattle.std.proofs.lemmas.List.FromFn.{get_or-map-range_with_len, length-map-range_with_len}
use Rattle.define_pools.specs.Certificate.{weight_of}
use Rattle.define_pools.specs.Pool.{Pool}
use Rattle.define_rows.specs.Row.{Row, entry}
use Rattle.define_searches.specs.Classes.{Classes, MakesClasses, class_number, classes_by, leaders}
use Rattle.define_searches.specs.Stages.{row_of}
use Rattle.define_searches.proofs.ClassNumbers.{class_count, leader_below, leader_number, number_same}
use Rattle.define_searches.proofs.Parting.{all_counted}
use Rattle.define_runs.specs.Run.{stage_of}

-- if f (a + i) is element i of a list, mapping f over the range from a gives the list
pub from_places : {X : Type 0} (f : ℕ → X) (a : ℕ) (xs : List X) (d : X) → ((i : ℕ) → i < length xs → f (a + i) ≡ get_or xs i d) → map f (range_with_len a (length xs)) ≡ xs
from_places f a [] d h = refl
from_places f a (x ∷ xs) d h =
    let here : a + 0 ≡ a = omega arith in
    ap₂ (λ y ys. y ∷ ys) (ap f (sym here) ∙ h 0 (omega arith))
    (from_places f (a + 1) xs d (λ i l. let next : a + 1 + i ≡ a + suc i = omega arith in ap f next ∙ h (suc i) (omega arith)))

module _ (pool : Pool) (alike : ℕ → ℕ → Bool) (makes : MakesClasses pool alike) where
  abbrev count : ℕ
  count = length pool.volunteers

  abbrev all : Classes
  all = classes_by alike pool

  abbrev firsts : List ℕ
  firsts = leaders alike count

  -- the number of a volunteer's class
  abbrev pub class_of_volunteer : ℕ → ℕ
  class_of_volunteer i = class_number all.classes i

  weights_are : (row : Row) → (stage_of all row).weights ≡ map (λ i. entry row (class_of_volunteer i)) (range_with_len 0 count)
  weights_are row = ap (λ n. map (λ i. entry row (class_of_volunteer i)) (range_with_len 0 n)) (all_counted pool alike makes)

  pub one_weight_each : (row : Row) → length (stage_of all row).weights ≡ count
  one_weight_each row = ap length (weights_are row) ∙ length-map-range_with_len (λ i. entry row (class_of_volunteer i)) 0 count

  pub weight_is_entry : (row : Row) (i : ℕ) → i < count → weight_of (stage_of all row) i ≡ entry row (class_of_volunteer i)
  weight_is_entry row i l =
      ap (λ ws. get_or ws i (pos 0)) (weights_are row)
      ∙ get_or-map-range_with_len (λ i. entry row (class_of_volunteer i)) 0 count i i (pos 0) l (omega arith)

  -- the weights of the classes' leaders in a row's stage are the row's entries
  pub entries_back : (row : Row) → length row.a ≡ length all.classes → map (weight_of (stage_of all row)) firsts ≡ row.a
  entries_back row e =
      let weigh : ℕ → ℕ = λ t. get_or firsts t 0 in
      let many : length (map (weight_of (stage_of all row)) firsts) ≡ length row.a = length-map firsts (weight_of (stage_of all row)) ∙ sym (class_count pool alike makes) ∙ sym e in
      sym (from_places (λ t. weight_of (stage_of all row) (weigh t)) 0 (map (weight_of (stage_of all row)) firsts) (pos 0)
      (λ t l. let here : 0 + t ≡ t = omega arith in
      ap (λ t. weight_of (stage_of all row) (weigh t)) here ∙ sym (get_or-map (weight_of (stage_of all row)) firsts t 0 (pos 0) (omega (arith, length-map firsts (weight_of (stage_of all row)))))))
      ∙ ap (λ n. map (λ t. weight_of (stage_of all row) (weigh t)) (range_with_len 0 n)) many
      ∙ from_places (λ t. weight_of (stage_of all row) (weigh t)) 0 row.a (pos 0)
      (λ t l.
      let here : 0 + t ≡ t = omega arith in
      let inside : t < length firsts = omega (arith, e, class_count pool alike makes) in
      ap (λ t. weight_of (stage_of all row) (weigh t)) here ∙ weight_is_entry row (weigh t) (leader_below pool alike makes t inside)
      ∙ ap (entry row) (leader_number pool alike makes t inside))

  pub row_back : (row : Row) → length row.a ≡ length all.classes → row_of alike pool (stage_of all row) ≡ row
  row_back row e = ap (λ a. let made : Row = record { b = row.b; a = a } in made) (entries_back row e)

  -- two volunteers who are alike have the same weight in a row's stage
  pub weighs_alike : (row : Row) (i j : ℕ) → i < count → j < count → alike i j ≡ true → weight_of (stage_of all row) i ≡ weight_of (stage_of all row) j
  weighs_alike row i j a b t = weight_is_entry row i a ∙ ap (entry row) (number_same pool alike makes i j a b t) ∙ sym (weight_is_entry row j b)
