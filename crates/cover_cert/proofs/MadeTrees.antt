-- How trees are made, stage by stage.
use Rattle.std.proofs.Common.{◌≡◌, ℕ, ◌+◌, ◌≤◌, ◌<◌, Bool, true, false, ltb, List, [], ◌∷◌, ◌++◌, length, get_or, drop, take, map, None, refl, sym, ap, ◌∙◌, subst, append_assoc, length-append, arith}
use Rattle.std.specs.Prelude.{reverse}
use Rattle.std.specs.List.{list_all}
use Rattle.std.proofs.lemmas.Bool.{and_from, ltb-false, ltb-true}
use Rattle.std.proofs.lemmas.List.{append-nil, drop_all, drop_more, length-reverse, length-take-le, reverse-append, take_more}
use Rattle.define_checks.specs.Caps.{classes_at, first_above, stage_row}
use Rattle.define_checks.proofs.PassedCaps.{none_where_capped}
use Rattle.define_pools.specs.Certificate.{Stage, is_capped}
use Rattle.define_pools.specs.Pool.{IsPool, Pool}
use Rattle.define_proofs.specs.CapsHold.{CapsHold}
use Rattle.define_covers.specs.Causes.{all_values}
use Rattle.define_covers.specs.Covers.{FrontLine}
use Rattle.define_covers.specs.CoverRanges.{is_front_line, value_count}
use Rattle.define_covers.specs.CoverText.{keep_ranges}
use Rattle.check_search.specs.Terms.{AreOfStage}
use Rattle.check_search.specs.declared.terms.Terms.{Terms}
use Rattle.define_covers.specs.Made.{IsSearched, IsSearchedStage, TreesSearched}
use Rattle.define_covers.proofs.MadeRanges.{in_ranges_where_searched, same_value_count}

-- ---- a number that is not found yet

pub none_more : (p : ℕ → Bool) (place : ℕ) → ((number : ℕ) → 1 ≤ number → number < 1 + place → p number ≡ false) → p (place + 1) ≡ false → (number : ℕ) → 1 ≤ number → number < 1 + (place + 1) → p number ≡ false
none_more p place before here number l m =
    (elim (ltb number (1 + place)) as (λ b. ltb number (1 + place) ≡ b → p number ≡ false) [
      | true ↦ λ e. before number l (ltb-true number (1 + place) e)
      | false ↦ λ e. let far = ltb-false number (1 + place) e in let same : place + 1 ≡ number = omega arith in ap p (sym same) ∙ here
    ]) refl

-- ---- the terms of a stage

module _ (pool : Pool) (earlier : List Stage) (stage : Stage) (terms : Terms) (made : AreOfStage pool earlier stage terms) where
  pub values_same : (values : ℕ) → values ≡ value_count pool → values ≡ length (all_values terms.classes)
  values_same values e = e ∙ sym (same_value_count pool (stage ∷ earlier)) ∙ ap (λ all. length (all_values all)) (sym made.classes)

  pub none_above : is_capped pool earlier stage ≡ true → first_above terms.classes terms.closed.items terms.row ≡ None
  none_above capped =
      ap (λ all. first_above all terms.closed.items terms.row) made.classes
      ∙ ap (λ closed. first_above (classes_at pool (stage ∷ earlier)) closed terms.row) made.closed
      ∙ ap (first_above (classes_at pool (stage ∷ earlier)) (map (stage_row pool (stage ∷ earlier)) earlier)) made.row
      ∙ none_where_capped pool earlier stage capped

  pub searched_stage : (lines : List FrontLine) → IsSearched terms.classes terms.closed.items terms.row lines → IsSearchedStage pool earlier stage lines
  searched_stage lines searched =
      subst (λ row. IsSearched (classes_at pool (stage ∷ earlier)) (map (stage_row pool (stage ∷ earlier)) earlier) row lines) made.row
      (subst (λ closed. IsSearched (classes_at pool (stage ∷ earlier)) closed terms.row lines) made.closed (subst (λ all. IsSearched all terms.closed.items terms.row lines) made.classes searched))

-- ---- from stage to stage

module _ (pool : Pool) (stages : List Stage) where
  abbrev earlier : ℕ → List Stage
  earlier k = reverse (take k stages)

  -- the trees of the first stages are right: with right trees for the later stages, all are right
  pub record Grows (k : ℕ) (trees : List (List FrontLine)) : Type 0 where
    pub one_each : length trees ≡ k
    pub capped : CapsHold pool (earlier k) (drop k stages)
    pub searched : (rest : List (List FrontLine)) → TreesSearched pool (earlier k) (drop k stages) rest → TreesSearched pool [] stages (trees ++ rest)
    pub in_ranges : (rest : List (List FrontLine)) → keep_ranges pool k rest ≡ true → keep_ranges pool 0 (trees ++ rest) ≡ true

  pub no_tree : CapsHold pool [] stages → Grows 0 []
  no_tree capped = record { one_each = refl; capped = capped; searched = λ rest h. h; in_ranges = λ rest h. h }

  module _ (k : ℕ) (stage : Stage) (below : k < length stages) (is : stage ≡ get_or stages k stage) where
    earlier_more : earlier (k + 1) ≡ stage ∷ earlier k
    earlier_more = ap reverse (take_more stages k stage below) ∙ reverse-append (take k stages) (get_or stages k stage ∷ []) ∙ ap (λ it. it ∷ earlier k) (sym is)

    stages_from : drop k stages ≡ stage ∷ drop (k + 1) stages
    stages_from = drop_more stages k stage below ∙ ap (λ it. it ∷ drop (k + 1) stages) (sym is)

    caps_from : CapsHold pool (earlier k) (drop k stages) → CapsHold pool (earlier k) (stage ∷ drop (k + 1) stages)
    caps_from capped = subst (CapsHold pool (earlier k)) stages_from capped

    pub cap_holds : (trees : List (List FrontLine)) → Grows k trees → is_capped pool (earlier k) stage ≡ true
    cap_holds trees grows = (caps_from grows.capped).0

    numbered : length (earlier k) + 1 ≡ k + 1
    numbered = omega (arith, length-reverse (take k stages), length-take-le k stages (omega arith))

    -- the lines of the search at stage `k` are in their ranges
    pub ranges_kept : IsPool pool → (lines : List FrontLine) → IsSearchedStage pool (earlier k) stage lines → list_all (is_front_line pool (k + 1)) lines ≡ true
    ranges_kept is_pool lines searched =
        ap (λ n. list_all (is_front_line pool n) lines) (sym numbered) ∙ in_ranges_where_searched pool (earlier k) stage lines is_pool searched

    pub tree_more : (trees : List (List FrontLine)) (lines : List FrontLine) → Grows k trees → IsSearchedStage pool (earlier k) stage lines → list_all (is_front_line pool (k + 1)) lines ≡ true → Grows (k + 1) (trees ++ lines ∷ [])
    tree_more trees lines grows searched ranges = record {
      one_each = let many = grows.one_each in omega (arith, length-append trees (lines ∷ []));
      capped = subst (λ before. CapsHold pool before (drop (k + 1) stages)) (sym earlier_more) (caps_from grows.capped).1;
      searched = λ rest h.
          subst (TreesSearched pool [] stages) (sym (append_assoc trees (lines ∷ []) rest))
          (grows.searched (lines ∷ rest) (subst (λ those. TreesSearched pool (earlier k) those (lines ∷ rest)) (sym stages_from) (searched, subst (λ before. TreesSearched pool before (drop (k + 1) stages) rest) earlier_more h)));
      in_ranges = λ rest h.
          ap (keep_ranges pool 0) (append_assoc trees (lines ∷ []) rest)
          ∙ grows.in_ranges (lines ∷ rest) (and_from (list_all (is_front_line pool (k + 1)) lines) (keep_ranges pool (k + 1) rest) ranges h);
    }

  -- all stages have their trees
  module _ (trees : List (List FrontLine)) (grows : Grows (length stages) trees) where
    pub all_searched : TreesSearched pool [] stages trees
    all_searched =
        subst (TreesSearched pool [] stages) (append-nil trees)
        (grows.searched [] (subst (λ those. TreesSearched pool (earlier (length stages)) those []) (sym (drop_all (length stages) stages (omega arith))) tt))

    pub all_in_ranges : keep_ranges pool 0 trees ≡ true
    all_in_ranges = ap (keep_ranges pool 0) (sym (append-nil trees)) ∙ grows.in_ranges [] refl
