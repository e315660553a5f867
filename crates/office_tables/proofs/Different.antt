-- Names that are read one by one into a set: they all differ as long as the next isn't in the set.
use Rattle.std.proofs.Common.{◌≡◌, ℕ, zero, suc, ◌+◌, ◌<◌, ◌≤◌, Bool, true, false, cond, not, ◌&&◌, ◌||◌, List, [], ◌∷◌, ◌++◌, length, get_or, map, take, Bor, refl, sym, ap, ◌∙◌, arith}
use Rattle.std.specs.BTreeSet.{BTreeSet, contains_by, Updates}
use Rattle.std.specs.Cmp.Lexicographic.{slice_cmp}
use Rattle.std.specs.List.{list_any}
use Rattle.std.specs.Ordering.{nat_cmp}
use Rattle.std.specs.Str.{bytes_eq}
use Rattle.std.proofs.Math.Bool.{and-false}
use Rattle.std.proofs.lemmas.Bool.{false≢true, or_left, or_right}
use Rattle.std.proofs.lemmas.List.{map-append, take_all, take_more}
use Rattle.std.proofs.lemmas.List.Folds.{list_any_more}
use Rattle.std.proofs.lemmas.Map.Text.{is_eq-slice_cmp}
use Rattle.define_pools.proofs.BuildingLemmas.{all_different_push, same_bytes_comm}
use Rattle.define_pools.specs.Lists.{all_different, includes_list}
use Rattle.office_tables.proofs.KeptParts.{list_any-map}

abbrev pub in_set : BTreeSet (Bor (List ℕ)) → List ℕ → Bool
in_set set xs = contains_by (λ k. slice_cmp nat_cmp xs k.now) set

either : (a b : Bool) → cond a true b ≡ (b || a)
either true true = refl
either true false = refl
either false true = refl
either false false = refl

module _ {X : Type 0} (f : X → List ℕ) where
  -- one of the rows has the name `xs`
  abbrev pub came : List X → List ℕ → Bool
  came rows xs = list_any (λ row. bytes_eq xs (f row)) rows

  -- if the set has exactly the names of the first `j` rows, then with the next name it has those of the first `j + 1`
  pub kept_more : (rows : List X) (j : ℕ) (row : X) (key : Bor (List ℕ)) (old new : BTreeSet (Bor (List ℕ))) → j < length rows → row ≡ get_or rows j row → key.now ≡ f row →
      ((xs : List ℕ) → in_set old xs ≡ came (take j rows) xs) → Updates (λ x y. slice_cmp nat_cmp x.now y.now) old new key true →
      (xs : List ℕ) → in_set new xs ≡ came (take (j + 1) rows) xs
  kept_more rows j row key old new l e name kept updates xs =
      let query : Bor (List ℕ) = record { ref_ptr = (0, 0); now = xs } in
      updates.0 query ∙ ap (λ b. cond b true (in_set old xs)) (is_eq-slice_cmp key.now xs ∙ same_bytes_comm key.now xs ∙ ap (bytes_eq xs) (name ∙ ap f e))
      ∙ either (bytes_eq xs (f (get_or rows j row))) (in_set old xs)
      ∙ ap (λ b. b || bytes_eq xs (f (get_or rows j row))) (kept xs)
      ∙ sym (list_any_more (λ row. bytes_eq xs (f row)) rows j row l)

  -- if the names of the first `j` rows all differ and the next isn't among them, those of the first `j + 1` all differ
  pub once_more : (rows : List X) (j : ℕ) (row : X) → j < length rows → row ≡ get_or rows j row → all_different (map f (take j rows)) ≡ true → came (take j rows) (f row) ≡ false →
      all_different (map f (take (j + 1) rows)) ≡ true
  once_more rows j row l e once new =
      let names : map f (take (j + 1) rows) ≡ map f (take j rows) ++ f row ∷ [] =
      ap (map f) (take_more rows j row l) ∙ (map-append f (take j rows) (get_or rows j row ∷ []) ∙ ap (λ (x : X). map f (take j rows) ++ f x ∷ []) (sym e)) in
      ap all_different names ∙ all_different_push (map f (take j rows)) (f row) once (list_any-map (bytes_eq (f row)) f (take j rows) ∙ new)

  among : (rows : List X) (j : ℕ) (row : X) (name : List ℕ) → j < length rows → row ≡ get_or rows j row → bytes_eq name (f row) ≡ true → includes_list (map f rows) name ≡ true
  among [] j row name l e same = absurd (omega arith)
  among (r ∷ rows) zero row name l e same = or_left (bytes_eq name (f r)) (includes_list (map f rows) name) (ap (λ (x : X). bytes_eq name (f x)) (sym e) ∙ same)
  among (r ∷ rows) (suc j) row name l e same = or_right (bytes_eq name (f r)) (includes_list (map f rows) name) (among rows j row name (omega arith) e same)

  -- if the name of row `j` is among those before it, the names don't all differ
  pub comes_again : (rows : List X) (j : ℕ) (row : X) → j < length rows → row ≡ get_or rows j row → came (take j rows) (f row) ≡ true → all_different (map f rows) ≡ false
  comes_again [] j row l e again = absurd (omega arith)
  comes_again (r ∷ rows) zero row l e again = absurd (false≢true again)
  comes_again (r ∷ rows) (suc j) row l e again = by (bytes_eq (f row) (f r)) refl (comes_again rows j row (omega arith) e)
    where
      by : (same : Bool) → bytes_eq (f row) (f r) ≡ same → (came (take j rows) (f row) ≡ true → all_different (map f rows) ≡ false) →
          (not (includes_list (map f rows) (f r)) && all_different (map f rows)) ≡ false
      by true is later =
          ap (λ b. not b && all_different (map f rows)) (among rows j row (f r) (omega arith) e (same_bytes_comm (f r) (f row) ∙ is))
      by false is later =
          let before : came (take j rows) (f row) ≡ true = ap (λ b. b || came (take j rows) (f row)) (sym is) ∙ again in
          ap (λ b. not (includes_list (map f rows) (f r)) && b) (later before) ∙ and-false (not (includes_list (map f rows) (f r)))

  pub all_read : (rows : List X) (j : ℕ) → length rows ≤ j → all_different (map f (take j rows)) ≡ true → true ≡ all_different (map f rows)
  all_read rows j l once = sym once ∙ ap (λ (all : List X). all_different (map f all)) (take_all j rows l)
