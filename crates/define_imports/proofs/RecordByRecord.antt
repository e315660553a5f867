-- Reading records one by one. `wanted` is the result for all records. `before` is the value that the first `i` records give, and `place`
-- is the number by which a fault names the next record.
use Rattle.std.proofs.Common.{◌≡◌, ◌∙◌, ap, sym, ℕ, suc, ◌+◌, ◌<◌, ◌≤◌, add-one, List, ◌∷◌, map, length, drop, get_or, drop-cons, Option, Some, None, Result, Ok, Err}
use Rattle.std.proofs.lemmas.List.{drop_all}
use Rattle.define_imports.specs.Cells.{Fault, fault_or, read_from}

module _ {V R : Type 0} (kind_of : V → List (List ℕ) → Option ℕ) (after : V → List (List ℕ) → V) (fields : R → List (List ℕ)) (rows : List R) (place i : ℕ) (before : V) (wanted : Result V Fault)
    (same : read_from kind_of after place before (map fields (drop i rows)) ≡ wanted) where
  module _ (row : R) (inside : i < length rows) (there : row ≡ get_or rows i row) where
    -- the rows from place `i` on begin with `row`
    parted : drop i rows ≡ row ∷ drop (i + 1) rows
    parted = drop-cons rows i row inside ∙ (ap (λ r. r ∷ drop (suc i) rows) (sym there) ∙ ap (λ k. row ∷ drop k rows) (sym (add-one i)))

    from_row : fault_or (kind_of before (fields row)) place (read_from kind_of after (place + 1) (after before (fields row)) (map fields (drop (i + 1) rows))) ≡ wanted
    from_row = sym (ap (λ rest. read_from kind_of after place before (map fields rest)) parted) ∙ same

    -- if the record has a fault, the result is this fault
    pub stops_at : (kind : ℕ) → kind_of before (fields row) ≡ Some kind → wanted ≡ Err (record { place = place; kind = kind })
    stops_at kind h = sym from_row ∙ ap (λ k. fault_or k place (read_from kind_of after (place + 1) (after before (fields row)) (map fields (drop (i + 1) rows)))) h

    -- if the record has no fault, reading the later ones has the result
    pub leads_on : (next : V) → kind_of before (fields row) ≡ None → next ≡ after before (fields row) → read_from kind_of after (place + 1) next (map fields (drop (i + 1) rows)) ≡ wanted
    leads_on next h e =
        ap (λ v. read_from kind_of after (place + 1) v (map fields (drop (i + 1) rows))) e
        ∙ (sym (ap (λ k. fault_or k place (read_from kind_of after (place + 1) (after before (fields row)) (map fields (drop (i + 1) rows)))) h) ∙ from_row)

  -- if no record is left, the result is `before`, the value that all records give
  pub ends_with : length rows ≤ i → wanted ≡ Ok before
  ends_with h = sym same ∙ ap (λ rest. read_from kind_of after place before (map fields rest)) (drop_all i rows h)
