-- The facts of `IsTables` about the register still hold after an import adds rows. Once enrolling is over, an import adds no row.
use Rattle.std.proofs.Common.{◌≡◌, ℕ, ◌<◌, Bool, true, false, cond, leb, not, ◌&&◌, ◌||◌, List, [], ◌∷◌, ◌++◌, length, Option, Some, None, Result, Ok, Err, refl, sym, ap, ◌∙◌, arith, subst}
use Rattle.std.specs.List.{list_all}
use Rattle.std.specs.Str.{bytes_eq}
use Rattle.std.proofs.lemmas.Bool.{and_from, and_parts, false≢true, le-leb, leb-false}
use Rattle.std.proofs.lemmas.List.{append_assoc, append-nil, length_push, map_push}
use Rattle.define_pools.proofs.Each.{list_all-push}
use Rattle.define_pools.specs.Lists.{all_different, includes_list}
use Rattle.define_pools.specs.Pool.{Category, is_household, is_name}
use Rattle.define_pools.proofs.BuildingLemmas.{all_different_push}
use Rattle.define_draws.specs.Seal.{seal_of}
use Rattle.define_offices.specs.Tables.{Entry, Round, is_enrolling}
use Rattle.define_offices.specs.Commands.{Given, Refusal}
use Rattle.define_offices.specs.Deciding.{IsNew, IsRepeated, IsRefused, RowCase, Sorted, entry_of, fits_rules, is_kept_so, new_row, register_after, row_case, sorted_by, sorted_rows, with_hash, with_id}
use Rattle.define_offices.specs.Facts.{entry_hashes, entry_ids, is_entry, is_given, is_key}

-- ---- a new row

pub record IsNewRow (most : ℕ) (rounds : List Round) (register : List Entry) (given : Given) : Type 0 where
  pub enrolling : is_enrolling rounds ≡ true
  pub id : with_id register given.id ≡ None
  pub key : with_hash register (seal_of given.key) ≡ None
  pub room : length register < most

new_by : (most : ℕ) (rounds : List Round) (register : List Entry) (enrolling full : Bool) (late no_room : Refusal) → is_enrolling rounds ≡ enrolling → leb most (length register) ≡ full →
    cond (not enrolling) (IsRefused late) (cond full (IsRefused no_room) IsNew) ≡ IsNew → (is_enrolling rounds ≡ true) × (length register < most)
new_by most rounds register true true late no_room e f h = absurd (cc)
new_by most rounds register true false late no_room e f h = (e, leb-false most (length register) f)
new_by most rounds register false full late no_room e f h = absurd (cc)

new_row_is : (most : ℕ) (rounds : List Round) (register : List Entry) (given : Given) → with_id register given.id ≡ None → (other : Option Entry) → with_hash register (seal_of given.key) ≡ other →
    new_row most rounds register other ≡ IsNew → IsNewRow most rounds register given
new_row_is most rounds register given id (Some other) key h = absurd (cc)
new_row_is most rounds register given id None key h =
    let parts = new_by most rounds register (is_enrolling rounds) (leb most (length register)) _ _ refl refl h in
    record { enrolling = parts.0; id = id; key = key; room = parts.1 }

kept_is_not_new : (kept : Bool) (refusal : Refusal) → cond kept IsRepeated (IsRefused refusal) ≡ IsNew → ⊥
kept_is_not_new true refusal h = cc
kept_is_not_new false refusal h = cc

pub row_case_new : (most : ℕ) (rounds : List Round) (register : List Entry) (given : Given) (found : Option Entry) → with_id register given.id ≡ found →
    row_case most rounds register given found ≡ IsNew → IsNewRow most rounds register given
row_case_new most rounds register given (Some entry) id h = absurd (kept_is_not_new (is_kept_so entry given) _ h)
row_case_new most rounds register given None id h = new_row_is most rounds register given id (with_hash register (seal_of given.key)) refl h

unknown_by : (same : Bool) (entry : Entry) (rest : Option Entry) (others : Bool) → (rest ≡ None → others ≡ false) → cond same (Some entry) rest ≡ None → (same || others) ≡ false
unknown_by true entry rest others later h = absurd (cc)
unknown_by false entry rest others later h = later h

unknown_id : (register : List Entry) (id : List ℕ) → with_id register id ≡ None → includes_list (entry_ids register) id ≡ false
unknown_id [] id h = refl
unknown_id (entry ∷ register) id h = unknown_by (bytes_eq id entry.id) entry (with_id register id) (includes_list (entry_ids register) id) (unknown_id register id) h

unknown_hash : (register : List Entry) (hash : List ℕ) → with_hash register hash ≡ None → includes_list (entry_hashes register) hash ≡ false
unknown_hash [] hash h = refl
unknown_hash (entry ∷ register) hash h = unknown_by (bytes_eq hash entry.hash) entry (with_hash register hash) (includes_list (entry_hashes register) hash) (unknown_hash register hash) h

-- ---- the facts of the register's rows

pub record RowsKeep (most : ℕ) (categories : List Category) (register : List Entry) : Type 0 where
  pub few : leb (length register) most ≡ true
  pub rows : list_all is_entry register ≡ true
  pub fit : list_all (λ (entry : Entry). fits_rules categories entry.values) register ≡ true
  pub different_ids : all_different (entry_ids register) ≡ true
  pub different_keys : all_different (entry_hashes register) ≡ true

RowsKeep-push : (most : ℕ) (rounds : List Round) (categories : List Category) (register : List Entry) (given : Given) → RowsKeep most categories register → is_given given ≡ true → fits_rules categories given.values ≡ true →
    IsNewRow most rounds register given → RowsKeep most categories (register ++ entry_of given ∷ [])
RowsKeep-push most rounds categories register given keeps is fits new =
    let entry = entry_of given in
    let parts = and_parts (is_name given.id && is_key given.key) (is_household given.household) is in
    record {
      few = le-leb (length (register ++ entry ∷ [])) most (omega (arith, length_push register entry, new.room));
      rows = list_all-push is_entry register entry keeps.rows (and_from (is_name given.id) (is_household given.household) (and_parts (is_name given.id) (is_key given.key) parts.0).0 parts.1);
      fit = list_all-push (λ (e : Entry). fits_rules categories e.values) register entry keeps.fit fits;
      different_ids = rw (map_push (λ (e : Entry). e.id) register entry) (all_different_push (entry_ids register) given.id keeps.different_ids (unknown_id register given.id new.id));
      different_keys = rw (map_push (λ (e : Entry). e.hash) register entry) (all_different_push (entry_hashes register) (seal_of given.key) keeps.different_keys (unknown_hash register (seal_of given.key) new.key));
    }

-- ---- rows one by one

-- `sorted` is the result for a row, taken as `this`, and for the `rows` after it, whose own result is `later`
pub record IsSortedAs (most : ℕ) (rounds : List Round) (register : List Entry) (given : Given) (rows : List Given) (sorted : Sorted) (this : RowCase) : Type 0 where
  pub later : Sorted
  pub there : sorted_rows most rounds (register_after this register given) rows ≡ Ok later
  pub is : sorted_by this given (Ok later) ≡ Ok sorted

sorted_later : (this : RowCase) (given : Given) (result : Result Sorted Refusal) (sorted : Sorted) → sorted_by this given result ≡ Ok sorted → (later : Sorted) × (result ≡ Ok later)
sorted_later IsNew given (Ok later) sorted h = (later, refl)
sorted_later IsNew given (Err refusal) sorted h = absurd (cc)
sorted_later IsRepeated given (Ok later) sorted h = (later, refl)
sorted_later IsRepeated given (Err refusal) sorted h = absurd (cc)
sorted_later (IsRefused other) given result sorted h = absurd (cc)

pub sorted_first : (most : ℕ) (rounds : List Round) (register : List Entry) (given : Given) (rows : List Given) (sorted : Sorted) → sorted_rows most rounds register (given ∷ rows) ≡ Ok sorted →
    IsSortedAs most rounds register given rows sorted (row_case most rounds register given (with_id register given.id))
sorted_first most rounds register given rows sorted h =
    let this = row_case most rounds register given (with_id register given.id) in
    let result = sorted_rows most rounds (register_after this register given) rows in
    let found = sorted_later this given result sorted h in
    record { later = found.0; there = found.1; is = subst (λ r. sorted_by this given r ≡ Ok sorted) found.1 h }

module _ (most : ℕ) (rounds : List Round) (categories : List Category) where
  pub sorted_keep : (register : List Entry) (rows : List Given) (sorted : Sorted) → list_all is_given rows ≡ true → list_all (λ (given : Given). fits_rules categories given.values) rows ≡ true →
      RowsKeep most categories register → sorted_rows most rounds register rows ≡ Ok sorted → RowsKeep most categories (register ++ sorted.added)
  sorted_keep register [] sorted is fits keeps h =
      let none : [] ≡ sorted.added = cc in
      subst (λ added. RowsKeep most categories (register ++ added)) none (rw append-nil keeps)
  sorted_keep register (given ∷ rows) sorted is fits keeps h =
      let i = and_parts (is_given given) (list_all is_given rows) is in
      let f = and_parts (fits_rules categories given.values) (list_all (λ (g : Given). fits_rules categories g.values) rows) fits in
      by (row_case most rounds register given (with_id register given.id)) refl (sorted_first most rounds register given rows sorted h) i.0 f.0
      (λ register' later keeps' there. sorted_keep register' rows later i.1 f.1 keeps' there)
    where
      by : (this : RowCase) → row_case most rounds register given (with_id register given.id) ≡ this → IsSortedAs most rounds register given rows sorted this →
          is_given given ≡ true → fits_rules categories given.values ≡ true →
          ((register' : List Entry) (later : Sorted) → RowsKeep most categories register' → sorted_rows most rounds register' rows ≡ Ok later → RowsKeep most categories (register' ++ later.added)) →
          RowsKeep most categories (register ++ sorted.added)
      by IsNew e s i f again =
          let new = row_case_new most rounds register given (with_id register given.id) refl e in
          let kept = again (register ++ entry_of given ∷ []) s.later (RowsKeep-push most rounds categories register given keeps i f new) s.there in
          let added : entry_of given ∷ s.later.added ≡ sorted.added = let is = s.is in cc in
          let same : (register ++ entry_of given ∷ []) ++ s.later.added ≡ register ++ sorted.added = append_assoc register (entry_of given ∷ []) s.later.added ∙ ap (λ added. register ++ added) added in
          subst (RowsKeep most categories) same kept
      by IsRepeated e s i f again =
          let added : s.later.added ≡ sorted.added = let is = s.is in cc in
          subst (λ added. RowsKeep most categories (register ++ added)) added (again register s.later keeps s.there)
      by (IsRefused refusal) e s i f again = absurd (let is = s.is in cc)

-- once enrolling is over, an import adds no row
pub late_adds_nothing : (most : ℕ) (rounds : List Round) → is_enrolling rounds ≡ false → (register : List Entry) (rows : List Given) (sorted : Sorted) → sorted_rows most rounds register rows ≡ Ok sorted → sorted.added ≡ []
late_adds_nothing most rounds over register [] sorted h = cc
late_adds_nothing most rounds over register (given ∷ rows) sorted h =
    by (row_case most rounds register given (with_id register given.id)) refl (sorted_first most rounds register given rows sorted h) (λ register' later there. late_adds_nothing most rounds over register' rows later there)
  where
    by : (this : RowCase) → row_case most rounds register given (with_id register given.id) ≡ this → IsSortedAs most rounds register given rows sorted this →
        ((register' : List Entry) (later : Sorted) → sorted_rows most rounds register' rows ≡ Ok later → later.added ≡ []) → sorted.added ≡ []
    by IsNew e s again =
        let new = row_case_new most rounds register given (with_id register given.id) refl e in
        absurd (false≢true (sym over ∙ new.enrolling))
    by IsRepeated e s again =
        let added : s.later.added ≡ sorted.added = let is = s.is in cc in
        sym added ∙ again register s.later s.there
    by (IsRefused refusal) e s again = absurd (let is = s.is in cc)
