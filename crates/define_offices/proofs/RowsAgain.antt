-- If rows were registered, a later import counts them as repeated. If a volunteer withdrew, a later register has the withdrawal.
use Rattle.std.proofs.Common.{◌≡◌, ℕ, zero, suc, ◌+◌, ◌≤◌, Bool, true, false, cond, leb, not, ◌&&◌, List, [], ◌∷◌, ◌++◌, length, Option, Some, None, Result, Ok, Err, refl, sym, ap, ◌∙◌, arith, subst, add-one, add-zero}
use Rattle.std.specs.List.{AllByRecursion, list_all}
use Rattle.std.specs.Str.{bytes_eq}
use Rattle.std.proofs.lemmas.Bool.{and_from, and_parts, false≢true}
use Rattle.std.proofs.lemmas.List.{append_assoc}
use Rattle.std.proofs.lemmas.List.Folds.{find-append}
use Rattle.std.proofs.lemmas.Slice.Eq.{bytes_eq-Decides}
use Rattle.define_pools.proofs.Each.{each_from_list_all, each_map, list_all_from_each}
use Rattle.define_pools.proofs.Found.{find-each}
use Rattle.define_pools.specs.Pool.{Category}
use Rattle.define_draws.specs.Seal.{seal_of}
use Rattle.define_offices.specs.Tables.{Entry, Round, Tables, is_enrolling, last_phase, most_rows, same_household, same_names}
use Rattle.define_offices.specs.Commands.{Added, Change, Given, Lines, Refusal, Refuses, RegisterFull, Replies, Reply, TooLate, Withdrawn, WrongPhase}
use Rattle.define_offices.specs.Deciding.{IsNew, IsRefused, IsRepeated, RowCase, Sorted, addition, decide_register, entry_of, fits_rules, is_kept_so, is_last_open, is_seated_in, new_row, one_more_repeated, place_of_hash, register_after, register_by, registered, row_case, sorted_by, sorted_rows, with_hash, with_id, withdraw_at, withdraw_id_at, withdraw_row, place_of_id}
use Rattle.define_offices.specs.Facts.{IsTables, rows_fit}
use Rattle.define_offices.specs.Lines.{one_line, register_line, withdrawn_line}
use Rattle.define_offices.specs.Pools.{pool_of}
use Rattle.define_offices.specs.Steps.{apply, withdrawn_at}
use Rattle.define_offices.proofs.Later.{IsSameRow, RowsStay}
use Rattle.define_offices.proofs.Register.{IsSortedAs, row_case_new, sorted_first}

-- ---- tests of equality

same_bytes : (xs : List ℕ) → bytes_eq xs xs ≡ true
same_bytes xs = (bytes_eq-Decides xs xs).1 refl

same_names_itself : (names : List (List ℕ)) → same_names names names ≡ true
same_names_itself [] = refl
same_names_itself (name ∷ names) = and_from (bytes_eq name name) (same_names names names) (same_bytes name) (same_names_itself names)

same_names_are : (one other : List (List ℕ)) → same_names one other ≡ true → one ≡ other
same_names_are [] [] h = refl
same_names_are [] (name ∷ other) h = absurd (false≢true h)
same_names_are (name ∷ one) [] h = absurd (false≢true h)
same_names_are (name ∷ one) (name' ∷ other) h =
    let parts = and_parts (bytes_eq name name') (same_names one other) h in
    let first = (bytes_eq-Decides name name').0 parts.0 in
    let rest = same_names_are one other parts.1 in
    cc

same_household_itself : (household : Option (List ℕ)) → same_household household household ≡ true
same_household_itself None = refl
same_household_itself (Some name) = same_bytes name

-- ---- a row that is kept

pub record KeptRow (register : List Entry) (given : Given) : Type 0 where
  pub entry : Entry
  pub there : with_id register given.id ≡ Some entry
  pub so : is_kept_so entry given ≡ true

kept_append : (register more : List Entry) (given : Given) → KeptRow register given → KeptRow (register ++ more) given
kept_append register more given kept = record {
  entry = kept.entry;
  there = find-append (λ (e : Entry). bytes_eq given.id e.id) register more ∙ (rw kept.there refl);
  so = kept.so;
}

kept_itself : (given : Given) → is_kept_so (entry_of given) given ≡ true
kept_itself given =
    and_from (bytes_eq (seal_of given.key) (seal_of given.key) && same_names given.values given.values) (same_household given.household given.household)
    (and_from (bytes_eq (seal_of given.key) (seal_of given.key)) (same_names given.values given.values) (same_bytes (seal_of given.key)) (same_names_itself given.values))
    (same_household_itself given.household)

kept_new : (register : List Entry) (given : Given) → with_id register given.id ≡ None → KeptRow (register ++ entry_of given ∷ []) given
kept_new register given none = record {
  entry = entry_of given;
  there = find-append (λ (e : Entry). bytes_eq given.id e.id) register (entry_of given ∷ []) ∙ (rw (none, same_bytes given.id) refl);
  so = kept_itself given;
}

is_repeated_by : (kept : Bool) (refusal : Refusal) → cond kept IsRepeated (IsRefused refusal) ≡ IsRepeated → kept ≡ true
is_repeated_by true refusal h = refl
is_repeated_by false refusal h = absurd (cc)

new_is_not_repeated_by : (late full : Bool) (one two : Refusal) → cond late (IsRefused one) (cond full (IsRefused two) IsNew) ≡ IsRepeated → ⊥
new_is_not_repeated_by true full one two h = cc
new_is_not_repeated_by false true one two h = cc
new_is_not_repeated_by false false one two h = cc

new_is_not_repeated : (most : ℕ) (rounds : List Round) (register : List Entry) (other : Option Entry) → new_row most rounds register other ≡ IsRepeated → ⊥
new_is_not_repeated most rounds register (Some other) h = cc
new_is_not_repeated most rounds register None h = new_is_not_repeated_by (not (is_enrolling rounds)) (leb most (length register)) (WrongPhase (last_phase rounds)) (RegisterFull most) h

kept_repeated : (most : ℕ) (rounds : List Round) (register : List Entry) (given : Given) (found : Option Entry) → with_id register given.id ≡ found → row_case most rounds register given found ≡ IsRepeated → KeptRow register given
kept_repeated most rounds register given (Some entry) at h = record { entry = entry; there = at; so = is_repeated_by (is_kept_so entry given) _ h }
kept_repeated most rounds register given None at h = absurd (new_is_not_repeated most rounds register (with_hash register (seal_of given.key)) h)

-- if an import takes rows, the register after it has each of them
pub all_kept : (most : ℕ) (rounds : List Round) (register : List Entry) (rows : List Given) (sorted : Sorted) → sorted_rows most rounds register rows ≡ Ok sorted → AllByRecursion (KeptRow (register ++ sorted.added)) rows
all_kept most rounds register [] sorted h = tt
all_kept most rounds register (given ∷ rows) sorted h =
    by (row_case most rounds register given (with_id register given.id)) refl (sorted_first most rounds register given rows sorted h) (λ register' later there. all_kept most rounds register' rows later there)
  where
    by : (this : RowCase) → row_case most rounds register given (with_id register given.id) ≡ this → IsSortedAs most rounds register given rows sorted this →
        ((register' : List Entry) (later : Sorted) → sorted_rows most rounds register' rows ≡ Ok later → AllByRecursion (KeptRow (register' ++ later.added)) rows) →
        AllByRecursion (KeptRow (register ++ sorted.added)) (given ∷ rows)
    by IsNew e s again =
        let new = row_case_new most rounds register given (with_id register given.id) refl e in
        let added : entry_of given ∷ s.later.added ≡ sorted.added = let is = s.is in cc in
        let same : (register ++ entry_of given ∷ []) ++ s.later.added ≡ register ++ sorted.added = append_assoc register (entry_of given ∷ []) s.later.added ∙ ap (λ added. register ++ added) added in
        subst (λ them. AllByRecursion (KeptRow them) (given ∷ rows)) same
        (kept_append (register ++ entry_of given ∷ []) s.later.added given (kept_new register given new.id), again (register ++ entry_of given ∷ []) s.later s.there)
    by IsRepeated e s again =
        let added : s.later.added ≡ sorted.added = let is = s.is in cc in
        subst (λ added. AllByRecursion (KeptRow (register ++ added)) (given ∷ rows)) added
        (kept_append register s.later.added given (kept_repeated most rounds register given (with_id register given.id) refl e), again register s.later s.there)
    by (IsRefused refusal) e s again = absurd (let is = s.is in cc)

-- ---- kept rows in later tables

pub record FoundLater (register : List Entry) (id : List ℕ) (entry : Entry) : Type 0 where
  pub later : Entry
  pub there : with_id register id ≡ Some later
  pub same : IsSameRow entry later

found_later : (old new : List Entry) (id : List ℕ) (entry : Entry) → RowsStay old new → with_id old id ≡ Some entry → FoundLater new id entry
found_later [] new id entry stay h = absurd (cc)
found_later (e ∷ old) [] id entry stay h = absurd stay
found_later (e ∷ old) (f ∷ new) id entry stay h = by (bytes_eq id e.id) refl h (λ k. found_later old new id entry stay.1 k)
  where
    by : (b : Bool) → bytes_eq id e.id ≡ b → cond b (Some e) (with_id old id) ≡ Some entry → (with_id old id ≡ Some entry → FoundLater new id entry) → FoundLater (f ∷ new) id entry
    by true eq k again =
        let same : e ≡ entry = cc in
        let test : bytes_eq id f.id ≡ true = subst (λ i. bytes_eq id i ≡ true) stay.0.id eq in
        record { later = f; there = rw test refl; same = subst (λ x. IsSameRow x f) same stay.0 }
    by false eq k again =
        let rest = again k in
        let test : bytes_eq id f.id ≡ false = subst (λ i. bytes_eq id i ≡ false) stay.0.id eq in
        record { later = rest.later; there = rw test rest.there; same = rest.same }

kept_later : (old new : List Entry) (given : Given) → RowsStay old new → KeptRow old given → KeptRow new given
kept_later old new given stay kept =
    let found = found_later old new given.id kept.entry stay kept.there in
    let same = found.same in
    let so : is_kept_so found.later given ≡ true = rw (← same.hash, ← same.values, ← same.household) kept.so in
    record { entry = found.later; there = found.there; so = so }

-- if the register has all rows of an import, all are counted as repeated
all_repeated : (most : ℕ) (rounds : List Round) (register : List Entry) (rows : List Given) → AllByRecursion (KeptRow register) rows → sorted_rows most rounds register rows ≡ Ok (record { added = []; repeated = length rows })
all_repeated most rounds register [] kept = refl
all_repeated most rounds register (given ∷ rows) kept =
    let this : row_case most rounds register given (with_id register given.id) ≡ IsRepeated = rw (kept.0.there, kept.0.so) refl in
    let rest = all_repeated most rounds register rows kept.1 in
    let turned : sorted_rows most rounds register (given ∷ rows) ≡ one_more_repeated (sorted_rows most rounds register rows) =
    ap (λ t. sorted_by t given (sorted_rows most rounds (register_after t register given) rows)) this in
    turned ∙ (ap one_more_repeated rest ∙ ap (λ n. Ok (record { added = []; repeated = n })) (add-one (length rows)))

kept_fits : (categories : List Category) (register : List Entry) (given : Given) → list_all (λ (e : Entry). fits_rules categories e.values) register ≡ true → KeptRow register given → fits_rules categories given.values ≡ true
kept_fits categories register given fit kept =
    let each = find-each (λ (e : Entry). bytes_eq given.id e.id) (λ (e : Entry). fits_rules categories e.values ≡ true) register kept.entry (each_from_list_all (λ (e : Entry). fits_rules categories e.values) register fit) kept.there in
    let parts = and_parts (bytes_eq (seal_of given.key) kept.entry.hash && same_names given.values kept.entry.values) (same_household given.household kept.entry.household) kept.so in
    let values = same_names_are given.values kept.entry.values (and_parts (bytes_eq (seal_of given.key) kept.entry.hash) (same_names given.values kept.entry.values) parts.0).1 in
    subst (λ v. fits_rules categories v ≡ true) (sym values) each

-- ---- an import that is given again

-- if rows were added, there are rules
rules_with_rows : (rules : Option (List Category)) (register : List Entry) (old added : List Entry) (change : Change) → addition added ≡ Some change → RowsStay (old ++ added) register → rows_fit rules register ≡ true →
    (categories : List Category) × (rules ≡ Some categories)
rules_with_rows (Some categories) register old added change some stay fit = (categories, refl)
rules_with_rows None (e ∷ register) old added change some stay fit = absurd (false≢true fit)
rules_with_rows None [] old [] change some stay fit = absurd (cc)
rules_with_rows None [] [] (entry ∷ added) change some stay fit = absurd stay
rules_with_rows None [] (e ∷ old) (entry ∷ added) change some stay fit = absurd stay

pub is_added : (added : List Entry) (change : Change) → addition added ≡ Some change → Added added ≡ change
is_added [] change h = absurd (cc)
is_added (entry ∷ added) change h = cc

module _ (before later : Tables) (keeps : IsTables later) where
  kept_again : (rows : List Given) → (categories : List Category) → later.rules ≡ Some categories → AllByRecursion (KeptRow later.register) rows →
      decide_register later rows ≡ Replies None (one_line (register_line 0 (length rows) (length later.register)))
  kept_again rows categories has kept =
      let fit : list_all (λ (e : Entry). fits_rules categories e.values) later.register ≡ true = rw has at keeps.fit in
      let fits = list_all_from_each (λ (g : Given). fits_rules categories g.values) rows
      (each_map (KeptRow later.register) (λ (g : Given). fits_rules categories g.values ≡ true) (λ g k. kept_fits categories later.register g fit k) rows kept) in
      let sorted = all_repeated (most_rows later.charter) later.rounds later.register rows kept in
      rw (has, fits, sorted, add-zero) refl

  registered_again : (rows : List Given) (change : Change) (reply : Reply) (result : Result Sorted Refusal) → sorted_rows (most_rows before.charter) before.rounds before.register rows ≡ result → registered before result ≡ Replies (Some change) reply →
      RowsStay (apply before change).register later.register → decide_register later rows ≡ Replies None (one_line (register_line 0 (length rows) (length later.register)))
  registered_again rows change reply (Err refusal) e h stay = absurd (cc)
  registered_again rows change reply (Ok sorted) e h stay =
      let some : addition sorted.added ≡ Some change = cc in
      let same = is_added sorted.added change some in
      let stay' : RowsStay (before.register ++ sorted.added) later.register = subst (λ c. RowsStay (apply before c).register later.register) (sym same) stay in
      let rules = rules_with_rows later.rules later.register before.register sorted.added change some stay' keeps.fit in
      let kept = all_kept (most_rows before.charter) before.rounds before.register rows sorted e in
      kept_again rows rules.0 rules.1 (each_map (KeptRow (before.register ++ sorted.added)) (KeptRow later.register) (λ g k. kept_later (before.register ++ sorted.added) later.register g stay' k) rows kept)

  checked_again : (rows : List Given) (change : Change) (reply : Reply) (fits : Bool) (refusal : Refusal) → cond fits (registered before (sorted_rows (most_rows before.charter) before.rounds before.register rows)) (Refuses refusal) ≡ Replies (Some change) reply →
      RowsStay (apply before change).register later.register → decide_register later rows ≡ Replies None (one_line (register_line 0 (length rows) (length later.register)))
  checked_again rows change reply true refusal h stay = registered_again rows change reply (sorted_rows (most_rows before.charter) before.rounds before.register rows) refl h stay
  checked_again rows change reply false refusal h stay = absurd (cc)

  pub register_again : (rows : List Given) (change : Change) (reply : Reply) (rules : Option (List Category)) → register_by before rows rules ≡ Replies (Some change) reply →
      RowsStay (apply before change).register later.register → decide_register later rows ≡ Replies None (one_line (register_line 0 (length rows) (length later.register)))
  register_again rows change reply None h stay = absurd (cc)
  register_again rows change reply (Some categories) h stay = checked_again rows change reply (list_all (λ (g : Given). fits_rules categories g.values) rows) _ h stay

-- ---- a withdrawal that is given again

-- the first row for which `part` returns `key`, with its place. `i` is the place of the first row of `register`
abbrev pub place_by : (Entry → List ℕ) → List Entry → List ℕ → ℕ → Option (ℕ × Entry)
place_by part [] key i = None
place_by part (entry ∷ register) key i = cond (bytes_eq key (part entry)) (Some (i, entry)) (place_by part register key (i + 1))

pub place_by_hash : (register : List Entry) (hash : List ℕ) (i : ℕ) → place_of_hash register hash i ≡ place_by (λ (e : Entry). e.hash) register hash i
place_by_hash [] hash i = refl
place_by_hash (entry ∷ register) hash i = rw (place_by_hash register hash (i + 1)) refl

pub place_by_id : (register : List Entry) (id : List ℕ) (i : ℕ) → place_of_id register id i ≡ place_by (λ (e : Entry). e.id) register id i
place_by_id [] id i = refl
place_by_id (entry ∷ register) id i = rw (place_by_id register id (i + 1)) refl

record HasWithdrawn (part : Entry → List ℕ) (register : List Entry) (key : List ℕ) (i place : ℕ) : Type 0 where
  entry : Entry
  there : place_by part register key i ≡ Some (place, entry)
  withdrawn : entry.withdrawn ≡ true

module _ (part : Entry → List ℕ) where
  pub place_from : (register : List Entry) (key : List ℕ) (i : ℕ) (found : ℕ × Entry) → place_by part register key i ≡ Some found → i ≤ found.0
  place_from [] key i found h = absurd (cc)
  place_from (entry ∷ register) key i found h = by (bytes_eq key (part entry)) h (λ k. place_from register key (i + 1) found k)
    where
      by : (b : Bool) → cond b (Some (i, entry)) (place_by part register key (i + 1)) ≡ Some found → (place_by part register key (i + 1) ≡ Some found → i + 1 ≤ found.0) → i ≤ found.0
      by true k again = let same : (i, entry) ≡ found = cc in subst (λ (f : ℕ × Entry). i ≤ f.0) same (omega arith)
      by false k again = let l = again k in omega arith

  module _ (stays : (one other : Entry) → IsSameRow one other → part one ≡ part other) where
    withdrawn_later : (old new : List Entry) (key : List ℕ) (i q place : ℕ) (entry : Entry) → place_by part old key i ≡ Some (place, entry) → place ≡ i + q → RowsStay (withdrawn_at old q) new → HasWithdrawn part new key i place
    withdrawn_later [] new key i q place entry h at stay = absurd (cc)
    withdrawn_later (e ∷ old) [] key i zero place entry h at stay = absurd stay
    withdrawn_later (e ∷ old) [] key i (suc q) place entry h at stay = absurd stay
    withdrawn_later (e ∷ old) (f ∷ new) key i zero place entry h at stay = by (bytes_eq key (part e)) refl h
      where
        by : (b : Bool) → bytes_eq key (part e) ≡ b → cond b (Some (i, e)) (place_by part old key (i + 1)) ≡ Some (place, entry) → HasWithdrawn part (f ∷ new) key i place
        by true eq k =
            let same : part e ≡ part f = stays e f (record { id = stay.0.id; hash = stay.0.hash; values = stay.0.values; household = stay.0.household; withdrawn = λ h. stay.0.withdrawn refl }) in
            let test : bytes_eq key (part f) ≡ true = subst (λ x. bytes_eq key x ≡ true) same eq in
            let here : i ≡ place = omega arith in
            record { entry = f; there = rw test (ap (λ p. Some (p, f)) here); withdrawn = stay.0.withdrawn refl }
        by false eq k = absurd (let l = place_from old key (i + 1) (place, entry) k in omega arith)
    withdrawn_later (e ∷ old) (f ∷ new) key i (suc q) place entry h at stay = by (bytes_eq key (part e)) refl h (λ k l. withdrawn_later old new key (i + 1) q place entry k l stay.1)
      where
        by : (b : Bool) → bytes_eq key (part e) ≡ b → cond b (Some (i, e)) (place_by part old key (i + 1)) ≡ Some (place, entry) →
            (place_by part old key (i + 1) ≡ Some (place, entry) → place ≡ i + 1 + q → HasWithdrawn part new key (i + 1) place) → HasWithdrawn part (f ∷ new) key i place
        by true eq k again = absurd
            (let pair : (i, e) ≡ (place, entry) = cc in
            let same : i ≡ place = ap (λ (p : ℕ × Entry). p.0) pair in
            omega arith)
        by false eq k again =
            let test : bytes_eq key (part f) ≡ false = subst (λ x. bytes_eq key x ≡ false) (stays e f stay.0) eq in
            let rest = again k (omega arith) in
            record { entry = rest.entry; there = rw test rest.there; withdrawn = rest.withdrawn }

pub withdrawal : (place : ℕ) (change : Change) (told reply : Reply) (already open_now : Bool) → cond already (Replies None told) (cond open_now (Replies (Some (Withdrawn place)) told) (Refuses TooLate)) ≡ Replies (Some change) reply →
    (Withdrawn place ≡ change) × (told ≡ reply)
withdrawal place change told reply true open_now h = absurd (cc)
withdrawal place change told reply false true h = (cc, cc)
withdrawal place change told reply false false h = absurd (cc)

-- a row that withdrew has withdrawn later, too
row_again : (part : Entry → List ℕ) → ((one other : Entry) → IsSameRow one other → part one ≡ part other) → (before later : Tables) (key : List ℕ) (change : Change) (told reply : Reply) (place : ℕ) (entry : Entry) →
    place_by part before.register key 0 ≡ Some (place, entry) → withdraw_row before told place entry ≡ Replies (Some change) reply → RowsStay (apply before change).register later.register →
    HasWithdrawn part later.register key 0 place × (told ≡ reply)
row_again part stays before later key change told reply place entry at h stay =
    let is = withdrawal place change told reply entry.withdrawn (is_last_open before.rounds && not (is_seated_in (pool_of before (length before.rounds)) place)) h in
    let stay' : RowsStay (withdrawn_at before.register place) later.register = subst (λ c. RowsStay (apply before c).register later.register) (sym is.0) stay in
    (withdrawn_later part stays before.register later.register key 0 place place entry at (omega arith) stay', is.1)

pub withdraw_again : (before later : Tables) (hash : List ℕ) (change : Change) (reply : Reply) (found : Option (ℕ × Entry)) → place_of_hash before.register hash 0 ≡ found → withdraw_at before found ≡ Replies (Some change) reply →
    RowsStay (apply before change).register later.register → withdraw_at later (place_of_hash later.register hash 0) ≡ Replies None reply
withdraw_again before later hash change reply None at h stay = absurd (cc)
withdraw_again before later hash change reply (Some (place, entry)) at h stay =
    let again = row_again (λ (e : Entry). e.hash) (λ one other same. same.hash) before later hash change (Lines []) reply place entry (sym (place_by_hash before.register hash 0) ∙ at) h stay in
    let there : place_of_hash later.register hash 0 ≡ Some (place, again.0.entry) = place_by_hash later.register hash 0 ∙ again.0.there in
    rw (there, again.0.withdrawn) (ap (λ r. Replies None r) again.1)

pub withdraw_id_again : (before later : Tables) (id : List ℕ) (change : Change) (reply : Reply) (found : Option (ℕ × Entry)) → place_of_id before.register id 0 ≡ found → withdraw_id_at before id found ≡ Replies (Some change) reply →
    RowsStay (apply before change).register later.register → withdraw_id_at later id (place_of_id later.register id 0) ≡ Replies None reply
withdraw_id_again before later id change reply None at h stay = absurd (cc)
withdraw_id_again before later id change reply (Some (place, entry)) at h stay =
    let again = row_again (λ (e : Entry). e.id) (λ one other same. same.id) before later id change (one_line (withdrawn_line id)) reply place entry (sym (place_by_id before.register id 0) ∙ at) h stay in
    let there : place_of_id later.register id 0 ≡ Some (place, again.0.entry) = place_by_id later.register id 0 ∙ again.0.there in
    rw (there, again.0.withdrawn) (ap (λ r. Replies None r) again.1)
