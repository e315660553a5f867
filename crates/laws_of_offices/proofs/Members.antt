-- Members of lists: of a list that is filtered, of a list of ids with one id taken out, and of the ids of a register.
use Rattle.std.proofs.Common.{◌≡◌, ℕ, zero, suc, Bool, true, false, cond, eqb, not, ◌||◌, List, [], ◌∷◌, filter, get_or, Some, ◌⊎◌, inl, inr, refl, sym, ap, ◌∙◌}
use Rattle.std.specs.List.{list_all}
use Rattle.std.specs.Str.{bytes_eq}
use Rattle.std.proofs.lemmas.Bool.{and_parts, eqb-true, false≢true, not-true, or_left, or_right}
use Rattle.std.proofs.lemmas.Slice.Eq.{bytes_eq-Decides}
use Rattle.define_pools.specs.Lists.{all_different, includes, includes_list}
use Rattle.define_offices.specs.Deciding.{is_withdrawn, with_id}
use Rattle.define_offices.specs.Facts.{entry_ids}
use Rattle.define_offices.specs.Pools.{has_withdrawn}
use Rattle.define_offices.specs.Steps.{without_id, withdrawn_at}
use Rattle.define_offices.specs.Tables.{Entry}

-- a member of a list passes a test that all members pass
pub member_passes : (p : ℕ → Bool) (xs : List ℕ) (i : ℕ) → list_all p xs ≡ true → includes xs i ≡ true → p i ≡ true
member_passes p [] i all in_list = absurd (false≢true in_list)
member_passes p (x ∷ xs) i all in_list =
    let parts = and_parts (p x) (list_all p xs) all in
    by parts.0 (eqb x i) refl in_list (member_passes p xs i parts.1)
  where
    by : p x ≡ true → (same : Bool) → eqb x i ≡ same → (same || includes xs i) ≡ true → (includes xs i ≡ true → p i ≡ true) → p i ≡ true
    by first true e h later = sym (ap p (eqb-true x i e)) ∙ first
    by first false e h later = later h

-- a member of a filtered list passes the test
pub filtered_passes : (p : ℕ → Bool) (xs : List ℕ) (i : ℕ) → includes (filter p xs) i ≡ true → p i ≡ true
filtered_passes p [] i h = absurd (false≢true h)
filtered_passes p (x ∷ xs) i h = by (p x) refl (eqb x i) refl h (filtered_passes p xs i)
  where
    by : (passes : Bool) → p x ≡ passes → (same : Bool) → eqb x i ≡ same → includes (cond passes (x ∷ filter p xs) (filter p xs)) i ≡ true →
        (includes (filter p xs) i ≡ true → p i ≡ true) → p i ≡ true
    by true e true s h later = sym (ap p (eqb-true x i s)) ∙ e
    by true e false s h later = later (rw s at h)
    by false e same s h later = later h

-- if a list is filtered twice, a member of the one result that passes the other test is a member of the other
pub filtered_too : (p q : ℕ → Bool) (xs : List ℕ) (i : ℕ) → includes (filter p xs) i ≡ true → q i ≡ true → includes (filter q xs) i ≡ true
filtered_too p q [] i h k = absurd (false≢true h)
filtered_too p q (x ∷ xs) i h k = by (eqb x i) refl (p x) (q x) refl h (λ l. filtered_too p q xs i l k)
  where
    by : (same : Bool) → eqb x i ≡ same → (first second : Bool) → q x ≡ second → includes (cond first (x ∷ filter p xs) (filter p xs)) i ≡ true →
        (includes (filter p xs) i ≡ true → includes (filter q xs) i ≡ true) → includes (cond second (x ∷ filter q xs) (filter q xs)) i ≡ true
    by true s first true e h later = or_left (eqb x i) (includes (filter q xs) i) s
    by true s first false e h later = absurd (false≢true (sym e ∙ (ap q (eqb-true x i s) ∙ k)))
    by false s true true e h later = or_right (eqb x i) (includes (filter q xs) i) (later (rw s at h))
    by false s false true e h later = or_right (eqb x i) (includes (filter q xs) i) (later h)
    by false s true false e h later = later (rw s at h)
    by false s false false e h later = later h

-- ---- ids

-- if an id is in a list, and is not there once `id` is taken out, it is `id`
pub taken_out : (id other : List ℕ) (ids : List (List ℕ)) → includes_list ids other ≡ true → includes_list (without_id id ids) other ≡ false → other ≡ id
taken_out id other [] h k = absurd (false≢true h)
taken_out id other (first ∷ ids) h k = by (bytes_eq id first) refl (bytes_eq other first) refl h k (taken_out id other ids)
  where
    by : (taken : Bool) → bytes_eq id first ≡ taken → (same : Bool) → bytes_eq other first ≡ same → (same || includes_list ids other) ≡ true →
        includes_list (cond (not taken) (first ∷ without_id id ids) (without_id id ids)) other ≡ false →
        (includes_list ids other ≡ true → includes_list (without_id id ids) other ≡ false → other ≡ id) → other ≡ id
    by true t true s h k later = (bytes_eq-Decides other first).0 s ∙ sym ((bytes_eq-Decides id first).0 t)
    by true t false s h k later = later h k
    by false t true s h k later = absurd (false≢true (sym k ∙ or_left (bytes_eq other first) (includes_list (without_id id ids) other) s))
    by false t false s h k later = later h (rw s at k)

-- the id of a row that withdrew is among the ids of the register
withdrawn_is_there : (register : List Entry) (i : ℕ) → has_withdrawn register i ≡ true → includes_list (entry_ids register) (get_or (entry_ids register) i []) ≡ true
withdrawn_is_there [] i h = absurd (false≢true h)
withdrawn_is_there (entry ∷ register) zero h = or_left (bytes_eq entry.id entry.id) (includes_list (entry_ids register) entry.id) ((bytes_eq-Decides entry.id entry.id).1 refl)
withdrawn_is_there (entry ∷ register) (suc i) h =
    let id = get_or (entry_ids register) i [] in
    or_right (bytes_eq id entry.id) (includes_list (entry_ids register) id) (withdrawn_is_there register i h)

-- if no row with `id` withdrew, and ids are different, the row at a place with this id has not withdrawn
pub id_has_not_withdrawn : (register : List Entry) (id : List ℕ) (i : ℕ) → all_different (entry_ids register) ≡ true → is_withdrawn (with_id register id) ≡ false → get_or (entry_ids register) i [] ≡ id →
    has_withdrawn register i ≡ false
id_has_not_withdrawn [] id i different none own = refl
id_has_not_withdrawn (entry ∷ register) id i different none own =
    let parts = and_parts (not (includes_list (entry_ids register) entry.id)) (all_different (entry_ids register)) different in
    by (not-true (includes_list (entry_ids register) entry.id) parts.0) (bytes_eq id entry.id) refl none i own (λ j. id_has_not_withdrawn register id j parts.1)
  where
    later_row : includes_list (entry_ids register) entry.id ≡ false → (j : ℕ) (withdrew : Bool) → has_withdrawn register j ≡ withdrew → entry.id ≡ get_or (entry_ids register) j [] → withdrew ≡ false
    later_row new j true w same = absurd (false≢true (sym new ∙ (ap (includes_list (entry_ids register)) same ∙ withdrawn_is_there register j w)))
    later_row new j false w same = refl

    by : includes_list (entry_ids register) entry.id ≡ false → (first : Bool) → bytes_eq id entry.id ≡ first → is_withdrawn (cond first (Some entry) (with_id register id)) ≡ false → (j : ℕ) →
        get_or (entry_ids (entry ∷ register)) j [] ≡ id → ((k : ℕ) → is_withdrawn (with_id register id) ≡ false → get_or (entry_ids register) k [] ≡ id → has_withdrawn register k ≡ false) →
        has_withdrawn (entry ∷ register) j ≡ false
    by new true e none zero own later = none
    by new true e none (suc j) own later = later_row new j (has_withdrawn register j) refl (sym ((bytes_eq-Decides id entry.id).0 e) ∙ sym own)
    by new false e none zero own later = absurd (false≢true (sym e ∙ (bytes_eq-Decides id entry.id).1 (sym own)))
    by new false e none (suc j) own later = later j none own

-- ---- a withdrawal

-- who has withdrawn after a withdrawal had withdrawn before, or is the row that withdraws
pub withdrew_before : (register : List Entry) (place i : ℕ) → has_withdrawn (withdrawn_at register place) i ≡ true → (has_withdrawn register i ≡ true) ⊎ (i ≡ place)
withdrew_before [] place i h = inl h
withdrew_before (entry ∷ register) zero zero h = inr refl
withdrew_before (entry ∷ register) zero (suc i) h = inl h
withdrew_before (entry ∷ register) (suc place) zero h = inl h
withdrew_before (entry ∷ register) (suc place) (suc i) h =
    elim (withdrew_before register place i h) [ inl before ↦ inl before | inr same ↦ inr (ap suc same) ]
