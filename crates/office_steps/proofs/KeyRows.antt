-- A place found by `position` is that of the first row with the digest of a key, or with an id; and a test of the last phase says whether
-- the last round is open.
use Rattle.std.proofs.Common.{◌≡◌, ◌≤◌, ◌<◌, ◌+◌, ℕ, zero, suc, Bool, true, false, cond, if◌then◌else◌, List, [], ◌∷◌, Option, Some, None, get_or, length, refl, sym, ap, ◌∙◌, arith}
use Rattle.std.specs.List.{position}
use Rattle.std.specs.Str.{bytes_eq}
use Rattle.std.proofs.lemmas.List.Quantifiers.{position-Some}
use Rattle.define_pools.proofs.Found.{position-None}
use Rattle.define_offices.specs.declared.Phase.{Phase}
use Rattle.define_offices.specs.declared.Phase.TheVariants as phase
use Rattle.define_offices.specs.Deciding.{is_last_open, place_of_hash, place_of_id}
use Rattle.define_offices.specs.Tables.{Entry, Round, Open, Solved, Sealed, Drawn, last_phase}
use Rattle.office_steps.specs.Withdrawals.{IsPlaceOf, IsPlaceOfId}

-- the first row of which a part is `key`, with its place. `place` is the place of the first row of `register`
abbrev pub place_by : (Entry → List ℕ) → List Entry → List ℕ → ℕ → Option (ℕ × Entry)
place_by part [] key place = None
place_by part (entry ∷ register) key place = if bytes_eq key (part entry) then Some (place, entry) else place_by part register key (place + 1)

abbrev pub hash_of : Entry → List ℕ
hash_of entry = entry.hash

abbrev pub id_of : Entry → List ℕ
id_of entry = entry.id

by_hash : (register : List Entry) (hash : List ℕ) (place : ℕ) → place_of_hash register hash place ≡ place_by hash_of register hash place
by_hash [] hash place = refl
by_hash (entry ∷ register) hash place = ap (λ later. cond (bytes_eq hash entry.hash) (Some (place, entry)) later) (by_hash register hash (place + 1))

by_id : (register : List Entry) (id : List ℕ) (place : ℕ) → place_of_id register id place ≡ place_by id_of register id place
by_id [] id place = refl
by_id (entry ∷ register) id place = ap (λ later. cond (bytes_eq id entry.id) (Some (place, entry)) later) (by_id register id (place + 1))

module _ (part : Entry → List ℕ) (key : List ℕ) where
  found_at : (register : List Entry) (start k : ℕ) (d : Entry) → k < length register → bytes_eq key (part (get_or register k d)) ≡ true →
      ((j : ℕ) → j < k → bytes_eq key (part (get_or register j d)) ≡ false) → place_by part register key start ≡ Some (start + k, get_or register k d)
  found_at [] start k d inside is first = absurd (omega arith)
  found_at (entry ∷ register) start zero d inside is first = let same : start ≡ start + 0 = omega arith in rw is (ap (λ n. Some (n, entry)) same)
  found_at (entry ∷ register) start (suc k) d inside is first =
      let not : bytes_eq key (part entry) ≡ false = first 0 (omega arith) in
      let later = found_at register (start + 1) k d (omega arith) is (λ j l. first (suc j) (omega arith)) in
      let same : start + 1 + k ≡ start + suc k = omega arith in
      rw not (later ∙ ap (λ n. Some (n, get_or register k d)) same)

  found_nowhere : (register : List Entry) (start : ℕ) → ((j : ℕ) (d : Entry) → j < length register → bytes_eq key (part (get_or register j d)) ≡ false) → place_by part register key start ≡ None
  found_nowhere [] start none = refl
  found_nowhere (entry ∷ register) start none =
      let not : bytes_eq key (part entry) ≡ false = none 0 entry (omega arith) in
      rw not (found_nowhere register (start + 1) (λ j d l. none (suc j) d (omega arith)))

  -- the row at a place is the first with the key; or no row has the key
  abbrev pub IsPlace : List Entry → Option ℕ → Type 0
  IsPlace register None = place_by part register key 0 ≡ None
  IsPlace register (Some place) = (place < length register) × ((entry : Entry) → place_by part register key 0 ≡ Some (place, get_or register place entry))

  place_is : (register : List Entry) (found : Option ℕ) → found ≡ position (λ (entry : Entry). bytes_eq key (part entry)) register → IsPlace register found
  place_is register None is = found_nowhere register 0 (λ j d l. position-None (λ (entry : Entry). bytes_eq key (part entry)) register j d (sym is) l)
  place_is register (Some place) is = (
    (position-Some (λ (entry : Entry). bytes_eq key (part entry)) register place blank (sym is)).0,
    λ d. let found = position-Some (λ (entry : Entry). bytes_eq key (part entry)) register place d (sym is) in
        let same : 0 + place ≡ place = omega arith in found_at register 0 place d found.0 found.1 found.2 ∙ ap (λ n. Some (n, get_or register place d)) same,
  )
    where
      blank : Entry
      blank = record { id = []; hash = []; values = []; household = None; withdrawn = false }

place_by_hash : (register : List Entry) (hash : List ℕ) (found : Option ℕ) → IsPlace hash_of hash register found → IsPlaceOf register hash found
place_by_hash register hash None is = by_hash register hash 0 ∙ is
place_by_hash register hash (Some place) is = (is.0, λ entry. by_hash register hash 0 ∙ is.1 entry)

place_by_id : (register : List Entry) (id : List ℕ) (found : Option ℕ) → IsPlace id_of id register found → IsPlaceOfId register id found
place_by_id register id None is = by_id register id 0 ∙ is
place_by_id register id (Some place) is = (is.0, λ entry. by_id register id 0 ∙ is.1 entry)

pub hash_place_is : (register : List Entry) (hash : List ℕ) (found : Option ℕ) → found ≡ position (λ (entry : Entry). bytes_eq hash entry.hash) register → IsPlaceOf register hash found
hash_place_is register hash found is = place_by_hash register hash found (place_is hash_of hash register found is)

pub id_place_is : (register : List Entry) (id : List ℕ) (found : Option ℕ) → found ≡ position (λ (entry : Entry). bytes_eq id entry.id) register → IsPlaceOfId register id found
id_place_is register id found is = place_by_id register id found (place_is id_of id register found is)

abbrev pub is_open : Phase → Bool
is_open phase.Open = true
is_open phase.Solved = false
is_open phase.Sealed = false
is_open phase.Drawn = false

pub last_open : (rounds : List Round) → 1 ≤ length rounds → is_last_open rounds ≡ is_open (last_phase rounds)
last_open [] some = absurd (omega arith)
last_open (Open ∷ []) some = refl
last_open (Solved bundle ∷ []) some = refl
last_open (Sealed bundle tickets ∷ []) some = refl
last_open (Drawn bundle tickets digits dropped ∷ []) some = refl
last_open (round ∷ next ∷ later) some = last_open (next ∷ later) (omega arith)
