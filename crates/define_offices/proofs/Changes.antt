-- The facts of `IsTables` still hold after a part of the tables is changed.
use Rattle.std.proofs.Common.{◌≡◌, ℕ, zero, suc, Bool, true, List, [], ◌∷◌, ◌++◌, map, length, Option, Some, None, is_some, refl, sym, ap, ◌∙◌, subst, ⊎_elim}
use Rattle.std.specs.List.{list_all}
use Rattle.std.proofs.lemmas.Bool.{false≢true}
use Rattle.define_pools.specs.Pool.{Category}
use Rattle.define_bundles.specs.BundleText.{Bundle}
use Rattle.define_offices.specs.Tables.{Entry, Round, Open, Solved, Sealed, Drawn, Tables, changed_at, changed_named, is_enrolling, named_round, round_at, taken_at}
use Rattle.define_offices.specs.Facts.{AreRules, IsTables, KeepsBundle, KeepsRound, closed_but_last, entry_ids, has_drop, is_entry, rows_fit}
use Rattle.define_offices.specs.Steps.{withdrawn_at}
use Rattle.define_offices.proofs.Rounds.{IsChanged, closed-changed, closed-changed-last, closed-push, closed-taken, round_at-changed, round_at-push, round_at-taken}

-- the tables `new` have a charter if `old` have one, have rules if `old` have them, and have the same ids
pub record HasSame (old new : Tables) : Type 0 where
  pub charter : is_some old.charter ≡ true → is_some new.charter ≡ true
  pub rules : is_some old.rules ≡ true → is_some new.rules ≡ true
  pub ids : entry_ids old.register ≡ entry_ids new.register

KeepsBundle-in : (old new : Tables) → HasSame old new → (bundle : Bundle) → KeepsBundle old bundle → KeepsBundle new bundle
KeepsBundle-in old new same bundle kept =
    record { charter = same.charter kept.charter; rules = same.rules kept.rules; is_bundle = kept.is_bundle; total_agrees = kept.total_agrees; same_ids = kept.same_ids ∙ same.ids }

-- if `HasSame old new` holds, a round that satisfies `KeepsRound` over `old` satisfies it over `new`
pub KeepsRound-in : (old new : Tables) → HasSame old new → (round : Round) → KeepsRound old round → KeepsRound new round
KeepsRound-in old new same Open kept = tt
KeepsRound-in old new same (Solved bundle) kept = KeepsBundle-in old new same bundle kept
KeepsRound-in old new same (Sealed bundle tickets) kept = (KeepsBundle-in old new same bundle kept.0, kept.1)
KeepsRound-in old new same (Drawn bundle tickets digits dropped) kept = (KeepsBundle-in old new same bundle kept.0, kept.1)

-- ---- the rounds while rows are enrolled

pub enrolling_rounds : (rounds : List Round) → is_enrolling rounds ≡ true → rounds ≡ Open ∷ []
enrolling_rounds [] h = absurd (false≢true h)
enrolling_rounds (Open ∷ []) h = refl
enrolling_rounds (Open ∷ next ∷ later) h = absurd (false≢true h)
enrolling_rounds (Solved bundle ∷ later) h = absurd (false≢true h)
enrolling_rounds (Sealed bundle tickets ∷ later) h = absurd (false≢true h)
enrolling_rounds (Drawn bundle tickets digits dropped ∷ later) h = absurd (false≢true h)

one_open : (tables : Tables) (place : ℕ) (round : Round) → round_at (Open ∷ []) place ≡ Some round → KeepsRound tables round
one_open tables zero round h = let same : Open ≡ round = cc in subst (KeepsRound tables) same tt
one_open tables (suc place) round h = absurd (cc)

-- while volunteers are enrolled, each round is open, so `KeepsRound` holds of it
pub open_rounds : (tables : Tables) → is_enrolling tables.rounds ≡ true → (place : ℕ) (round : Round) → round_at tables.rounds place ≡ Some round → KeepsRound tables round
open_rounds tables enrolling place round h = one_open tables place round (subst (λ rounds. round_at rounds place ≡ Some round) (enrolling_rounds tables.rounds enrolling) h)

-- ---- tables with another list of rounds

pub with_rounds : (tables : Tables) (rounds : List Round) → IsTables tables → closed_but_last rounds ≡ true →
    ((place : ℕ) (round : Round) → round_at rounds place ≡ Some round → KeepsRound tables round) → IsTables (record tables { rounds = rounds })
with_rounds tables rounds keeps closed each = record {
  charter = keeps.charter;
  rules = keeps.rules;
  bounds = keeps.bounds;
  few_rows = keeps.few_rows;
  rows = keeps.rows;
  fit = keeps.fit;
  different_ids = keeps.different_ids;
  different_keys = keeps.different_keys;
  closed = closed;
  rounds = λ place round at. KeepsRound-in tables (record tables { rounds = rounds }) (record { charter = λ h. h; rules = λ h. h; ids = refl }) round (each place round at);
}

-- ---- tables with other bounds

pub with_rules : (tables : Tables) (bounds : Option (List Category)) → IsTables tables → ((categories : List Category) → bounds ≡ Some categories → AreRules categories) → IsTables (record tables { bounds = bounds })
with_rules tables bounds keeps are = record {
  charter = keeps.charter;
  rules = keeps.rules;
  bounds = are;
  few_rows = keeps.few_rows;
  rows = keeps.rows;
  fit = keeps.fit;
  different_ids = keeps.different_ids;
  different_keys = keeps.different_keys;
  closed = keeps.closed;
  rounds = λ place round at. KeepsRound-in tables (record tables { bounds = bounds }) (record { charter = λ h. h; rules = λ h. h; ids = refl }) round (keeps.rounds place round at);
}

without_bounds : (tables : Tables) → IsTables tables → IsTables (record tables { bounds = None })
without_bounds tables keeps = with_rules tables None keeps (λ categories h. absurd (cc))

-- the facts still hold after the round at `place` is changed, if `closed_but_last` and `KeepsRound` do
changed_closed : (tables : Tables) → IsTables tables → (change : Round → Round) (place : ℕ) → closed_but_last (changed_at change tables.rounds place) ≡ true →
    ((old : Round) → round_at tables.rounds place ≡ Some old → KeepsRound tables (change old)) → IsTables (record tables { rounds = changed_at change tables.rounds place })
changed_closed tables keeps change place closed right =
    with_rounds tables (changed_at change tables.rounds place) keeps closed
    (λ q round at. ⊎_elim (λ (same : round_at tables.rounds q ≡ Some round). keeps.rounds q round same)
    (λ (changed : IsChanged change tables.rounds place round). subst (KeepsRound tables) (sym changed.is) (right changed.old changed.there))
    (round_at-changed change tables.rounds place q round at))

-- the last round may be changed in any way that keeps `KeepsRound`
pub changed_last_keeps : (tables : Tables) → IsTables tables → (change : Round → Round) (number : ℕ) → number ≡ length tables.rounds →
    ((old : Round) → named_round tables.rounds number ≡ Some old → KeepsRound tables (change old)) → IsTables (record tables { rounds = changed_named change tables.rounds number })
changed_last_keeps tables keeps change zero last right = with_rounds tables tables.rounds keeps keeps.closed keeps.rounds
changed_last_keeps tables keeps change (suc place) last right = changed_closed tables keeps change place (closed-changed-last change tables.rounds place last keeps.closed) right

-- the facts still hold after a round that isn't the first is taken away
pub taken_keeps : (tables : Tables) → IsTables tables → (place : ℕ) → IsTables (record tables { rounds = taken_at tables.rounds (suc place); bounds = None })
taken_keeps tables keeps place =
    let rounds = taken_at tables.rounds (suc place) in
    without_bounds (record tables { rounds = rounds })
    (with_rounds tables rounds keeps (closed-taken tables.rounds place keeps.closed) (λ q round at. keeps.rounds q round (round_at-taken tables.rounds (suc place) q round at)))

-- if the facts hold of tables, `change` leaves a dropout in each round that has one, and `KeepsRound` holds of the changed round, then the
-- facts hold of the tables with this round changed
module _ (tables : Tables) (keeps : IsTables tables) (change : Round → Round) (drops : (round : Round) → has_drop round ≡ true → has_drop (change round) ≡ true) where
  changed_place : (place : ℕ) → ((old : Round) → round_at tables.rounds place ≡ Some old → KeepsRound tables (change old)) →
      IsTables (record tables { rounds = changed_at change tables.rounds place })
  changed_place place right = changed_closed tables keeps change place (closed-changed change drops tables.rounds place keeps.closed) right

  pub changed_keeps : (number : ℕ) → ((old : Round) → named_round tables.rounds number ≡ Some old → KeepsRound tables (change old)) →
      IsTables (record tables { rounds = changed_named change tables.rounds number })
  changed_keeps zero right = with_rounds tables tables.rounds keeps keeps.closed keeps.rounds
  changed_keeps (suc place) right = changed_place place right

-- if the last round has a dropout, the facts still hold after an open round is added at the end
pub pushed_keeps : (tables : Tables) → IsTables tables → (place : ℕ) (round : Round) → round_at tables.rounds place ≡ Some round → suc place ≡ length tables.rounds → has_drop round ≡ true →
    IsTables (record tables { rounds = tables.rounds ++ Open ∷ []; bounds = None })
pushed_keeps tables keeps place round at end drop =
    without_bounds (record tables { rounds = tables.rounds ++ Open ∷ [] })
    (with_rounds tables (tables.rounds ++ Open ∷ []) keeps (closed-push tables.rounds place round Open keeps.closed at end drop)
    (λ q other found. ⊎_elim (λ (same : round_at tables.rounds q ≡ Some other). keeps.rounds q other same) (λ (new : other ≡ Open). subst (KeepsRound tables) (sym new) tt) (round_at-push tables.rounds Open q other found)))

-- ---- a withdrawal

map-withdrawn : {X : Type 0} (f : Entry → X) → ((entry : Entry) → f (record entry { withdrawn = true }) ≡ f entry) → (register : List Entry) (place : ℕ) → map f (withdrawn_at register place) ≡ map f register
map-withdrawn f same [] place = refl
map-withdrawn f same (entry ∷ register) zero = ap (λ first. first ∷ map f register) (same entry)
map-withdrawn f same (entry ∷ register) (suc place) = ap (λ rest. f entry ∷ rest) (map-withdrawn f same register place)

list_all-withdrawn : (p : Entry → Bool) → ((entry : Entry) → p (record entry { withdrawn = true }) ≡ p entry) → (register : List Entry) (place : ℕ) → list_all p (withdrawn_at register place) ≡ list_all p register
list_all-withdrawn p same [] place = refl
list_all-withdrawn p same (entry ∷ register) zero = rw (same entry) refl
list_all-withdrawn p same (entry ∷ register) (suc place) = rw (list_all-withdrawn p same register place) refl

length-withdrawn : (register : List Entry) (place : ℕ) → length (withdrawn_at register place) ≡ length register
length-withdrawn [] place = refl
length-withdrawn (entry ∷ register) zero = refl
length-withdrawn (entry ∷ register) (suc place) = ap suc (length-withdrawn register place)

fit-withdrawn : (rules : Option (List Category)) (register : List Entry) (place : ℕ) → rows_fit rules (withdrawn_at register place) ≡ rows_fit rules register
fit-withdrawn None [] place = refl
fit-withdrawn None (entry ∷ register) zero = refl
fit-withdrawn None (entry ∷ register) (suc place) = refl
fit-withdrawn (Some categories) register place = list_all-withdrawn _ (λ entry. refl) register place

pub withdrawn_keeps : (tables : Tables) → IsTables tables → (place : ℕ) → IsTables (record tables { register = withdrawn_at tables.register place })
withdrawn_keeps tables keeps place =
    let ids = map-withdrawn (λ entry. entry.id) (λ entry. refl) tables.register place in
    record {
      charter = keeps.charter;
      rules = keeps.rules;
      bounds = keeps.bounds;
      few_rows = rw (length-withdrawn tables.register place) keeps.few_rows;
      rows = rw (list_all-withdrawn is_entry (λ entry. refl) tables.register place) keeps.rows;
      fit = rw (fit-withdrawn tables.rules tables.register place) keeps.fit;
      different_ids = rw ids keeps.different_ids;
      different_keys = rw (map-withdrawn (λ entry. entry.hash) (λ entry. refl) tables.register place) keeps.different_keys;
      closed = keeps.closed;
      rounds = λ q round at. KeepsRound-in tables (record tables { register = withdrawn_at tables.register place }) (record { charter = λ h. h; rules = λ h. h; ids = sym ids }) round (keeps.rounds q round at);
    }
