-- The reply to a volunteer's key.
use Rattle.std.proofs.Common.{◌≡◌, ℕ, List, [], ◌∷◌, length, get_or, map, Option, Some, None, ap, refl, sym, arith}
use Rattle.define_draws.specs.Seal.{seal_of}
use Rattle.define_offices.specs.Deciding.{with_hash}
use Rattle.define_offices.specs.Tables.{Entry, Tables, last_phase}
use Rattle.define_desk.specs.Desk.{leaving, own_reply, own_reply_by, withdrawal}
use Rattle.define_desk.specs.Replies.{told, unknown_key}
use Rattle.define_desk.specs.Views.{Own, View, own_of, published}
use Rattle.office_desk.specs.Shown.{own_in, shown_to}

abbrev view_by : Tables → Option Entry → View
view_by tables found = record { own = own_of tables.rounds found; phase = last_phase tables.rounds; rounds = map published tables.rounds }

module _ (body : View → Own → List ℕ) where
  pub own_known : (tables : Tables) (key : List ℕ) (entry : Entry) → with_hash tables.register (seal_of key) ≡ Some entry →
      own_reply body tables (key ∷ []) ≡ told (body (shown_to tables entry) (own_in tables entry))
  own_known tables key entry e = ap (λ (found : Option Entry). own_reply_by body (view_by tables found) (own_of tables.rounds found)) e

  pub own_unknown : (tables : Tables) (key : List ℕ) → with_hash tables.register (seal_of key) ≡ None → own_reply body tables (key ∷ []) ≡ unknown_key
  own_unknown tables key e = ap (λ (found : Option Entry). own_reply_by body (view_by tables found) (own_of tables.rounds found)) e

-- ---- one key, or another number of keys

pub one_key : (keys : List (List ℕ)) (key : List ℕ) → length keys ≡ 1 → key ≡ get_or keys 0 key → keys ≡ key ∷ []
one_key [] key n e = absurd (omega arith)
one_key (first ∷ []) key n e = let same : key ≡ first = e in ap (λ (k : List ℕ). k ∷ []) (sym same)
one_key (first ∷ other ∷ keys) key n e = absurd (omega arith)

pub own_without : (body : View → Own → List ℕ) (tables : Tables) (keys : List (List ℕ)) → (length keys ≡ 1 → ⊥) → own_reply body tables keys ≡ unknown_key
own_without body tables [] n = refl
own_without body tables (key ∷ []) n = absurd (n refl)
own_without body tables (key ∷ other ∷ keys) n = refl

pub withdrawal_without : (tables : Tables) (keys : List (List ℕ)) → (length keys ≡ 1 → ⊥) → withdrawal tables keys ≡ leaving tables unknown_key
withdrawal_without tables [] n = refl
withdrawal_without tables (key ∷ []) n = absurd (n refl)
withdrawal_without tables (key ∷ other ∷ keys) n = refl
