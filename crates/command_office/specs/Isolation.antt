-- On what the desk's replies depend: on nothing of others but what is published, and on the phase of the last round. What is published has
-- the bundles, with every volunteer of their pools. A volunteer who asks with a key learns what the view of this key shows (`view` of
-- define_desk: the phase of the last round, what is published of each round, and the row with this key, with the rounds of which this
-- volunteer dropped out). Who asks for anything else learns what is published.
use Rattle.std.specs.Prelude.{◌≡◌, ◌≢◌, ◌⊎◌, ℕ, Bool, true, false, IsTrue, IsFalse, List, [], ◌∷◌, length, map, bytes_eq, Option, Some, Ok, ⊤}
use Rattle.std.specs.Io.KnownBytes.{Appends}
use Rattle.define_desk.specs.Desk.{IsIsolated, OwnPage, Page, SeatPage, WithdrawalPage, page_of, served}
use Rattle.define_desk.specs.Replies.{Reply, reply_text}
use Rattle.define_desk.specs.Requests.{AreAsking, Asks, Request}
use Rattle.define_desk.specs.Views.{published, view}
use Rattle.define_draws.specs.Seal.{seal_of}
use Rattle.define_offices.specs.Facts.{IsTables}
use Rattle.define_offices.specs.Tables.{Entry, Tables}
use Rattle.office_http.specs.Visits.{IsAttended, Visit}

-- ---- two visits

-- the visit ended with a status: not by a fault of the link or of the keeper, and not by want of memory
abbrev pub EndsWell : Visit → Type 0
EndsWell visit = (status : ℕ) × (visit.ended ≡ Ok status) × (status ≢ 503) × (status ≢ 507)

-- the same bytes came over the links of both visits, and they ask for this request
pub record ComeAlike (one other : Visit) (request : Request) : Type 0 where
  pub bytes : List ℕ
  pub first : one.link.left ≡ Some bytes
  pub second : other.link.left ≡ Some bytes
  pub asks : AreAsking bytes (Asks request)

-- the same bytes went over both links
pub record GoAlike (one other : Visit) : Type 0 where
  pub reply : Reply
  pub first : Appends one.link.written one.link_after.written (reply_text reply)
  pub second : Appends other.link.written other.link_after.written (reply_text reply)

-- ---- requests that no key answers

-- the page of a volunteer, of a volunteer's seat, or of a volunteer's withdrawal
abbrev pub is_own_page : Option Page → Bool
is_own_page (Some OwnPage) = true
is_own_page (Some SeatPage) = true
is_own_page (Some WithdrawalPage) = true
is_own_page other = false

-- the request has no key, or two, or it is for a public page or for an unknown path
abbrev pub IsAnonymous : Request → Type 0
IsAnonymous request = (length request.keys ≢ 1) ⊎ IsFalse (is_own_page (page_of request.path))

-- ---- what a request changes

-- the row is as before; or it is the row of the key with this digest, and its volunteer has withdrawn
abbrev pub StaysButOwn : List ℕ → Entry → Entry → Type 0
StaysButOwn hash before after = (after ≡ before) ⊎ (IsTrue (bytes_eq hash before.hash) × (after ≡ record before { withdrawn = true }))

abbrev pub RowsStayButOwn : List ℕ → List Entry → List Entry → Type 0
RowsStayButOwn hash [] [] = ⊤
RowsStayButOwn hash [] (after ∷ later) = ⊥
RowsStayButOwn hash (before ∷ rows) [] = ⊥
RowsStayButOwn hash (before ∷ rows) (after ∷ later) = StaysButOwn hash before after × RowsStayButOwn hash rows later

pub record ChangesOwnRow (hash : List ℕ) (before after : Tables) : Type 0 where
  pub charter : after.charter ≡ before.charter
  pub rules : after.rules ≡ before.rules
  pub rounds : after.rounds ≡ before.rounds
  pub bounds : after.bounds ≡ before.bounds
  pub rows : RowsStayButOwn hash before.register after.register

-- ---- the laws

pub record TellsNothingOfOthers : Type 0 where
  -- over tables with the same view for a key, each request with this key and no other gets the same reply
  pub own : (one other : Tables) → IsTables one → IsTables other → (key : List ℕ) → IsIsolated one other key
  -- so do two visits: if the same bytes come, with one key, over tables with the same view for it, the same bytes go
  pub visits : (one other : Visit) → IsAttended one → IsAttended other → EndsWell one → EndsWell other → (request : Request) → ComeAlike one other request →
      (first second : Tables) → one.keeper.tables ≡ Some first → other.keeper.tables ≡ Some second → IsTables first → IsTables second →
      (key : List ℕ) → request.keys ≡ key ∷ [] → view first key ≡ view second key → GoAlike one other
  -- any other request depends on what is published of each round, and so on how many rounds there are, and on nothing else
  pub anonymous : (one other : Tables) → map published one.rounds ≡ map published other.rounds → (request : Request) → IsAnonymous request → (served one request).reply ≡ (served other request).reply
  -- a request with one key changes no row but the key's own
  pub row : (tables : Tables) (request : Request) (key : List ℕ) → request.keys ≡ key ∷ [] → ChangesOwnRow (seal_of key) tables (served tables request).tables
  -- any other request changes nothing
  pub none : (tables : Tables) (request : Request) → IsAnonymous request → (served tables request).tables ≡ tables
