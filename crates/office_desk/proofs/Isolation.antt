-- What can be learned with a key: the reply to each request with it is the same over all tables with the same view for this key.
use Rattle.std.proofs.Common.{◌≡◌, ℕ, zero, suc, ◌+◌, ◌<◌, Bool, true, false, cond, not, ◌&&◌, List, [], ◌∷◌, length, get_or, map, option_map, Option, Some, None, refl, sym, ap, ◌∙◌, arith, subst}
use Rattle.std.specs.Prelude.{codes}
use Rattle.std.specs.Str.{bytes_eq}
use Rattle.std.proofs.lemmas.Bool.{and_parts, false≢true}
use Rattle.std.proofs.lemmas.List.{length-map}
use Rattle.define_pools.specs.Lists.{includes, includes_list}
use Rattle.define_pools.specs.Building.{ids}
use Rattle.define_bundles.specs.BundleText.{Bundle}
use Rattle.define_draws.specs.Seal.{seal_of}
use Rattle.define_offices.specs.declared.Phase.{Phase}
use Rattle.define_offices.specs.declared.Phase.TheVariants as phase
use Rattle.define_offices.specs.Commands.{Lines, Refuses, Replies, TooLate, Withdrawn}
use Rattle.define_offices.specs.Deciding.{is_last_open, is_seated_in, place_of_hash, with_hash, withdraw_at}
use Rattle.define_offices.specs.Facts.{IsTables, closed_but_last, entry_ids, has_drop}
use Rattle.define_offices.specs.Pools.{pool_of}
use Rattle.define_offices.specs.Tables.{Entry, Round, Open, Solved, Sealed, Drawn, Tables, last_phase, round_at}
use Rattle.define_desk.specs.Requests.{Request}
use Rattle.define_desk.specs.Replies.{Reply, not_allowed, told, too_late}
use Rattle.define_desk.specs.Views.{Own, Published, TheDraw, View, dropped_from, own_of, published, published_at, published_of, view}
use Rattle.define_desk.specs.Desk.{BundlePage, DrawPage, IsIsolated, IsPublic, OwnPage, Page, SeatPage, WithdrawalPage, bundle_reply, draw_reply, if_by, leaving, own_body, own_reply, own_reply_by, page_of, round_named, seat_body, served_page, withdrawal, withdrawal_by, withdrawal_reply, withdrawn_body}
use Rattle.office_desk.proofs.Dropouts.{dropped_at, dropped_in}
use Rattle.office_desk.proofs.PublishedRounds.{at_place, shown}
use Rattle.office_desk.proofs.Seats.{row_of, same_place, seat_by, seat_first, seat_later}

-- ---- the last rounds

-- the round at place `k` is drawn
pub record WasDrawn (rounds : List Round) (k : ℕ) : Type 0 where
  pub bundle : Bundle
  pub tickets : Option ℕ
  pub digits : List ℕ
  pub dropped : List (List ℕ)
  pub at : round_at rounds k ≡ Some (Drawn bundle tickets digits dropped)

drawn_if : (round : Round) (rounds : List Round) (k : ℕ) → has_drop round ≡ true → round_at rounds k ≡ Some round → WasDrawn rounds k
drawn_if Open rounds k d e = absurd (false≢true d)
drawn_if (Solved bundle) rounds k d e = absurd (false≢true d)
drawn_if (Sealed bundle tickets) rounds k d e = absurd (false≢true d)
drawn_if (Drawn bundle tickets digits dropped) rounds k d e = record { bundle = bundle; tickets = tickets; digits = digits; dropped = dropped; at = e }

pub was_drawn : (rounds : List Round) (k : ℕ) → closed_but_last rounds ≡ true → suc k < length rounds → WasDrawn rounds k
was_drawn [] k c h = absurd (omega arith)
was_drawn (round ∷ []) k c h = absurd (omega arith)
was_drawn (round ∷ next ∷ later) zero c h = drawn_if round (round ∷ next ∷ later) 0 (and_parts (has_drop round) (closed_but_last (next ∷ later)) c).0 refl
was_drawn (round ∷ next ∷ later) (suc k) c h =
    let rest = was_drawn (next ∷ later) k (and_parts (has_drop round) (closed_but_last (next ∷ later)) c).1 (omega arith) in
    record { bundle = rest.bundle; tickets = rest.tickets; digits = rest.digits; dropped = rest.dropped; at = rest.at }

open_phase : Phase → Bool
open_phase phase.Open = true
open_phase phase.Solved = false
open_phase phase.Sealed = false
open_phase phase.Drawn = false

last_open : (rounds : List Round) → closed_but_last rounds ≡ true → is_last_open rounds ≡ open_phase (last_phase rounds)
unfolding open_phase
last_open [] c = absurd (false≢true c)
last_open (Open ∷ []) c = refl
last_open (Solved bundle ∷ []) c = refl
last_open (Sealed bundle tickets ∷ []) c = refl
last_open (Drawn bundle tickets digits dropped ∷ []) c = refl
last_open (Open ∷ next ∷ later) c = absurd (false≢true c)
last_open (Solved bundle ∷ next ∷ later) c = absurd (false≢true c)
last_open (Sealed bundle tickets ∷ next ∷ later) c = absurd (false≢true c)
last_open (Drawn bundle tickets digits dropped ∷ next ∷ later) c = last_open (next ∷ later) (and_parts (has_drop (Drawn bundle tickets digits dropped)) (closed_but_last (next ∷ later)) c).1

-- if the last round is open and there are `k + 1` rounds, the round at place `k` is open
open_at : (rounds : List Round) (k : ℕ) → is_last_open rounds ≡ true → length rounds ≡ suc k → round_at rounds k ≡ Some Open
open_at [] k o e = absurd (omega arith)
open_at (Open ∷ []) zero o e = refl
open_at (Solved bundle ∷ []) k o e = absurd (false≢true o)
open_at (Sealed bundle tickets ∷ []) k o e = absurd (false≢true o)
open_at (Drawn bundle tickets digits dropped ∷ []) k o e = absurd (false≢true o)
open_at (Open ∷ []) (suc k) o e = absurd (omega arith)
open_at (round ∷ next ∷ later) zero o e = absurd (omega arith)
open_at (Open ∷ next ∷ later) (suc k) o e = open_at (next ∷ later) k o (omega arith)
open_at (Solved bundle ∷ next ∷ later) (suc k) o e = open_at (next ∷ later) k o (omega arith)
open_at (Sealed bundle tickets ∷ next ∷ later) (suc k) o e = open_at (next ∷ later) k o (omega arith)
open_at (Drawn bundle tickets digits dropped ∷ next ∷ later) (suc k) o e = open_at (next ∷ later) k o (omega arith)

-- ---- a volunteer in two tables

-- the register of the tables has the id of `entry` at `place`
pub record RowIn (tables : Tables) (place : ℕ) (entry : Entry) : Type 0 where
  pub inside : place < length tables.register
  pub read : get_or (entry_ids tables.register) place [] ≡ entry.id

row_in : (tables : Tables) (hash : List ℕ) (place : ℕ) (entry : Entry) → place_of_hash tables.register hash 0 ≡ Some (place, entry) → RowIn tables place entry
row_in tables hash place entry e =
    let row = row_of tables.register hash 0 place entry e in
    let same : row.index ≡ place = (let is = row.is in omega arith) in
    record { inside = subst (λ (k : ℕ). k < length tables.register) same row.inside; read = subst (λ (k : ℕ). get_or (entry_ids tables.register) k [] ≡ entry.id) same row.read }

-- what two tables with the same view for the key of `entry` share: what is published of their rounds, the phase of the last round, and the
-- rounds from which this volunteer dropped out
pub record SameSeen (one other : Tables) (entry : Entry) : Type 0 where
  pub rounds : map published one.rounds ≡ map published other.rounds
  pub phase : last_phase one.rounds ≡ last_phase other.rounds
  pub dropped : dropped_from entry.id one.rounds 1 ≡ dropped_from entry.id other.rounds 1

same_length : (one other : List Round) → map published one ≡ map published other → length one ≡ length other
same_length one other e = sym (length-map one published) ∙ (ap length e ∙ length-map other published)

module _ (one other : Tables) (keeps : IsTables one) (keeps' : IsTables other) (entry : Entry) (p q : ℕ) (row : RowIn one p entry) (row' : RowIn other q entry) (same : SameSeen one other entry) where
  seats_later : (k : ℕ) → WasDrawn one.rounds k → WasDrawn other.rounds k → round_at one.rounds (suc k) ≡ Some Open → round_at other.rounds (suc k) ≡ Some Open →
      is_seated_in (pool_of one (suc (suc k))) p ≡ is_seated_in (pool_of other (suc (suc k))) q
  seats_later k drawn drawn' opened opened' =
      let b = drawn.bundle in
      let b' = drawn'.bundle in
      let told : TheDraw b drawn.tickets drawn.digits ≡ TheDraw b' drawn'.tickets drawn'.digits =
      ap shown (sym drawn.at) ∙ (sym (at_place one.rounds k) ∙ (ap (λ all. published_at all k) same.rounds ∙ (at_place other.rounds k ∙ ap shown drawn'.at))) in
      let bundles : b ≡ b' = cc in
      let tickets : drawn.tickets ≡ drawn'.tickets = cc in
      let digits : drawn.digits ≡ drawn'.digits = cc in
      let gone : includes_list drawn.dropped entry.id ≡ includes_list drawn'.dropped entry.id =
      ap (dropped_in entry.id) (sym drawn.at) ∙ (sym (dropped_at entry.id one.rounds 1 k) ∙ (ap (λ all. includes all (1 + k)) same.dropped ∙ (dropped_at entry.id other.rounds 1 k ∙ ap (dropped_in entry.id) drawn'.at))) in
      let here : ids b.pool.volunteers ≡ entry_ids one.register = (keeps.rounds k (Drawn b drawn.tickets drawn.digits drawn.dropped) drawn.at).0.same_ids in
      let there : ids b'.pool.volunteers ≡ entry_ids other.register = (keeps'.rounds k (Drawn b' drawn'.tickets drawn'.digits drawn'.dropped) drawn'.at).0.same_ids in
      let registers : entry_ids one.register ≡ entry_ids other.register = sym here ∙ (ap (λ (x : Bundle). ids x.pool.volunteers) bundles ∙ there) in
      let places : p ≡ q = one_place registers in
      seat_later one keeps k p b drawn.tickets drawn.digits drawn.dropped entry.id drawn.at opened row.inside row.read
      ∙ (ap (λ (x : Bundle). seat_by x drawn.tickets drawn.digits p (includes_list drawn.dropped entry.id)) bundles
      ∙ (ap (λ (x : Option ℕ). seat_by b' x drawn.digits p (includes_list drawn.dropped entry.id)) tickets
      ∙ (ap (λ (x : List ℕ). seat_by b' drawn'.tickets x p (includes_list drawn.dropped entry.id)) digits
      ∙ (ap (λ (x : ℕ). seat_by b' drawn'.tickets drawn'.digits x (includes_list drawn.dropped entry.id)) places
      ∙ (ap (λ (x : Bool). seat_by b' drawn'.tickets drawn'.digits q x) gone
      ∙ sym (seat_later other keeps' k q b' drawn'.tickets drawn'.digits drawn'.dropped entry.id drawn'.at opened' row'.inside row'.read))))))
    where
      one_place : entry_ids one.register ≡ entry_ids other.register → p ≡ q
      one_place e =
          let size : length (entry_ids one.register) ≡ length one.register = length-map one.register (λ (x : Entry). x.id) in
          let size' : length (entry_ids other.register) ≡ length other.register = length-map other.register (λ (x : Entry). x.id) in
          let lengths : length (entry_ids one.register) ≡ length (entry_ids other.register) = ap length e in
          let low = row.inside in
          let high = row'.inside in
          same_place (entry_ids one.register) p q keeps.different_ids (omega arith) (omega arith) (row.read ∙ (sym row'.read ∙ ap (λ (all : List (List ℕ)). get_or all q []) (sym e)))

  seats : (n : ℕ) → length one.rounds ≡ n → length other.rounds ≡ n → is_last_open one.rounds ≡ true → is_last_open other.rounds ≡ true → is_seated_in (pool_of one n) p ≡ is_seated_in (pool_of other n) q
  seats zero e e' o o' = refl
  seats (suc zero) e e' o o' = seat_first one p (open_at one.rounds 0 o e) ∙ sym (seat_first other q (open_at other.rounds 0 o' e'))
  seats (suc (suc k)) e e' o o' =
      seats_later k (was_drawn one.rounds k keeps.closed (omega arith)) (was_drawn other.rounds k keeps'.closed (omega arith)) (open_at one.rounds (suc k) o e) (open_at other.rounds (suc k) o' e')

  pub may_withdraw : (is_last_open one.rounds && not (is_seated_in (pool_of one (length one.rounds)) p)) ≡ (is_last_open other.rounds && not (is_seated_in (pool_of other (length other.rounds)) q))
  may_withdraw = by (is_last_open one.rounds) refl
    where
      opens : is_last_open one.rounds ≡ is_last_open other.rounds
      opens = last_open one.rounds keeps.closed ∙ (ap open_phase same.phase ∙ sym (last_open other.rounds keeps'.closed))

      by : (b : Bool) → is_last_open one.rounds ≡ b → (is_last_open one.rounds && not (is_seated_in (pool_of one (length one.rounds)) p)) ≡ (is_last_open other.rounds && not (is_seated_in (pool_of other (length other.rounds)) q))
      by false e = rw (e, sym opens ∙ e) refl
      by true e =
          let e' : is_last_open other.rounds ≡ true = sym opens ∙ e in
          let n : length one.rounds ≡ length other.rounds = same_length one.rounds other.rounds same.rounds in
          let seat : is_seated_in (pool_of one (length one.rounds)) p ≡ is_seated_in (pool_of other (length other.rounds)) q =
          ap (λ (k : ℕ). is_seated_in (pool_of one k) p) n ∙ seats (length other.rounds) n refl e e' in
          rw (e, e') (ap not seat)

-- ---- replies to withdrawals

-- looking for a key's row with or without its place finds the same row
pub row_with : (register : List Entry) (hash : List ℕ) (start : ℕ) → with_hash register hash ≡ option_map (λ (found : ℕ × Entry). found.1) (place_of_hash register hash start)
row_with [] hash start = refl
row_with (entry ∷ register) hash start = by (bytes_eq hash entry.hash) (row_with register hash (start + 1))
  where
    by : (b : Bool) → with_hash register hash ≡ option_map (λ (found : ℕ × Entry). found.1) (place_of_hash register hash (start + 1)) →
        cond b (Some entry) (with_hash register hash) ≡ option_map (λ (found : ℕ × Entry). found.1) (cond b (Some (start, entry)) (place_of_hash register hash (start + 1)))
    by true e = refl
    by false e = e

-- the reply to a withdrawal, by whether the volunteer withdrew before, and whether they may still withdraw
abbrev pub reply_by : Entry → Bool → Bool → Reply
reply_by entry withdrew may = cond withdrew (told (withdrawn_body entry.id)) (cond may (told (withdrawn_body entry.id)) too_late)

abbrev pub may_at : Tables → ℕ → Bool
may_at tables place = is_last_open tables.rounds && not (is_seated_in (pool_of tables (length tables.rounds)) place)

reply_is : (tables : Tables) (place : ℕ) (entry : Entry) → withdrawal_reply entry (withdraw_at tables (Some (place, entry))) ≡ reply_by entry entry.withdrawn (may_at tables place)
reply_is tables place entry = by entry.withdrawn (may_at tables place)
  where
    by : (withdrew may : Bool) → withdrawal_reply entry (cond withdrew (Replies None (Lines [])) (cond may (Replies (Some (Withdrawn place)) (Lines [])) (Refuses TooLate))) ≡ reply_by entry withdrew may
    by true may = refl
    by false true = refl
    by false false = refl

-- the reply to a withdrawal, if looking for the key's row in the tables returned `found`
abbrev pub reply_found : Tables → Option (ℕ × Entry) → Reply
reply_found tables found = (withdrawal_by tables (option_map (λ (at : ℕ × Entry). at.1) found) (withdraw_at tables found)).reply

reply_to_key : (tables : Tables) (key : List ℕ) → (withdrawal tables (key ∷ [])).reply ≡ reply_found tables (place_of_hash tables.register (seal_of key) 0)
reply_to_key tables key =
    ap (λ (found : Option Entry). (withdrawal_by tables found (withdraw_at tables (place_of_hash tables.register (seal_of key) 0))).reply) (row_with tables.register (seal_of key) 0)

module _ (one other : Tables) (keeps : IsTables one) (keeps' : IsTables other) (key : List ℕ) (same : view one key ≡ view other key) where
  own_found : (tables : Tables) → own_of tables.rounds (with_hash tables.register (seal_of key)) ≡ own_of tables.rounds (option_map (λ (at : ℕ × Entry). at.1) (place_of_hash tables.register (seal_of key) 0))
  own_found tables = ap (own_of tables.rounds) (row_with tables.register (seal_of key) 0)

  replies_found : (found found' : Option (ℕ × Entry)) → place_of_hash one.register (seal_of key) 0 ≡ found → place_of_hash other.register (seal_of key) 0 ≡ found' →
      own_of one.rounds (option_map (λ (at : ℕ × Entry). at.1) found) ≡ own_of other.rounds (option_map (λ (at : ℕ × Entry). at.1) found') → reply_found one found ≡ reply_found other found'
  replies_found None None e e' own = refl
  replies_found None (Some at) e e' own = absurd (cc)
  replies_found (Some at) None e e' own = absurd (cc)
  replies_found (Some (p, entry)) (Some (q, entry')) e e' own =
      let o : Own = record { entry = entry; dropped = dropped_from entry.id one.rounds 1 } in
      let o' : Own = record { entry = entry'; dropped = dropped_from entry'.id other.rounds 1 } in
      let owns : o ≡ o' = cc in
      let entries : entry ≡ entry' = ap (λ (x : Own). x.entry) owns in
      let drops : dropped_from entry.id one.rounds 1 ≡ dropped_from entry'.id other.rounds 1 = ap (λ (x : Own). x.dropped) owns in
      let seen : SameSeen one other entry = record {
        rounds = ap (λ (v : View). v.rounds) same;
        phase = ap (λ (v : View). v.phase) same;
        dropped = drops ∙ ap (λ (x : Entry). dropped_from x.id other.rounds 1) (sym entries);
      } in
      let row' : RowIn other q entry = subst (λ (x : Entry). RowIn other q x) (sym entries) (row_in other (seal_of key) q entry' e') in
      let may : may_at one p ≡ may_at other q = may_withdraw one other keeps keeps' entry p q (row_in one (seal_of key) p entry e) row' seen in
      reply_is one p entry ∙ (ap (reply_by entry entry.withdrawn) may ∙ (ap (λ (x : Entry). reply_by x x.withdrawn (may_at other q)) entries ∙ sym (reply_is other q entry')))

  withdrawals_same : (withdrawal one (key ∷ [])).reply ≡ (withdrawal other (key ∷ [])).reply
  withdrawals_same =
      let own = sym (own_found one) ∙ (ap (λ (v : View). v.own) same ∙ own_found other) in
      reply_to_key one key ∙ (replies_found (place_of_hash one.register (seal_of key) 0) (place_of_hash other.register (seal_of key) 0) refl refl own ∙ sym (reply_to_key other key))

  -- ---- replies to each request

  own_same : (body : View → Own → List ℕ) (request : Request) → request.keys ≡ key ∷ [] → if_by (codes "GET") request (own_reply body one request.keys) ≡ if_by (codes "GET") request (own_reply body other request.keys)
  own_same body request keys =
      ap (λ given. if_by (codes "GET") request (own_reply body one given)) keys
      ∙ (ap (λ (v : View). if_by (codes "GET") request (own_reply_by body v v.own)) same ∙ ap (λ given. if_by (codes "GET") request (own_reply body other given)) (sym keys))

  replies_same : (request : Request) → request.keys ≡ key ∷ [] → (page : Option Page) → (served_page one request page).reply ≡ (served_page other request page).reply
  replies_same request keys None = refl
  replies_same request keys (Some (BundlePage round)) = ap (λ (v : View). bundle_reply request (published_of v.rounds (round_named round))) same
  replies_same request keys (Some (DrawPage round)) = ap (λ (v : View). draw_reply request (published_of v.rounds (round_named round))) same
  replies_same request keys (Some OwnPage) = own_same own_body request keys
  replies_same request keys (Some SeatPage) = own_same seat_body request keys
  replies_same request keys (Some WithdrawalPage) = by (bytes_eq request.method (codes "POST"))
    where
      posted : (withdrawal one request.keys).reply ≡ (withdrawal other request.keys).reply
      posted = ap (λ given. (withdrawal one given).reply) keys ∙ (withdrawals_same ∙ ap (λ given. (withdrawal other given).reply) (sym keys))

      by : (b : Bool) → (cond b (withdrawal one request.keys) (leaving one (not_allowed (codes "POST")))).reply
          ≡ (cond b (withdrawal other request.keys) (leaving other (not_allowed (codes "POST")))).reply
      by true = posted
      by false = refl

pub isolated : (one other : Tables) → IsTables one → IsTables other → (key : List ℕ) → IsIsolated one other key
isolated one other keeps keeps' key = λ same request keys. replies_same one other keeps keeps' key same request keys (page_of request.path)

-- ---- public pages

pub bundle_is_public : (one other : Tables) (round : List ℕ) → IsPublic one other (BundlePage round)
bundle_is_public one other round = λ same request. ap (λ (all : List Published). bundle_reply request (published_of all (round_named round))) same

pub draw_is_public : (one other : Tables) (round : List ℕ) → IsPublic one other (DrawPage round)
draw_is_public one other round = λ same request. ap (λ (all : List Published). draw_reply request (published_of all (round_named round))) same
