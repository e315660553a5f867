-- A volunteer's reply tells nothing of others.
use Rattle.std.proofs.Common.{◌≡◌, ◌∙◌, ◌+◌, ◌⊎◌, ℕ, zero, suc, Bool, true, false, cond, ◌&&◌, List, [], ◌∷◌, length, map, Option, Some, None, Ok, refl, ap, sym, subst, inl, inr, arith, not}
use Rattle.std.specs.Prelude.{◌≢◌, IfSome, IsFalse, bytes_eq, codes, take, drop}
use Rattle.std.specs.Io.KnownBytes.{Appends}
use Rattle.std.proofs.lemmas.Bool.{false≢true}
use Rattle.httparse.specs.Grammar.{ReadsRequest}
use Rattle.httparse.proofs.GrammarLemmas.{request_unique}
use Rattle.define_desk.specs.Desk.{BundlePage, DrawPage, IsIsolated, OwnPage, Page, SeatPage, Served, Serves, WithdrawalPage, bundle_reply, draw_reply, if_by, leaving, own_body, own_reply, page_of, round_named, seat_body, served, served_by, served_page, withdrawal, withdrawal_by}
use Rattle.define_desk.specs.Replies.{Reply, not_allowed, reply_text}
use Rattle.define_desk.specs.Requests.{AreAsking, Asking, Asks, Headed, Headless, IsHead, Misheaded, Request, asking_by}
use Rattle.define_desk.specs.Views.{Own, View, published, published_of, view}
use Rattle.define_draws.specs.Seal.{seal_of}
use Rattle.define_offices.specs.Commands.{Lines, Refuses, Replies, TooLate, Withdrawn}
use Rattle.define_offices.specs.Deciding.{is_last_open, is_seated_in, place_of_hash, with_hash, withdraw_at}
use Rattle.define_offices.specs.Facts.{IsTables}
use Rattle.define_offices.specs.Pools.{pool_of}
use Rattle.define_offices.specs.Steps.{tables_after, withdrawn_at}
use Rattle.define_offices.specs.Tables.{Entry, Tables}
use Rattle.define_offices.proofs.RowsAgain.{place_by_hash, place_from}
use Rattle.office_http.specs.Visits.{EndsBy, FromBytes, FromTables, IsAttended, IsReply, NoMemory, RepliesTo, Unavailable, Visit}
use Rattle.command_office.specs.Isolation.{ChangesOwnRow, ComeAlike, EndsWell, GoAlike, RowsStayButOwn, TellsNothingOfOthers, is_own_page}

-- ---- bytes ask for one thing only

asking_once : (bytes : List ℕ) (one other : Asking) → AreAsking bytes one → AreAsking bytes other → one ≡ other
asking_once bytes one other (Headless n e) (Headless m f) = cc
asking_once bytes one other (Headless n e) (Headed size head w is f) = absurd (cc (n, w))
asking_once bytes one other (Headless n e) (Misheaded size w never f) = absurd (cc (n, w))
asking_once bytes one other (Headed size head w is e) (Headless n f) = absurd (cc (n, w))
asking_once bytes one other (Headed size head w is e) (Headed own also v was f) =
    let sizes : own ≡ size = cc (w, v) in
    let heads = (request_unique (take size bytes) head also [] [] is.reads (subst (λ n. ReadsRequest (take n bytes) also []) sizes was.reads)).0 in
    e ∙ (ap (λ h. asking_by h (drop size bytes)) heads ∙ (ap (λ n. asking_by also (drop n bytes)) (sym sizes) ∙ sym f))
asking_once bytes one other (Headed size head w is e) (Misheaded own v never f) =
    let sizes : size ≡ own = cc (w, v) in absurd (never head (subst (λ n. IsHead (take n bytes) head) sizes is))
asking_once bytes one other (Misheaded size w never e) (Headless n f) = absurd (cc (n, w))
asking_once bytes one other (Misheaded own v never e) (Headed size head w is f) =
    let sizes : size ≡ own = cc (w, v) in absurd (never head (subst (λ n. IsHead (take n bytes) head) sizes is))
asking_once bytes one other (Misheaded size w never e) (Misheaded own v also f) = cc

-- ---- what a visit replied

-- the reply to a visit that ended well, over the tables that the keeper told
replied : (visit : Visit) (bytes : List ℕ) (request : Request) (tables : Tables) (reply : Reply) → visit.link.left ≡ Some bytes → AreAsking bytes (Asks request) → visit.keeper.tables ≡ Some tables →
    reply.status ≢ 503 → reply.status ≢ 507 → RepliesTo visit.link.left visit.keeper visit.keeper_after reply → reply ≡ (served tables request).reply
replied visit bytes request tables reply left asks told n503 n507 is = by is.is
  where
    same : is.bytes ≡ bytes
    same = subst (λ kept. IfSome kept (λ own. is.bytes ≡ own)) left is.all

    serves : (own after : Tables) → Serves own is.bytes (leaving after reply) → reply ≡ (served own request).reply
    serves own after (asking, are, equal) =
        let one = asking_once bytes asking (Asks request) (subst (λ them. AreAsking them asking) same are) asks in
        ap (λ (s : Served). s.reply) (equal ∙ ap (served_by own) one)

    by : IsReply is.bytes visit.keeper.tables visit.keeper_after.tables reply → reply ≡ (served tables request).reply
    by (FromTables own after loaded so leaves) =
        serves own after so ∙ ap (λ t. (served t request).reply) (subst (λ kept. IfSome kept (λ it. own ≡ it)) told loaded.same)
    by (FromBytes so leaves) = serves tables tables (so tables)
    by (Unavailable own are e leaves) = absurd (n503 (ap (λ (r : Reply). r.status) e))
    by (NoMemory e leaves) = absurd (n507 (ap (λ (r : Reply). r.status) e))

-- what went over the link of a visit that ended well
record Went (visit : Visit) (reply : Reply) : Type 0 where
  written : Appends visit.link.written visit.link_after.written (reply_text reply)

went : (visit : Visit) (bytes : List ℕ) (request : Request) (tables : Tables) → visit.link.left ≡ Some bytes → AreAsking bytes (Asks request) → visit.keeper.tables ≡ Some tables → IsAttended visit → EndsWell visit →
    Went visit (served tables request).reply
went visit bytes request tables left asks told attended (status, ended, n503, n507) = by (subst (EndsBy visit) ended attended.ends)
  where
    by : EndsBy visit (Ok status) → Went visit (served tables request).reply
    by ends = record {
      written = subst (λ r. Appends visit.link.written visit.link_after.written (reply_text r))
          (replied visit bytes request tables ends.reply left asks told (λ e. n503 (ends.status ∙ e)) (λ e. n507 (ends.status ∙ e)) ends.is) ends.written;
    }

go_alike : ((one other : Tables) → IsTables one → IsTables other → (key : List ℕ) → IsIsolated one other key) → (one other : Visit) → IsAttended one → IsAttended other → EndsWell one → EndsWell other → (request : Request) → ComeAlike one other request →
    (first second : Tables) → one.keeper.tables ≡ Some first → other.keeper.tables ≡ Some second → IsTables first → IsTables second →
    (key : List ℕ) → request.keys ≡ key ∷ [] → view first key ≡ view second key → GoAlike one other
go_alike isolated one other is was well too request come first second told also keeps keeps' key keys same =
    let here = went one come.bytes request first come.first come.asks told is well in
    let there = went other come.bytes request second come.second come.asks also was too in
    let equal = isolated first second keeps keeps' key same request keys in
    record { reply = (served first request).reply; first = here.written; second = subst (λ r. Appends other.link.written other.link_after.written (reply_text r)) (sym equal) there.written }

-- ---- requests that no key answers

module _ (one other : Tables) (same : map published one.rounds ≡ map published other.rounds) (request : Request) where
  anonymous_keys : (body : View → Own → List ℕ) (keys : List (List ℕ)) → length keys ≢ 1 → own_reply body one keys ≡ own_reply body other keys
  anonymous_keys body [] apart = refl
  anonymous_keys body (key ∷ []) apart = absurd (apart refl)
  anonymous_keys body (key ∷ next ∷ keys) apart = refl

  anonymous_withdrawal : (keys : List (List ℕ)) → length keys ≢ 1 → (withdrawal one keys).reply ≡ (withdrawal other keys).reply
  anonymous_withdrawal [] apart = refl
  anonymous_withdrawal (key ∷ []) apart = absurd (apart refl)
  anonymous_withdrawal (key ∷ next ∷ keys) apart = refl

  alike_on : (page : Option Page) → (length request.keys ≢ 1) ⊎ IsFalse (is_own_page page) → (served_page one request page).reply ≡ (served_page other request page).reply
  alike_on None may = refl
  alike_on (Some (BundlePage round)) may = ap (λ all. bundle_reply request (published_of all (round_named round))) same
  alike_on (Some (DrawPage round)) may = ap (λ all. draw_reply request (published_of all (round_named round))) same
  alike_on (Some OwnPage) (inl apart) = ap (if_by (codes "GET") request) (anonymous_keys own_body request.keys apart)
  alike_on (Some OwnPage) (inr free) = absurd (false≢true (sym free))
  alike_on (Some SeatPage) (inl apart) = ap (if_by (codes "GET") request) (anonymous_keys seat_body request.keys apart)
  alike_on (Some SeatPage) (inr free) = absurd (false≢true (sym free))
  alike_on (Some WithdrawalPage) (inl apart) = by (bytes_eq request.method (codes "POST"))
    where
      by : (b : Bool) → (cond b (withdrawal one request.keys) (leaving one (not_allowed (codes "POST")))).reply ≡ (cond b (withdrawal other request.keys) (leaving other (not_allowed (codes "POST")))).reply
      by true = anonymous_withdrawal request.keys apart
      by false = refl
  alike_on (Some WithdrawalPage) (inr free) = absurd (false≢true (sym free))

-- ---- what a request changes

no_key : (tables : Tables) (keys : List (List ℕ)) → length keys ≢ 1 → (withdrawal tables keys).tables ≡ tables
no_key tables [] apart = refl
no_key tables (key ∷ []) apart = absurd (apart refl)
no_key tables (key ∷ next ∷ keys) apart = refl

nothing_changes : (tables : Tables) (request : Request) (page : Option Page) → (length request.keys ≢ 1) ⊎ IsFalse (is_own_page page) → (served_page tables request page).tables ≡ tables
nothing_changes tables request None may = refl
nothing_changes tables request (Some (BundlePage round)) may = refl
nothing_changes tables request (Some (DrawPage round)) may = refl
nothing_changes tables request (Some OwnPage) may = refl
nothing_changes tables request (Some SeatPage) may = refl
nothing_changes tables request (Some WithdrawalPage) (inl apart) = by (bytes_eq request.method (codes "POST"))
  where
    by : (b : Bool) → (cond b (withdrawal tables request.keys) (leaving tables (not_allowed (codes "POST")))).tables ≡ tables
    by true = no_key tables request.keys apart
    by false = refl
nothing_changes tables request (Some WithdrawalPage) (inr free) = absurd (false≢true (sym free))

rows_stay : (hash : List ℕ) (register : List Entry) → RowsStayButOwn hash register register
rows_stay hash [] = tt
rows_stay hash (entry ∷ register) = (inl refl, rows_stay hash register)

stays : (hash : List ℕ) (tables : Tables) → ChangesOwnRow hash tables tables
stays hash tables = record { charter = refl; rules = refl; rounds = refl; bounds = refl; rows = rows_stay hash tables.register }

row_changes : (register : List Entry) (hash : List ℕ) (i q place : ℕ) (entry : Entry) → place_of_hash register hash i ≡ Some (place, entry) → place ≡ i + q → RowsStayButOwn hash register (withdrawn_at register q)
row_changes [] hash i q place entry h at = absurd (cc)
row_changes (e ∷ old) hash i zero place entry h at = by (bytes_eq hash e.hash) refl h
  where
    by : (b : Bool) → bytes_eq hash e.hash ≡ b → cond b (Some (i, e)) (place_of_hash old hash (i + 1)) ≡ Some (place, entry) → RowsStayButOwn hash (e ∷ old) (withdrawn_at (e ∷ old) zero)
    by true eq k = (inr (eq, refl), rows_stay hash old)
    by false eq k = absurd
        (let l = place_from (λ (row : Entry). row.hash) old hash (i + 1) (place, entry) (sym (place_by_hash old hash (i + 1)) ∙ k) in
        omega arith)
row_changes (e ∷ old) hash i (suc q) place entry h at = by (bytes_eq hash e.hash) h (λ k l. row_changes old hash (i + 1) q place entry k l)
  where
    by : (b : Bool) → cond b (Some (i, e)) (place_of_hash old hash (i + 1)) ≡ Some (place, entry) → (place_of_hash old hash (i + 1) ≡ Some (place, entry) → place ≡ i + 1 + q → RowsStayButOwn hash old (withdrawn_at old q)) →
        RowsStayButOwn hash (e ∷ old) (withdrawn_at (e ∷ old) (suc q))
    by true k again = absurd
        (let pair : (i, e) ≡ (place, entry) = cc in
        let same : i ≡ place = ap (λ (p : ℕ × Entry). p.0) pair in
        omega arith)
    by false k again = (inl refl, again k (omega arith))

outcome_changes : (tables : Tables) (hash : List ℕ) (found : Option (ℕ × Entry)) → place_of_hash tables.register hash 0 ≡ found → ChangesOwnRow hash tables (tables_after tables (withdraw_at tables found))
outcome_changes tables hash None at = stays hash tables
outcome_changes tables hash (Some (place, entry)) at = by entry.withdrawn (is_last_open tables.rounds && not (is_seated_in (pool_of tables (length tables.rounds)) place))
  where
    by : (already may : Bool) → ChangesOwnRow hash tables (tables_after tables (cond already (Replies None (Lines [])) (cond may (Replies (Some (Withdrawn place)) (Lines [])) (Refuses TooLate))))
    by true may = stays hash tables
    by false true = record { charter = refl; rules = refl; rounds = refl; bounds = refl; rows = row_changes tables.register hash 0 place place entry at (omega arith) }
    by false false = stays hash tables

key_changes : (tables : Tables) (key : List ℕ) (row : Option Entry) →
    ChangesOwnRow (seal_of key) tables (withdrawal_by tables row (withdraw_at tables (place_of_hash tables.register (seal_of key) 0))).tables
key_changes tables key None = stays (seal_of key) tables
key_changes tables key (Some entry) = outcome_changes tables (seal_of key) (place_of_hash tables.register (seal_of key) 0) refl

own_row : (tables : Tables) (request : Request) (key : List ℕ) → request.keys ≡ key ∷ [] → (page : Option Page) → ChangesOwnRow (seal_of key) tables (served_page tables request page).tables
own_row tables request key keys None = stays (seal_of key) tables
own_row tables request key keys (Some (BundlePage round)) = stays (seal_of key) tables
own_row tables request key keys (Some (DrawPage round)) = stays (seal_of key) tables
own_row tables request key keys (Some OwnPage) = stays (seal_of key) tables
own_row tables request key keys (Some SeatPage) = stays (seal_of key) tables
own_row tables request key keys (Some WithdrawalPage) = by (bytes_eq request.method (codes "POST"))
  where
    by : (b : Bool) → ChangesOwnRow (seal_of key) tables (cond b (withdrawal tables request.keys) (leaving tables (not_allowed (codes "POST")))).tables
    by true = subst (λ them. ChangesOwnRow (seal_of key) tables (withdrawal tables them).tables) (sym keys) (key_changes tables key (with_hash tables.register (seal_of key)))
    by false = stays (seal_of key) tables

pub tells_nothing : ((one other : Tables) → IsTables one → IsTables other → (key : List ℕ) → IsIsolated one other key) → TellsNothingOfOthers
tells_nothing isolated = record {
  own = isolated;
  visits = go_alike isolated;
  anonymous = λ one other same request may. alike_on one other same request (page_of request.path) may;
  row = λ tables request key keys. own_row tables request key keys (page_of request.path);
  none = λ tables request may. nothing_changes tables request (page_of request.path) may;
}
