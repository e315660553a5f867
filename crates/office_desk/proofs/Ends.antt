-- How a request ends: withdrawals, and requests that don't change the tables.
use Rattle.std.proofs.Common.{◌≡◌, ℕ, Bool, true, false, cond, List, [], ◌∷◌, Option, Some, None, Ok, Err, inl, inr, option_map, refl, sym, ap, ◌∙◌, subst}
use Rattle.std.specs.Prelude.{◌==◌, IfSome, codes, map, option_and_then}
use Rattle.std.proofs.lemmas.Bool.{eqb-true}
use Rattle.define_draws.specs.Seal.{seal_of}
use Rattle.define_offices.specs.Commands as office
use Rattle.define_offices.specs.Commands.{Outcome, Refuses, Replies, Stops, Withdraw}
use Rattle.define_offices.specs.Deciding.{place_of_hash, with_hash, withdraw_at}
use Rattle.define_offices.specs.Steps.{AtOnce, ByRun, Comes, tables_after}
use Rattle.define_offices.specs.Tables.{Entry, Tables}
use Rattle.define_desk.specs.Requests.{Request}
use Rattle.define_desk.specs.Replies.{Reply, not_found, told, unavailable, unknown_key}
use Rattle.define_desk.specs.Views.{published, published_of}
use Rattle.define_desk.specs.Desk.{BundlePage, DrawPage, OwnPage as AtOwn, Page as SeenPage, SeatPage, Served, WithdrawalPage, bundle_reply, draw_reply, if_by, leaving, own_reply, round_named, served, served_page, withdrawal, withdrawal_by, withdrawal_reply, withdrawn_body}
use Rattle.office_steps.specs.Replies.{seen_refusal, seen_reply}
use Rattle.office_steps.specs.declared.replies.Reply.{Reply as OfficeReply}
use Rattle.office_core.specs.Acting.{ActsOver, FailsAtStore, FailsInOrderOver, HasFault as ActFault, HasOutcomeOver, IsLoaded}
use Rattle.office_core.specs.Keeping.{Course, HasCause, Load, with_call}
use Rattle.office_core.specs.declared.keeper.KeeperStop.TheVariants as keeper
use Rattle.office_core.specs.declared.stops.ActStop.{ActStop}
use Rattle.office_core.specs.declared.stops.ActStop.TheVariants as act
use Rattle.office_desk.specs.Answers.{FailsInTurn, FailsToStore, HasFault, IsReplyTo, NoMemory, Replied, ToLoad, ToStore, Unavailable}
use Rattle.office_desk.proofs.Causes.{because}
use Rattle.office_desk.specs.Endings.{Done, EndsAs, Failed, IsSentFor, WantsMemory}
use Rattle.office_desk.specs.Pages.{body_of, in_round, seen_page}
use Rattle.office_desk.specs.Refusals.{refusal_reply}
use Rattle.office_desk.specs.Sent.{Sent, sent_of}
use Rattle.office_desk.specs.Withdrawals.{TellsWithdrawn, stop_refusal}
use Rattle.office_desk.specs.declared.routes.OwnPage.{OwnPage}
use Rattle.office_desk.specs.declared.routes.OwnPage.TheVariants.{Seat, Standing}
use Rattle.office_desk.specs.declared.routes.Page.{Page}
use Rattle.office_desk.specs.declared.routes.Page.TheVariants.{Bundle, Draw, Own, Withdrawal}

-- ---- withdrawals

comes_withdrawn : (tables : Tables) (key : List ℕ) (outcome : Outcome) → Comes tables (Withdraw key) outcome → withdraw_at tables (place_of_hash tables.register (seal_of key) 0) ≡ outcome
comes_withdrawn tables key outcome (AtOnce e) = cc
comes_withdrawn tables key outcome (ByRun number limits pool ending c n r e) = absurd (cc)

-- if the keeper tells no tables, or those that were loaded, then changing the told tables gives the same as changing the loaded ones
kept_as : (before : Option Tables) (tables : Tables) (change : Tables → Tables) → IfSome before (λ kept. tables ≡ kept) → option_map (λ t. change t) before ≡ option_map (λ t. change tables) before
kept_as None tables change e = refl
kept_as (Some kept) tables change e = ap (λ t. Some (change t)) (sym e)

module _ (before : Option Tables) (tables : Tables) (key : List ℕ) (after : Option Tables) (loaded : IfSome before (λ kept. tables ≡ kept)) where
  with_outcome : (entry : Entry) (outcome : Outcome) (sent : Sent) → with_hash tables.register (seal_of key) ≡ Some entry → HasOutcomeOver tables before (Withdraw key) outcome after →
      sent ≡ sent_of (withdrawal_reply entry outcome) → EndsAs before (withdrawal tables (key ∷ [])) after sent
  with_outcome entry outcome sent found has is =
      let comes = comes_withdrawn tables key outcome has.comes in
      let whole : withdrawal tables (key ∷ []) ≡ leaving (tables_after tables outcome) (withdrawal_reply entry outcome) =
      ap (λ (row : Option Entry). withdrawal_by tables row (withdraw_at tables (place_of_hash tables.register (seal_of key) 0))) found ∙ ap (λ (o : Outcome). withdrawal_by tables (Some entry) o) comes in
      subst (λ (serves : Served). EndsAs before serves after sent) (sym whole) (Done is (has.leaves ∙ kept_as before tables (λ t. tables_after t outcome) loaded))

  done_with : (found : Option Entry) (reply : OfficeReply) (sent : Sent) → with_hash tables.register (seal_of key) ≡ found → TellsWithdrawn found (Some sent) → ActsOver tables before (Withdraw key) (Ok reply) after →
      EndsAs before (withdrawal tables (key ∷ [])) after sent
  done_with None reply sent f tells acts = absurd (cc)
  done_with (Some entry) reply sent f tells acts =
      let (change, has) = acts in
      let is : sent ≡ sent_of (told (withdrawn_body entry.id)) = cc in
      with_outcome entry (Replies change (seen_reply reply)) sent f has is

  pub done_ends : (reply : OfficeReply) (sent : Sent) → TellsWithdrawn (with_hash tables.register (seal_of key)) (Some sent) → ActsOver tables before (Withdraw key) (Ok reply) after →
      EndsAs before (withdrawal tables (key ∷ [])) after sent
  done_ends reply sent tells acts = done_with (with_hash tables.register (seal_of key)) reply sent refl tells acts

  stopped_with : (found : Option Entry) (stop : ActStop) (sent : Sent) → with_hash tables.register (seal_of key) ≡ found → TellsWithdrawn found (Some sent) → ActsOver tables before (Withdraw key) (Err stop) after →
      EndsAs before (withdrawal tables (key ∷ [])) after (sent_of (refusal_reply (stop_refusal stop)))
  stopped_with None stop sent f tells acts = absurd (cc)
  stopped_with (Some entry) (act.Refused refusal) sent f tells acts = with_outcome entry (Refuses (seen_refusal refusal)) _ f acts refl
  stopped_with (Some entry) (act.Solve stopped) sent f tells acts = let (ending, is, has) = acts in with_outcome entry (Stops ending) _ f has refl
  stopped_with (Some entry) (act.Unproved verdict) sent f tells acts = let (refusal, is, has) = acts in with_outcome entry (office.Unproved refusal) _ f has refl
  stopped_with (Some entry) act.KeeperFault sent f tells acts = Failed refl acts
  stopped_with (Some entry) act.OutOfMemory sent f tells acts = WantsMemory refl acts

  pub stopped_ends : (stop : ActStop) (sent : Sent) → TellsWithdrawn (with_hash tables.register (seal_of key)) (Some sent) → ActsOver tables before (Withdraw key) (Err stop) after →
      EndsAs before (withdrawal tables (key ∷ [])) after (sent_of (refusal_reply (stop_refusal stop)))
  stopped_ends stop sent tells acts = stopped_with (with_hash tables.register (seal_of key)) stop sent refl tells acts

-- ---- replies that don't change the tables

kept_so : (before : Option Tables) (tables : Tables) → IfSome before (λ kept. tables ≡ kept) → before ≡ option_map (λ t. tables) before
kept_so None tables e = refl
kept_so (Some kept) tables e = ap Some (sym e)

pub left_so : (before : Option Tables) (tables : Tables) (reply : Reply) (sent : Sent) → IfSome before (λ kept. tables ≡ kept) → sent ≡ sent_of reply → EndsAs before (leaving tables reply) before sent
left_so before tables reply sent loaded is = Done is (kept_so before tables loaded)

unknown_with : (before : Option Tables) (tables : Tables) (key : List ℕ) (found : Option Entry) (sent : Sent) → IfSome before (λ kept. tables ≡ kept) → with_hash tables.register (seal_of key) ≡ found → TellsWithdrawn found None →
    sent ≡ sent_of unknown_key → EndsAs before (withdrawal tables (key ∷ [])) before sent
unknown_with before tables key None sent loaded f tells is =
    let whole : withdrawal tables (key ∷ []) ≡ leaving tables unknown_key =
    ap (λ (row : Option Entry). withdrawal_by tables row (withdraw_at tables (place_of_hash tables.register (seal_of key) 0))) f in
    subst (λ (serves : Served). EndsAs before serves before sent) (sym whole) (left_so before tables unknown_key sent loaded is)
unknown_with before tables key (Some entry) sent loaded f tells is = absurd (cc)

-- if no volunteer has the key, a withdrawal with it ends with the reply `unknown_key`, and the tables stay as they are
pub unknown_ends : (before : Option Tables) (tables : Tables) (key : List ℕ) (sent : Sent) → IfSome before (λ kept. tables ≡ kept) → TellsWithdrawn (with_hash tables.register (seal_of key)) None →
    sent ≡ sent_of unknown_key → EndsAs before (withdrawal tables (key ∷ [])) before sent
unknown_ends before tables key sent loaded tells is = unknown_with before tables key (with_hash tables.register (seal_of key)) sent loaded refl tells is

-- ---- replies to requests

module _ (before : Option Tables) (tables : Tables) (request : Request) (loaded : IsLoaded before tables) where
  pub ends_reply : (serves : Served) (after : Option Tables) (sent : Sent) → served tables request ≡ serves → EndsAs before serves after sent → IsReplyTo before request after sent
  ends_reply serves after sent e (Done is leaves) =
      Replied tables loaded (record { replies = is ∙ ap (λ (s : Served). sent_of s.reply) (sym e); leaves = leaves ∙ ap (λ (s : Served). option_map (λ t. s.tables) before) (sym e) })
  ends_reply serves after sent e (Failed is same) = Unavailable is same
  ends_reply serves after sent e (WantsMemory is same) = NoMemory is same

  pub shown_reply : (reply : Reply) (sent : Sent) → served tables request ≡ leaving tables reply → IsSentFor reply sent → IsReplyTo before request before sent
  shown_reply reply sent e (inl is) = ends_reply (leaving tables reply) before sent e (left_so before tables reply sent loaded.same is)
  shown_reply reply sent e (inr is) = NoMemory is refl

-- ---- the reply for each page

is_in_round : (page : ℕ → Page) (number : ℕ) (found : Page) → in_round page number ≡ Some found → page number ≡ found
is_in_round page number found e = by (number == 0) e
  where
    by : (b : Bool) → cond b None (Some (page number)) ≡ Some found → page number ≡ found
    by true e = absurd (cc)
    by false e = cc

no_number : (page : ℕ → Page) (number : ℕ) → in_round page number ≡ None → number ≡ 0
no_number page number e = by (number == 0) refl e
  where
    by : (b : Bool) → (number == 0) ≡ b → cond b None (Some (page number)) ≡ None → number ≡ 0
    by true is e = eqb-true number 0 is
    by false is e = absurd (cc)

module _ (tables : Tables) (request : Request) where
  pub at_bundle : (found : Option SeenPage) (round : ℕ) → option_and_then seen_page found ≡ Some (Bundle round) → served_page tables request found ≡ leaving tables (bundle_reply request (published_of (map published tables.rounds) round))
  at_bundle None round e = absurd (cc)
  at_bundle (Some (BundlePage text)) round e =
      let is : Bundle (round_named text) ≡ Bundle round = is_in_round (λ n. Bundle n) (round_named text) (Bundle round) e in
      let n : round_named text ≡ round = cc in
      ap (λ (k : ℕ). leaving tables (bundle_reply request (published_of (map published tables.rounds) k))) n
  at_bundle (Some (DrawPage text)) round e = let is : Draw (round_named text) ≡ Bundle round = is_in_round (λ n. Draw n) (round_named text) (Bundle round) e in absurd (cc)
  at_bundle (Some AtOwn) round e = absurd (cc)
  at_bundle (Some SeatPage) round e = absurd (cc)
  at_bundle (Some WithdrawalPage) round e = absurd (cc)

  pub at_draw : (found : Option SeenPage) (round : ℕ) → option_and_then seen_page found ≡ Some (Draw round) → served_page tables request found ≡ leaving tables (draw_reply request (published_of (map published tables.rounds) round))
  at_draw None round e = absurd (cc)
  at_draw (Some (BundlePage text)) round e = let is : Bundle (round_named text) ≡ Draw round = is_in_round (λ n. Bundle n) (round_named text) (Draw round) e in absurd (cc)
  at_draw (Some (DrawPage text)) round e =
      let is : Draw (round_named text) ≡ Draw round = is_in_round (λ n. Draw n) (round_named text) (Draw round) e in
      let n : round_named text ≡ round = cc in
      ap (λ (k : ℕ). leaving tables (draw_reply request (published_of (map published tables.rounds) k))) n
  at_draw (Some AtOwn) round e = absurd (cc)
  at_draw (Some SeatPage) round e = absurd (cc)
  at_draw (Some WithdrawalPage) round e = absurd (cc)

  pub at_own : (found : Option SeenPage) (page : OwnPage) → option_and_then seen_page found ≡ Some (Own page) → served_page tables request found ≡ leaving tables (if_by (codes "GET") request (own_reply (body_of page) tables request.keys))
  at_own None page e = absurd (cc)
  at_own (Some (BundlePage text)) page e = let is : Bundle (round_named text) ≡ Own page = is_in_round (λ n. Bundle n) (round_named text) (Own page) e in absurd (cc)
  at_own (Some (DrawPage text)) page e = let is : Draw (round_named text) ≡ Own page = is_in_round (λ n. Draw n) (round_named text) (Own page) e in absurd (cc)
  at_own (Some AtOwn) page e = let is : Standing ≡ page = cc in ap (λ (p : OwnPage). leaving tables (if_by (codes "GET") request (own_reply (body_of p) tables request.keys))) is
  at_own (Some SeatPage) page e = let is : Seat ≡ page = cc in ap (λ (p : OwnPage). leaving tables (if_by (codes "GET") request (own_reply (body_of p) tables request.keys))) is
  at_own (Some WithdrawalPage) page e = absurd (cc)

  pub at_withdrawal : (found : Option SeenPage) → option_and_then seen_page found ≡ Some Withdrawal → served_page tables request found ≡ served_page tables request (Some WithdrawalPage)
  at_withdrawal None e = absurd (cc)
  at_withdrawal (Some (BundlePage text)) e = let is : Bundle (round_named text) ≡ Withdrawal = is_in_round (λ n. Bundle n) (round_named text) Withdrawal e in absurd (cc)
  at_withdrawal (Some (DrawPage text)) e = let is : Draw (round_named text) ≡ Withdrawal = is_in_round (λ n. Draw n) (round_named text) Withdrawal e in absurd (cc)
  at_withdrawal (Some AtOwn) e = absurd (cc)
  at_withdrawal (Some SeatPage) e = absurd (cc)
  at_withdrawal (Some WithdrawalPage) e = refl

  pub at_nothing : (found : Option SeenPage) → option_and_then seen_page found ≡ None → served_page tables request found ≡ leaving tables not_found
  at_nothing None e = refl
  at_nothing (Some (BundlePage text)) e =
      ap (λ (k : ℕ). leaving tables (bundle_reply request (published_of (map published tables.rounds) k))) (no_number (λ n. Bundle n) (round_named text) e)
  at_nothing (Some (DrawPage text)) e =
      ap (λ (k : ℕ). leaving tables (draw_reply request (published_of (map published tables.rounds) k))) (no_number (λ n. Draw n) (round_named text) e)
  at_nothing (Some AtOwn) e = absurd (cc)
  at_nothing (Some SeatPage) e = absurd (cc)
  at_nothing (Some WithdrawalPage) e = absurd (cc)

-- ---- counts of faults

pub stopped_faults : (tables : Tables) (key : List ℕ) (old new : Course) (before now : ℕ) (stop : ActStop) → ActFault before now (Err stop) →
    FailsInOrderOver tables (Withdraw key) (Err stop) old new → HasFault (FailsAtStore tables (Withdraw key) old new) before now (refusal_reply (stop_refusal stop)).status
stopped_faults tables key old new before now (act.Refused refusal) h order = h
stopped_faults tables key old new before now (act.Solve stopped) h order = h
stopped_faults tables key old new before now (act.Unproved verdict) h order = h
stopped_faults tables key old new before now act.KeeperFault (up, rose) order = (up, rose, order)
stopped_faults tables key old new before now act.OutOfMemory h order = h

pub told_faults : (Why : Type 0) (before now : ℕ) (found : Option Entry) (sent : Sent) → TellsWithdrawn found (Some sent) → now ≡ before → HasFault Why before now sent.status
told_faults Why before now None sent tells h = absurd (cc)
told_faults Why before now (Some entry) sent tells h =
    let is : sent ≡ sent_of (told (withdrawn_body entry.id)) = cc in
    subst (λ (s : Sent). HasFault Why before now s.status) (sym is) h

-- if the tables were loaded, and the keeper failed over them in its order, it failed in its order
pub loaded_faults : (told : Option Tables) (tables : Tables) (keys : List (List ℕ)) (old loaded new : Course) (before now_loaded now status : ℕ) → IsLoaded told tables →
    loaded ≡ with_call old (Load None) → now_loaded ≡ before → HasFault (FailsToStore tables keys loaded new) now_loaded now status → HasFault (FailsInTurn told keys old new) before now status
loaded_faults told tables keys old loaded new before now_loaded now status is course none fault =
    because _ _ (status == 503) before now (λ fails. ToStore tables is (subst (λ (c : Course). FailsToStore tables keys c new) course fails))
    (subst (λ (count : ℕ). HasFault (FailsToStore tables keys loaded new) count now status) none fault)

-- if the tables could not be loaded, the keeper failed in its order
pub load_faults : (told : Option Tables) (keys : List (List ℕ)) (old new : Course) (before now : ℕ) (sent : Sent) → HasCause {T = Tables} before now (Err keeper.Failed) →
    new ≡ with_call old (Load (Some keeper.Failed)) → sent ≡ sent_of unavailable → HasFault (FailsInTurn told keys old new) before now sent.status
load_faults told keys old new before now sent (up, rose) course is =
    subst (λ (s : Sent). HasFault (FailsInTurn told keys old new) before now s.status) (sym is) (up, rose, ToLoad course)
