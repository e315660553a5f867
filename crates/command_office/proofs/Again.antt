-- A command that is given again changes nothing.
use Rattle.std.proofs.Common.{◌≡◌, ◌∙◌, ◌+◌, ℕ, Bool, true, false, cond, List, [], ◌∷◌, Option, Some, None, refl, ap, sym, subst}
use Rattle.std.specs.Prelude.{codes, option_map, bytes_eq}
use Rattle.std.specs.List.{AllByRecursion}
use Rattle.std.proofs.lemmas.Slice.Eq.{bytes_eq-Decides}
use Rattle.define_desk.specs.Desk.{Served, WithdrawalPage, leaving, page_of, served, served_page, withdrawal, withdrawal_by, withdrawn_body}
use Rattle.define_desk.specs.Replies.{not_allowed, told}
use Rattle.define_desk.specs.Requests.{Request}
use Rattle.define_draws.specs.Seal.{seal_of}
use Rattle.define_offices.specs.Commands.{Change, Command, Draw, Drop, Keep, NextRound, Outcome, Refuses, Register, Reopen, Reopened, Replies, Reply, Seal, SetBounds, SetCharter, SetRules, Show, Solve, Stops, TakenBack, TryDraw, Undrop, Unproved, Withdraw, WithdrawId}
use Rattle.define_offices.specs.Deciding.{IsDecided, asked, place_of_hash, with_hash, withdraw_at}
use Rattle.define_offices.specs.Facts.{IsCommand, IsTables}
use Rattle.define_offices.specs.Repeats.{BoundsAgain, CharterAgain, IsRepeatable, LeadThroughSparing, ReopenAgain, RepeatsChangeNothing as OthersAgain, RulesAgain, SparedRepeatsChangeNothing as SparedAgain, TakesNothingBack, UndropAgain, reply_again, takes_back, undoes}
use Rattle.define_offices.specs.Steps.{AtOnce, ByRun, Comes, LeadThrough, applied, apply, tables_after}
use Rattle.define_offices.specs.Tables.{Entry, Tables}
use Rattle.define_offices.proofs.Later.{RowsStay, through_extends}
use Rattle.define_offices.proofs.Steps.{one_outcome}
use Rattle.command_office.specs.Again.{HasOutcome, MayComeAgain, RepeatsChangeNothing, replied_again}

has_outcome : (tables : Tables) (command : Command) (outcome : Outcome) → Comes tables command outcome → HasOutcome tables command outcome
has_outcome tables command outcome comes = record { comes = comes; only = λ other also. one_outcome tables command other outcome also comes }

-- ---- commands

module _ (charters : CharterAgain) (rules_again : RulesAgain) (bounds_again : BoundsAgain) (before : Tables) (reply : Reply) (between : List Command) (later : Tables) (keeps : IsTables before) where
  -- A command is given again: at once, or when it has its reply again.
  given_again : (command : Command) (change : Option Change) → IsCommand command → Comes before command (Replies change reply) → (between ≡ [] → later ≡ applied before change) →
      ((made : Change) → change ≡ Some made → IsRepeatable command → asked later command ≡ IsDecided (Replies None (reply_again later command reply))) → MayComeAgain command change between →
      HasOutcome later command (Replies None (replied_again later command reply))
  given_again (SetCharter charter) change fits comes at_once again may =
      has_outcome later (SetCharter charter) _ (AtOnce (ap (λ t. asked t (SetCharter charter)) (at_once may) ∙ charters before charter change reply comes))
  given_again (SetRules rules) change fits comes at_once again may =
      has_outcome later (SetRules rules) _ (AtOnce (ap (λ t. asked t (SetRules rules)) (at_once may) ∙ rules_again before rules change reply comes))
  given_again (SetBounds number bounds) change fits comes at_once again may =
      has_outcome later (SetBounds number bounds) _ (AtOnce (ap (λ t. asked t (SetBounds number bounds)) (at_once may) ∙ bounds_again before number bounds change reply keeps fits comes))
  given_again (Register rows) None fits comes at_once again may = absurd (may refl)
  given_again (Register rows) (Some change) fits comes at_once again may = has_outcome later (Register rows) _ (AtOnce (again change refl tt))
  given_again (Solve number limits) None fits comes at_once again may = absurd (may refl)
  given_again (Solve number limits) (Some change) fits comes at_once again may = has_outcome later (Solve number limits) _ (AtOnce (again change refl tt))
  given_again (Keep number proof) None fits comes at_once again may = absurd (may refl)
  given_again (Keep number proof) (Some change) fits comes at_once again may = has_outcome later (Keep number proof) _ (AtOnce (again change refl tt))
  given_again (Seal number tickets) None fits comes at_once again may = absurd (may refl)
  given_again (Seal number tickets) (Some change) fits comes at_once again may = has_outcome later (Seal number tickets) _ (AtOnce (again change refl tt))
  given_again (Draw number given digits) None fits comes at_once again may = absurd (may refl)
  given_again (Draw number given digits) (Some change) fits comes at_once again may = has_outcome later (Draw number given digits) _ (AtOnce (again change refl tt))
  given_again (Drop number id) None fits comes at_once again may = absurd (may refl)
  given_again (Drop number id) (Some change) fits comes at_once again may = has_outcome later (Drop number id) _ (AtOnce (again change refl tt))
  given_again (NextRound after) None fits comes at_once again may = absurd (may refl)
  given_again (NextRound after) (Some change) fits comes at_once again may = has_outcome later (NextRound after) _ (AtOnce (again change refl tt))
  given_again (Show number) None fits comes at_once again may = absurd (may refl)
  given_again (Show number) (Some change) fits comes at_once again may = has_outcome later (Show number) _ (AtOnce (again change refl tt))
  given_again (Withdraw key) None fits comes at_once again may = absurd (may refl)
  given_again (Withdraw key) (Some change) fits comes at_once again may = has_outcome later (Withdraw key) _ (AtOnce (again change refl tt))
  given_again (TryDraw number given digits) None fits comes at_once again may = absurd (may refl)
  given_again (TryDraw number given digits) (Some change) fits comes at_once again may = has_outcome later (TryDraw number given digits) _ (AtOnce (again change refl tt))
  given_again (WithdrawId id) None fits comes at_once again may = absurd (may refl)
  given_again (WithdrawId id) (Some change) fits comes at_once again may = has_outcome later (WithdrawId id) _ (AtOnce (again change refl tt))
  given_again (Undrop number id) change fits comes at_once again may = absurd may
  given_again (Reopen number) change fits comes at_once again may = absurd may

  -- after commands that take no change back
  pub after_others : OthersAgain → AllByRecursion IsCommand between → AllByRecursion TakesNothingBack between → (command : Command) (change : Option Change) → IsCommand command →
      Comes before command (Replies change reply) → LeadThrough (applied before change) between later → MayComeAgain command change between →
      HasOutcome later command (Replies None (replied_again later command reply))
  after_others others are back command change fits comes leads may =
      given_again command change fits comes (λ none. subst (λ commands. LeadThrough (applied before change) commands later) none leads)
      (λ made is repeatable. others before command made reply between later repeatable keeps fits are back (subst (λ c. Comes before command (Replies c reply)) is comes)
      (subst (λ c. LeadThrough (applied before c) between later) is leads)) may

  -- after any commands of which none took the change back
  pub after_spared : SparedAgain → AllByRecursion IsCommand between → (command : Command) (change : Option Change) → IsCommand command → Comes before command (Replies change reply) →
      LeadThroughSparing command (applied before change) between later → MayComeAgain command change between → HasOutcome later command (Replies None (replied_again later command reply))
  after_spared spared are command change fits comes leads may =
      given_again command change fits comes (λ none. subst (λ commands. LeadThroughSparing command (applied before change) commands later) none leads)
      (λ made is repeatable. spared before command made reply between later repeatable keeps fits are (subst (λ c. Comes before command (Replies c reply)) is comes)
      (subst (λ c. LeadThroughSparing command (applied before c) between later) is leads)) may

-- a command that left the tables as they were has the same outcome again
same_again : (before : Tables) (command : Command) (outcome : Outcome) → Comes before command outcome → tables_after before outcome ≡ before → HasOutcome (tables_after before outcome) command outcome
same_again before command outcome comes same = subst (λ t. HasOutcome t command outcome) (sym same) (has_outcome before command outcome comes)

-- ---- the withdrawal at the desk

-- no change takes a withdrawal back
not_undone : (key : List ℕ) (change : Change) → undoes change (Withdraw key) ≡ false
not_undone key (TakenBack round id) = refl
not_undone key (Reopened round) = refl
not_undone key other = refl

never_taken : (key : List ℕ) (outcome : Outcome) → takes_back outcome (Withdraw key) ≡ false
never_taken key (Replies None reply) = refl
never_taken key (Replies (Some change) reply) = not_undone key change
never_taken key (Refuses refusal) = refl
never_taken key (Stops ending) = refl
never_taken key (Unproved refusal) = refl

spares_withdrawal : (key : List ℕ) (before : Tables) (commands : List Command) (after : Tables) → LeadThrough before commands after → LeadThroughSparing (Withdraw key) before commands after
spares_withdrawal key before [] after leads = leads
spares_withdrawal key before (command ∷ later) after (next, (step, rest)) =
    (next, (record { leads = step; spares = never_taken key step.outcome }, spares_withdrawal key next later after rest))

-- the row with the key's digest in later tables
record OwnLater (register : List Entry) (hash : List ℕ) (entry : Entry) : Type 0 where
  later : Entry
  there : with_hash register hash ≡ Some later
  id : entry.id ≡ later.id

own_later : (old new : List Entry) (hash : List ℕ) (entry : Entry) → RowsStay old new → with_hash old hash ≡ Some entry → OwnLater new hash entry
own_later [] new hash entry stay h = absurd (cc)
own_later (e ∷ old) [] hash entry stay h = absurd stay
own_later (e ∷ old) (f ∷ new) hash entry stay h = by (bytes_eq hash e.hash) refl h (λ k. own_later old new hash entry stay.1 k)
  where
    by : (b : Bool) → bytes_eq hash e.hash ≡ b → cond b (Some e) (with_hash old hash) ≡ Some entry → (with_hash old hash ≡ Some entry → OwnLater new hash entry) → OwnLater (f ∷ new) hash entry
    by true eq k again =
        let same : e ≡ entry = cc in
        let test : bytes_eq hash f.hash ≡ true = subst (λ i. bytes_eq hash i ≡ true) stay.0.hash eq in
        record { later = f; there = rw test refl; id = sym (ap (λ (x : Entry). x.id) same) ∙ stay.0.id }
    by false eq k again =
        let rest = again k in
        let test : bytes_eq hash f.hash ≡ false = subst (λ i. bytes_eq hash i ≡ false) stay.0.hash eq in
        record { later = rest.later; there = rw test rest.there; id = rest.id }

-- what the desk serves for a withdrawal with one key
served_for : (tables : Tables) (request : Request) (key : List ℕ) → page_of request.path ≡ Some WithdrawalPage → request.method ≡ codes "POST" → request.keys ≡ key ∷ [] →
    served tables request ≡ withdrawal_by tables (with_hash tables.register (seal_of key)) (withdraw_at tables (place_of_hash tables.register (seal_of key) 0))
served_for tables request key page method keys =
    let post : bytes_eq request.method (codes "POST") ≡ true = (bytes_eq-Decides request.method (codes "POST")).1 method in
    ap (served_page tables request) page ∙ (ap (λ test. cond test (withdrawal tables request.keys) (leaving tables (not_allowed (codes "POST")))) post ∙ ap (withdrawal tables) keys)

-- looking for a key's row with or without its place finds the same row
row_with : (register : List Entry) (hash : List ℕ) (start : ℕ) → with_hash register hash ≡ option_map (λ (found : ℕ × Entry). found.1) (place_of_hash register hash start)
row_with [] hash start = refl
row_with (entry ∷ register) hash start = by (bytes_eq hash entry.hash) (row_with register hash (start + 1))
  where
    by : (b : Bool) → with_hash register hash ≡ option_map (λ (found : ℕ × Entry). found.1) (place_of_hash register hash (start + 1)) →
        cond b (Some entry) (with_hash register hash) ≡ option_map (λ (found : ℕ × Entry). found.1) (cond b (Some (start, entry)) (place_of_hash register hash (start + 1)))
    by true e = refl
    by false e = e

-- a withdrawal that is answered is that of a row
record HasRow (tables : Tables) (hash : List ℕ) : Type 0 where
  entry : Entry
  there : with_hash tables.register hash ≡ Some entry

row_there : (tables : Tables) (hash : List ℕ) (change : Option Change) (reply : Reply) (found : Option (ℕ × Entry)) → place_of_hash tables.register hash 0 ≡ found → withdraw_at tables found ≡ Replies change reply → HasRow tables hash
row_there tables hash change reply None at h = absurd (cc)
row_there tables hash change reply (Some (place, entry)) at h = record { entry = entry; there = row_with tables.register hash 0 ∙ ap (option_map (λ (found : ℕ × Entry). found.1)) at }

replies_so : (one other : Outcome) → IsDecided one ≡ IsDecided other → one ≡ other
replies_so one other h = cc

withdraw_decided : (tables : Tables) (key : List ℕ) (outcome : Outcome) → Comes tables (Withdraw key) outcome → withdraw_at tables (place_of_hash tables.register (seal_of key) 0) ≡ outcome
withdraw_decided tables key outcome (AtOnce h) = replies_so _ outcome h
withdraw_decided tables key outcome (ByRun number limits pool ending same needs ends comes) = absurd (cc)

served_again : SparedAgain → (before : Tables) (key : List ℕ) (change : Change) (reply : Reply) (between : List Command) (later : Tables) → IsTables before → AllByRecursion IsCommand between →
    Comes before (Withdraw key) (Replies (Some change) reply) → LeadThrough (apply before change) between later →
    (request : Request) → page_of request.path ≡ Some WithdrawalPage → request.method ≡ codes "POST" → request.keys ≡ key ∷ [] → served later request ≡ leaving later (served before request).reply
served_again spared before key change reply between later keeps are comes leads request page method keys =
    let first = withdraw_decided before key (Replies (Some change) reply) comes in
    let again = replies_so _ (Replies None reply) (spared before (Withdraw key) change reply between later tt keeps tt are comes (spares_withdrawal key (apply before change) between later leads)) in
    let row = row_there before (seal_of key) (Some change) reply (place_of_hash before.register (seal_of key) 0) refl first in
    let grown = through_extends before (Withdraw key ∷ between) later (apply before change, (record { outcome = Replies (Some change) reply; comes = comes; leaves = refl }, leads)) in
    let own = own_later before.register later.register (seal_of key) row.entry grown.rows row.there in
    let one : served before request ≡ leaving (apply before change) (told (withdrawn_body row.entry.id)) =
    served_for before request key page method keys ∙ (ap (λ found. withdrawal_by before found (withdraw_at before (place_of_hash before.register (seal_of key) 0))) row.there ∙ ap (withdrawal_by before (Some row.entry)) first) in
    let two : served later request ≡ leaving later (told (withdrawn_body own.later.id)) =
    served_for later request key page method keys ∙ (ap (λ found. withdrawal_by later found (withdraw_at later (place_of_hash later.register (seal_of key) 0))) own.there ∙ ap (withdrawal_by later (Some own.later)) again) in
    two ∙ ap (leaving later) (ap (λ id. told (withdrawn_body id)) (sym own.id) ∙ sym (ap (λ (s : Served). s.reply) one))

pub repeats_change_nothing : CharterAgain → RulesAgain → BoundsAgain → OthersAgain → SparedAgain → UndropAgain → ReopenAgain → RepeatsChangeNothing
repeats_change_nothing charters rules bounds others spared undrop reopen = record {
  replies = λ before command change reply between later keeps fits are back comes leads may.
      after_others charters rules bounds before reply between later keeps others are back command change fits comes leads may;
  spared = λ before command change reply between later keeps fits are comes leads may.
      after_spared charters rules bounds before reply between later keeps spared are command change fits comes leads may;
  undrop = undrop;
  reopen = reopen;
  others = same_again;
  withdrawal = served_again spared;
}
