-- What is known of the tables and the command where the reply comes with a change.
use Rattle.std.proofs.Common.{◌≡◌, ℕ, ◌+◌, Bool, true, false, cond, eqb, not, ◌&&◌, List, [], ◌∷◌, length, Option, Some, None, Result, Ok, Err, refl, subst}
use Rattle.std.specs.List.{list_all}
use Rattle.std.specs.Str.{bytes_eq}
use Rattle.std.proofs.lemmas.Bool.{eqb-true}
use Rattle.define_pools.specs.Lists.{includes_list}
use Rattle.define_pools.specs.Pool.{Category, Pool}
use Rattle.define_bundles.specs.BundleText.{Bundle}
use Rattle.define_draws.specs.Draw as draws
use Rattle.define_draws.specs.Draw.{draw}
use Rattle.define_draws.specs.Lines.{bundle_seal}
use Rattle.define_draws.specs.Seal.{is_seal, seal_of}
use Rattle.define_offices.specs.Tables.{Charter, Entry, Round, Open, Solved, Sealed, Drawn, Tables, is_enrolling, most_rows, named_round}
use Rattle.define_offices.specs.Commands.{Command, SetCharter, SetRules, Register, Solve, Keep, Seal, Draw, Drop, NextRound, Show, Withdraw, SetBounds, TryDraw, Undrop, Reopen, WithdrawId, Given, Change, CharterSet, RulesSet, Added, SolvedWith, SealTold, DrawnWith, DroppedOut, Begun, Withdrawn, BoundsSet, TakenBack, Reopened, Replies, Refuses, Refusal, Reply, Lines}
use Rattle.define_offices.specs.Deciding.{Answered, Finds, FindsNone, IsDecided, NeedsRun, Sorted, addition, answered, are_rules_kept, asked, decide_charter, decide_rules, draw_in, drawn_ids, drop_in, fit_rows, fits_rules, is_charter_kept, is_last_open, is_seated_in, is_withdrawn, new_draw, next_after, next_in, place_of_hash, place_of_id, register_by, registered, row_beyond, seal_in, sorted_rows, tells, undrop_in, with_id, withdraw_at, withdraw_id_at, withdraw_row}
use Rattle.define_offices.specs.Facts.{IsCommand, IsTables}
use Rattle.define_offices.specs.Lines.{round_line}
use Rattle.define_offices.specs.Pools.{drawn_lottery, pool_of}
use Rattle.define_offices.specs.Steps.{AtOnce, ByRun, Comes}
use Rattle.define_offices.proofs.Again.{TakesAway, bounds_set, rules_set_or_same, says, set_or_same, show_changes_nothing, takes_away, takes_so, tried_changes_nothing}
use Rattle.define_offices.proofs.Repeats.{dropped_so, same_draw_changes_nothing, same_seal_changes_nothing}
use Rattle.define_offices.proofs.RowsAgain.{withdrawal}
use Rattle.define_offices.proofs.Steps.{Answers, IsOpenRound, Leaves, Settles, proof_settles, solve_settles}

-- the round with `number` has an answer that is not sealed
pub record IsAnswered (tables : Tables) (number : ℕ) : Type 0 where
  pub bundle : Bundle
  pub there : named_round tables.rounds number ≡ Some (Solved bundle)

-- the command begins the round after the last, which is drawn
pub record IsNext (tables : Tables) (command : Command) : Type 0 where
  pub number : ℕ
  pub bundle : Bundle
  pub tickets : Option ℕ
  pub digits : List ℕ
  pub dropped : List (List ℕ)
  pub is : command ≡ NextRound number
  pub last : number ≡ length tables.rounds
  pub there : named_round tables.rounds number ≡ Some (Drawn bundle tickets digits dropped)

-- the command sets bounds for an open round
pub record IsForOpen (tables : Tables) (command : Command) (bounds : List Category) : Type 0 where
  pub number : ℕ
  pub is : command ≡ SetBounds number bounds
  pub there : named_round tables.rounds number ≡ Some Open

-- the command takes the last round away
pub record IsReopening (tables : Tables) (command : Command) (number : ℕ) : Type 0 where
  pub is : command ≡ Reopen number
  pub last : number ≡ length tables.rounds

-- what is known of the tables and the command if the command makes this change
abbrev pub Fits : Tables → Command → Change → Type 0
Fits tables command (CharterSet charter) = Unit {0}
Fits tables command (RulesSet rules) = command ≡ SetRules rules
Fits tables command (Added entries) = Unit {0}
Fits tables command (SolvedWith number bundle) = IsOpenRound tables number bundle.pool
Fits tables command (SealTold number tickets) = IsAnswered tables number
Fits tables command (DrawnWith number digits) = Unit {0}
Fits tables command (DroppedOut number id) = Unit {0}
Fits tables command Begun = IsNext tables command
Fits tables command (Withdrawn place) = Unit {0}
Fits tables command (BoundsSet bounds) = IsForOpen tables command bounds
Fits tables command (TakenBack number id) = Unit {0}
Fits tables command (Reopened number) = IsReopening tables command number

module _ (tables : Tables) (change : Change) (reply : Reply) where
  -- what is known if `command` makes the change
  abbrev Known : Command → Type 0
  Known command = Fits tables command change

  charter_fits : (charter : Charter) (kept : Bool) → is_charter_kept tables.charter charter ≡ kept → decide_charter tables charter ≡ Replies (Some change) reply → Known (SetCharter charter)
  charter_fits charter true e h =
      absurd (let none = (set_or_same (is_charter_kept tables.charter charter) (is_enrolling tables.rounds) charter (row_beyond tables.register charter.volunteers) _ _ (Some change) reply h).0 e in cc)
  charter_fits charter false e h =
      let some = (set_or_same (is_charter_kept tables.charter charter) (is_enrolling tables.rounds) charter (row_beyond tables.register charter.volunteers) _ _ (Some change) reply h).1 e in
      let is : CharterSet charter ≡ change = cc in
      subst (Fits tables (SetCharter charter)) is tt

  rules_fit : (rules : List Category) (kept : Bool) → are_rules_kept tables.rules rules ≡ kept → decide_rules tables rules ≡ Replies (Some change) reply → Known (SetRules rules)
  rules_fit rules true e h =
      absurd (let none = (rules_set_or_same (are_rules_kept tables.rules rules) (is_enrolling tables.rounds) (fit_rows tables.register tables.rules rules) (RulesSet rules) _ _ _ _ (Some change) reply h).0 e in cc)
  rules_fit rules false e h =
      let some = (rules_set_or_same (are_rules_kept tables.rules rules) (is_enrolling tables.rounds) (fit_rows tables.register tables.rules rules) (RulesSet rules) _ _ _ _ (Some change) reply h).1 e in
      let is : RulesSet rules ≡ change = cc in
      subst (Fits tables (SetRules rules)) is refl

  added_fits : (command : Command) (added : List Entry) → addition added ≡ Some change → Known command
  added_fits command [] h = absurd (cc)
  added_fits command (entry ∷ added) h = let is : Added (entry ∷ added) ≡ change = cc in subst (Fits tables command) is tt

  registered_fits : (command : Command) (result : Result Sorted Refusal) → registered tables result ≡ Replies (Some change) reply → Known command
  registered_fits command (Err refusal) h = absurd (cc)
  registered_fits command (Ok sorted) h = added_fits command sorted.added (cc)

  checked_fits : (command : Command) (fits : Bool) (result : Result Sorted Refusal) (refusal : Refusal) → cond fits (registered tables result) (Refuses refusal) ≡ Replies (Some change) reply → Known command
  checked_fits command true result refusal h = registered_fits command result h
  checked_fits command false result refusal h = absurd (cc)

  register_fits : (command : Command) (rows : List Given) (rules : Option (List Category)) → register_by tables rows rules ≡ Replies (Some change) reply → Known command
  register_fits command rows None h = absurd (cc)
  register_fits command rows (Some categories) h = checked_fits command (list_all (λ (g : Given). fits_rules categories g.values) rows) (sorted_rows (most_rows tables.charter) tables.rounds tables.register rows) _ h

  answered_fits : (command : Command) (number : ℕ) (pool : Pool) (found : Answered) → IsOpenRound tables number pool → Replies (Some change) reply ≡ answered number pool found → Known command
  answered_fits command number pool FindsNone open_round h = absurd (cc)
  answered_fits command number pool (Finds answer) open_round h =
      let bundle : Bundle = record { pool = pool; answer = answer } in
      let is : SolvedWith number bundle ≡ change = cc in
      subst (Fits tables command) is open_round

  settled_fits : (command : Command) (number : ℕ) → Settles tables number (Replies (Some change) reply) → Known command
  settled_fits command number (Leaves stays) = absurd stays
  settled_fits command number (Answers pool found open_round right is) = answered_fits command number pool found open_round is

  seal_fits : (command : Command) (number : ℕ) (given : Option ℕ) (found : Option Round) → named_round tables.rounds number ≡ found → seal_in tables number given found ≡ Replies (Some change) reply → Known command
  seal_fits command number given None at h = absurd (cc)
  seal_fits command number given (Some Open) at h = absurd (cc)
  seal_fits command number given (Some (Solved bundle)) at h =
      let is : SealTold number given ≡ change = cc in
      subst (Fits tables command) is (record { bundle = bundle; there = at })
  seal_fits command number given (Some (Sealed bundle tickets)) at h = absurd (same_seal_changes_nothing tables tables bundle tickets given change reply h)
  seal_fits command number given (Some (Drawn bundle tickets digits dropped)) at h = absurd (same_seal_changes_nothing tables tables bundle tickets given change reply h)

  new_draw_fits : (command : Command) (number : ℕ) (given digits : List ℕ) (bundle : Bundle) (result : Result draws.Drawn draws.Refused) → new_draw number bundle given digits result ≡ Replies (Some change) reply → Known command
  new_draw_fits command number given digits bundle (Err refused) h = absurd (cc)
  new_draw_fits command number given digits bundle (Ok drawn) h = let is : DrawnWith number digits ≡ change = cc in subst (Fits tables command) is tt

  draw_fits : (command : Command) (number : ℕ) (given digits : List ℕ) (found : Option Round) → draw_in tables number given digits found ≡ Replies (Some change) reply → Known command
  draw_fits command number given digits None h = absurd (cc)
  draw_fits command number given digits (Some Open) h = absurd (cc)
  draw_fits command number given digits (Some (Solved bundle)) h = absurd (cc)
  draw_fits command number given digits (Some (Sealed bundle tickets)) h = new_draw_fits command number given digits bundle (draw (drawn_lottery bundle tickets) (bundle_seal bundle) given digits) h
  draw_fits command number given digits (Some (Drawn bundle tickets kept dropped)) h =
      absurd (same_draw_changes_nothing tables tables bundle kept given digits change reply (not (is_seal (bundle_seal bundle) given)) (bytes_eq kept digits) _ _ _ h)

  drop_fits : (command : Command) (number : ℕ) (id : List ℕ) (found : Option Round) → drop_in tables number id found ≡ Replies (Some change) reply → Known command
  drop_fits command number id None h = absurd (cc)
  drop_fits command number id (Some Open) h = absurd (cc)
  drop_fits command number id (Some (Solved bundle)) h = absurd (cc)
  drop_fits command number id (Some (Sealed bundle tickets)) h = absurd (cc)
  drop_fits command number id (Some (Drawn bundle tickets digits dropped)) h =
      let so = dropped_so tables tables number id bundle tickets digits change reply (includes_list (drawn_ids bundle tickets digits) id) (includes_list dropped id) (eqb number (length tables.rounds)) _ _ refl h in
      subst (Fits tables command) so.same tt

  next_by : (number : ℕ) (round : Round) → named_round tables.rounds number ≡ Some round → (last : Bool) → eqb number (length tables.rounds) ≡ last →
      cond last (next_after number round) (tells (round_line (number + 1))) ≡ Replies (Some change) reply → Known (NextRound number)
  next_by number round at false e h = absurd (cc)
  next_by number Open at true e h = absurd (cc)
  next_by number (Solved bundle) at true e h = absurd (cc)
  next_by number (Sealed bundle tickets) at true e h = absurd (cc)
  next_by number (Drawn bundle tickets digits []) at true e h = absurd (cc)
  next_by number (Drawn bundle tickets digits (id ∷ dropped)) at true e h =
      let is : Begun ≡ change = cc in
      let next : IsNext tables (NextRound number) = record {
        number = number;
        bundle = bundle;
        tickets = tickets;
        digits = digits;
        dropped = id ∷ dropped;
        is = refl;
        last = eqb-true number (length tables.rounds) e;
        there = at;
      } in
      subst (Fits tables (NextRound number)) is next

  next_fits : (number : ℕ) (found : Option Round) → named_round tables.rounds number ≡ found → next_in tables number found ≡ Replies (Some change) reply → Known (NextRound number)
  next_fits number None at h = absurd (cc)
  next_fits number (Some round) at h = next_by number round at (eqb number (length tables.rounds)) refl h

  row_fits : (command : Command) (told : Reply) (place : ℕ) (entry : Entry) → withdraw_row tables told place entry ≡ Replies (Some change) reply → Known command
  row_fits command told place entry h =
      let is = withdrawal place change told reply entry.withdrawn (is_last_open tables.rounds && not (is_seated_in (pool_of tables (length tables.rounds)) place)) h in
      subst (Fits tables command) is.0 tt

  withdraw_fits : (command : Command) (found : Option (ℕ × Entry)) → withdraw_at tables found ≡ Replies (Some change) reply → Known command
  withdraw_fits command None h = absurd (cc)
  withdraw_fits command (Some (place, entry)) h = row_fits command (Lines []) place entry h

  withdraw_id_fits : (command : Command) (id : List ℕ) (found : Option (ℕ × Entry)) → withdraw_id_at tables id found ≡ Replies (Some change) reply → Known command
  withdraw_id_fits command id None h = absurd (cc)
  withdraw_id_fits command id (Some (place, entry)) h = row_fits command _ place entry h

  bounds_fit : (number : ℕ) (bounds : List Category) → asked tables (SetBounds number bounds) ≡ IsDecided (Replies (Some change) reply) → Known (SetBounds number bounds)
  bounds_fit number bounds h =
      let sets = bounds_set tables number bounds change reply (pool_of tables number) (named_round tables.rounds number) refl refl (says _ _ h) in
      let known : IsForOpen tables (SetBounds number bounds) bounds = record { number = number; is = refl; there = sets.open_now } in
      subst (Fits tables (SetBounds number bounds)) sets.is known

  undrop_fits : (command : Command) (number : ℕ) (id : List ℕ) (found : Option Round) → undrop_in tables number id found ≡ Replies (Some change) reply → Known command
  undrop_fits command number id None h = absurd (cc)
  undrop_fits command number id (Some Open) h = absurd (cc)
  undrop_fits command number id (Some (Solved bundle)) h = absurd (cc)
  undrop_fits command number id (Some (Sealed bundle tickets)) h = absurd (cc)
  undrop_fits command number id (Some (Drawn bundle tickets digits dropped)) h =
      let so = takes_so tables number id dropped (Some change) reply (includes_list dropped id) (is_withdrawn (with_id tables.register id)) (eqb number (length tables.rounds)) _ _ _ _ refl h in
      let is : TakenBack number id ≡ change = let e = so.is in cc in
      subst (Fits tables command) is tt

  reopen_fits : (number : ℕ) → TakesAway tables number (Some change) → Known (Reopen number)
  reopen_fits number so =
      let is : Reopened number ≡ change = let e = so.is in cc in
      let known : IsReopening tables (Reopen number) number = record { is = refl; last = so.last } in
      subst (Fits tables (Reopen number)) is known

  at_once_fits : IsTables tables → (command : Command) → IsCommand command → asked tables command ≡ IsDecided (Replies (Some change) reply) → Known command
  at_once_fits keeps (SetCharter charter) is h = charter_fits charter (is_charter_kept tables.charter charter) refl (says _ _ h)
  at_once_fits keeps (SetRules rules) is h = rules_fit rules (are_rules_kept tables.rules rules) refl (says _ _ h)
  at_once_fits keeps (Register rows) is h = register_fits (Register rows) rows tables.rules (says _ _ h)
  at_once_fits keeps (Solve number limits) is h = settled_fits (Solve number limits) number (solve_settles tables keeps number limits (Replies (Some change) reply) is (AtOnce h))
  at_once_fits keeps (Keep number proof) is h = settled_fits (Keep number proof) number (proof_settles tables keeps number proof (Replies (Some change) reply) is (AtOnce h))
  at_once_fits keeps (Seal number tickets) is h = seal_fits (Seal number tickets) number tickets (named_round tables.rounds number) refl (says _ _ h)
  at_once_fits keeps (Draw number given digits) is h = draw_fits (Draw number given digits) number given digits (named_round tables.rounds number) (says _ _ h)
  at_once_fits keeps (Drop number id) is h = drop_fits (Drop number id) number id (named_round tables.rounds number) (says _ _ h)
  at_once_fits keeps (NextRound after) is h = next_fits after (named_round tables.rounds after) refl (says _ _ h)
  at_once_fits keeps (Show number) is h = absurd (show_changes_nothing tables (named_round tables.rounds number) change reply (says _ _ h))
  at_once_fits keeps (Withdraw key) is h = withdraw_fits (Withdraw key) (place_of_hash tables.register (seal_of key) 0) (says _ _ h)
  at_once_fits keeps (SetBounds number bounds) is h = bounds_fit number bounds h
  at_once_fits keeps (TryDraw number given digits) is h = absurd (tried_changes_nothing (draw_in tables number given digits (named_round tables.rounds number)) change reply (says _ _ h))
  at_once_fits keeps (Undrop number id) is h = undrop_fits (Undrop number id) number id (named_round tables.rounds number) (says _ _ h)
  at_once_fits keeps (Reopen number) is h = reopen_fits number (takes_away tables number (Some change) reply (named_round tables.rounds number) refl (says _ _ h))
  at_once_fits keeps (WithdrawId id) is h = withdraw_id_fits (WithdrawId id) id (place_of_id tables.register id 0) (says _ _ h)

  pub changes_fit : IsTables tables → (command : Command) → IsCommand command → Comes tables command (Replies (Some change) reply) → Fits tables command change
  changes_fit keeps command is (AtOnce h) = at_once_fits keeps command is h
  changes_fit keeps command is (ByRun number limits pool ending same needs ends comes) =
      settled_fits command number
      (solve_settles tables keeps number limits (Replies (Some change) reply) (subst IsCommand same is) (ByRun number limits pool ending refl (subst (λ c. asked tables c ≡ NeedsRun pool) same needs) ends comes))
