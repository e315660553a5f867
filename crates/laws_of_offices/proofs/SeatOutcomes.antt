-- Each change that an outcome of a command brings is one that `MayChange` allows.
use Rattle.std.proofs.Common.{◌≡◌, ℕ, Bool, true, false, cond, eqb, not, ◌&&◌, List, [], ◌∷◌, length, Option, Some, None, Result, Ok, Err, refl, sym, subst}
use Rattle.std.specs.List.{list_all}
use Rattle.std.specs.Str.{bytes_eq}
use Rattle.define_pools.specs.Lists.{includes_list}
use Rattle.define_pools.specs.Pool.{Category, Pool}
use Rattle.define_bundles.specs.BundleText.{Bundle}
use Rattle.define_draws.specs.Draw as draws
use Rattle.define_draws.specs.Draw.{draw}
use Rattle.define_draws.specs.Lines.{bundle_seal}
use Rattle.define_draws.specs.Seal.{is_seal, seal_of}
use Rattle.define_offices.specs.Tables.{Charter, Entry, Round, Open, Solved, Sealed, Drawn, Tables, is_enrolling, most_rows, named_round, same_rules, same_shape}
use Rattle.define_offices.specs.Commands.{Given, Command, SetCharter, SetRules, Register, Solve, Keep, Seal, Draw, Drop, NextRound, Show, Withdraw, SetBounds, TryDraw, Undrop, Reopen, WithdrawId, Outcome, Replies, Refuses, Stops, Unproved, Lines, Refusal, Reply, TooLate, Withdrawn}
use Rattle.define_offices.specs.Deciding.{Answered, Finds, FindsNone, IsDecided, NeedsRun, Sorted, addition, answered, are_rules_kept, asked, bounds_in, bounds_over, charter_over, decide_charter, decide_rules, draw_in, drawn_ids, drop_in, fit_rows, fits_rules, is_charter_kept, is_last_open, is_seated_in, is_withdrawn, new_draw, next_after, next_in, place_of_hash, place_of_id, register_by, registered, reopen_at, reopen_in, row_beyond, same_seal, seal_in, show_in, sorted_rows, tickets_or_none, undrop_in, with_id, withdraw_at, withdraw_id_at, withdraw_row, without_change}
use Rattle.define_offices.specs.Facts.{IsCommand, IsTables}
use Rattle.define_offices.specs.Pools.{drawn_lottery, pool_of}
use Rattle.define_offices.specs.Steps.{AtOnce, ByRun, Comes}
use Rattle.define_offices.proofs.Register.{late_adds_nothing}
use Rattle.define_offices.proofs.Steps.{Answers, IsOpenRound, Leaves, Settles, Stays, proof_settles, solve_settles}
use Rattle.laws_of_offices.proofs.SeatChanges.{MayChange}

module _ (tables : Tables) where
  -- the change that the outcome brings, if it brings one, is allowed
  abbrev pub MayCome : Outcome → Type 0
  MayCome (Replies None reply) = Unit {0}
  MayCome (Replies (Some change) reply) = MayChange tables change
  MayCome (Refuses refusal) = Unit {0}
  MayCome (Stops ending) = Unit {0}
  MayCome (Unproved refusal) = Unit {0}

  either : (b : Bool) (one other : Outcome) → (b ≡ true → MayCome one) → (b ≡ false → MayCome other) → MayCome (cond b one other)
  either true one other is not = is refl
  either false one other is not = not refl

  unless : (b : Bool) (one other : Outcome) → (b ≡ false → MayCome one) → (b ≡ true → MayCome other) → MayCome (cond (not b) one other)
  unless true one other not is = is refl
  unless false one other not is = not refl

  -- ---- charter, rules and rows

  charter_over_may : (charter : Charter) (beyond : Option Entry) → MayCome (charter_over charter beyond)
  charter_over_may charter None = tt
  charter_over_may charter (Some entry) = tt

  charter_may : (charter : Charter) → MayCome (decide_charter tables charter)
  charter_may charter =
      either (is_charter_kept tables.charter charter) _ _ (λ _. tt)
      (λ _. either (is_enrolling tables.rounds) _ _ (λ _. charter_over_may charter (row_beyond tables.register charter.volunteers)) (λ _. tt))

  rules_may : (rules : List Category) → MayCome (decide_rules tables rules)
  rules_may rules =
      either (are_rules_kept tables.rules rules) _ _ (λ _. tt)
      (λ _. unless (is_enrolling tables.rounds) _ _ (λ _. tt) (λ _. either (fit_rows tables.register tables.rules rules) _ _ (λ _. tt) (λ _. tt)))

  registered_may : (rows : List Given) (result : Result Sorted Refusal) → sorted_rows (most_rows tables.charter) tables.rounds tables.register rows ≡ result → MayCome (registered tables result)
  registered_may rows (Err refusal) e = tt
  registered_may rows (Ok sorted) e = by sorted.added refl (is_enrolling tables.rounds) refl _
    where
      by : (added : List Entry) → sorted.added ≡ added → (enrolling : Bool) → is_enrolling tables.rounds ≡ enrolling → (reply : Reply) → MayCome (Replies (addition added) reply)
      by [] a enrolling o reply = tt
      by (entry ∷ added) a true o reply = o
      by (entry ∷ added) a false o reply = absurd (let none = late_adds_nothing (most_rows tables.charter) tables.rounds o tables.register rows sorted e in cc)

  register_may : (rows : List Given) (rules : Option (List Category)) → MayCome (register_by tables rows rules)
  register_may rows None = tt
  register_may rows (Some categories) =
      either (list_all (λ (g : Given). fits_rules categories g.values) rows) _ _ (λ _. registered_may rows (sorted_rows (most_rows tables.charter) tables.rounds tables.register rows) refl) (λ _. tt)

  -- ---- seal, draw and drop

  same_seal_may : (bundle : Bundle) (kept given : Option ℕ) → MayCome (same_seal bundle kept given)
  same_seal_may bundle kept None = tt
  same_seal_may bundle kept (Some tickets) = either (eqb (tickets_or_none kept) tickets) _ _ (λ _. tt) (λ _. tt)

  seal_may : (number : ℕ) (given : Option ℕ) (found : Option Round) → MayCome (seal_in tables number given found)
  seal_may number given None = tt
  seal_may number given (Some Open) = tt
  seal_may number given (Some (Solved bundle)) = tt
  seal_may number given (Some (Sealed bundle tickets)) = same_seal_may bundle tickets given
  seal_may number given (Some (Drawn bundle tickets digits dropped)) = same_seal_may bundle tickets given

  new_draw_may : (number : ℕ) (bundle : Bundle) (given digits : List ℕ) (result : Result draws.Drawn draws.Refused) → MayCome (new_draw number bundle given digits result)
  new_draw_may number bundle given digits (Ok drawn) = tt
  new_draw_may number bundle given digits (Err refused) = tt

  draw_may : (number : ℕ) (given digits : List ℕ) (found : Option Round) → MayCome (draw_in tables number given digits found)
  draw_may number given digits None = tt
  draw_may number given digits (Some Open) = tt
  draw_may number given digits (Some (Solved bundle)) = tt
  draw_may number given digits (Some (Sealed bundle tickets)) = new_draw_may number bundle given digits (draw (drawn_lottery bundle tickets) (bundle_seal bundle) given digits)
  draw_may number given digits (Some (Drawn bundle tickets kept dropped)) =
      unless (is_seal (bundle_seal bundle) given) _ _ (λ _. tt) (λ _. either (bytes_eq kept digits) _ _ (λ _. tt) (λ _. tt))

  drop_may : (number : ℕ) (id : List ℕ) (found : Option Round) → MayCome (drop_in tables number id found)
  drop_may number id None = tt
  drop_may number id (Some Open) = tt
  drop_may number id (Some (Solved bundle)) = tt
  drop_may number id (Some (Sealed bundle tickets)) = tt
  drop_may number id (Some (Drawn bundle tickets digits dropped)) =
      unless (includes_list (drawn_ids bundle tickets digits) id) _ _ (λ _. tt)
      (λ _. either (includes_list dropped id) _ _ (λ _. tt) (λ _. either (eqb number (length tables.rounds)) _ _ (λ _. tt) (λ _. tt)))

  undrop_may : (number : ℕ) (id : List ℕ) (found : Option Round) → MayCome (undrop_in tables number id found)
  undrop_may number id None = tt
  undrop_may number id (Some Open) = tt
  undrop_may number id (Some (Solved bundle)) = tt
  undrop_may number id (Some (Sealed bundle tickets)) = tt
  undrop_may number id (Some (Drawn bundle tickets digits dropped)) =
      unless (includes_list dropped id) _ _ (λ _. tt)
      (λ _. either (is_withdrawn (with_id tables.register id)) _ _ (λ _. tt) (λ free. either (eqb number (length tables.rounds)) _ _ (λ _. free) (λ _. tt)))

  -- ---- rounds that are begun, taken away or shown

  next_after_may : (number : ℕ) (round : Round) → MayCome (next_after number round)
  next_after_may number Open = tt
  next_after_may number (Solved bundle) = tt
  next_after_may number (Sealed bundle tickets) = tt
  next_after_may number (Drawn bundle tickets digits []) = tt
  next_after_may number (Drawn bundle tickets digits (id ∷ dropped)) = tt

  next_may : (number : ℕ) (found : Option Round) → MayCome (next_in tables number found)
  next_may number None = tt
  next_may number (Some round) = either (eqb number (length tables.rounds)) _ _ (λ _. next_after_may number round) (λ _. tt)

  reopen_at_may : (number : ℕ) (round : Round) → MayCome (reopen_at number round)
  reopen_at_may number Open = tt
  reopen_at_may number (Solved bundle) = tt
  reopen_at_may number (Sealed bundle tickets) = tt
  reopen_at_may number (Drawn bundle tickets digits dropped) = tt

  reopen_may : (number : ℕ) (found : Option Round) → MayCome (reopen_in tables number found)
  reopen_may number None = tt
  reopen_may number (Some round) = either (eqb number (length tables.rounds)) _ _ (λ _. reopen_at_may number round) (λ _. tt)

  show_may : (found : Option Round) → MayCome (show_in tables found)
  show_may None = tt
  show_may (Some Open) = tt
  show_may (Some (Solved bundle)) = tt
  show_may (Some (Sealed bundle tickets)) = tt
  show_may (Some (Drawn bundle tickets digits dropped)) = tt

  -- ---- withdrawals

  withdraw_row_may : (reply : Reply) (place : ℕ) (entry : Entry) → MayCome (withdraw_row tables reply place entry)
  withdraw_row_may reply place entry =
      either entry.withdrawn _ _ (λ _. tt)
      (λ _. either (is_last_open tables.rounds && not (is_seated_in (pool_of tables (length tables.rounds)) place)) (Replies (Some (Withdrawn place)) reply) (Refuses TooLate) (λ free. free) (λ _. tt))

  withdraw_may : (found : Option (ℕ × Entry)) → MayCome (withdraw_at tables found)
  withdraw_may None = tt
  withdraw_may (Some (place, entry)) = withdraw_row_may (Lines []) place entry

  withdraw_id_may : (id : List ℕ) (found : Option (ℕ × Entry)) → MayCome (withdraw_id_at tables id found)
  withdraw_id_may id None = tt
  withdraw_id_may id (Some (place, entry)) = withdraw_row_may _ place entry

  -- ---- bounds of a round, and a draw that is tried

  bounds_in_may : (pool : Pool) (bounds : List Category) (round : Round) → MayCome (bounds_in pool bounds round)
  bounds_in_may pool bounds Open = either (same_shape pool.categories bounds) _ _ (λ _. tt) (λ _. tt)
  bounds_in_may pool bounds (Solved bundle) = tt
  bounds_in_may pool bounds (Sealed bundle tickets) = tt
  bounds_in_may pool bounds (Drawn bundle tickets digits dropped) = tt

  bounds_may : (bounds : List Category) (result : Result Pool Refusal) (found : Option Round) → MayCome (bounds_over tables bounds result found)
  bounds_may bounds (Err refusal) found = tt
  bounds_may bounds (Ok pool) None = tt
  bounds_may bounds (Ok pool) (Some round) = either (same_rules pool.categories bounds) _ _ (λ _. tt) (λ _. bounds_in_may pool bounds round)

  tried_may : (outcome : Outcome) → MayCome (without_change outcome)
  tried_may (Replies change reply) = tt
  tried_may (Refuses refusal) = tt
  tried_may (Stops ending) = tt
  tried_may (Unproved refusal) = tt

  -- ---- a solve or a proof

  stays_may : (outcome : Outcome) → Stays outcome → MayCome outcome
  stays_may (Replies None reply) stays = tt
  stays_may (Replies (Some change) reply) stays = absurd stays
  stays_may (Refuses refusal) stays = tt
  stays_may (Stops ending) stays = tt
  stays_may (Unproved refusal) stays = tt

  answered_may : (number : ℕ) (pool : Pool) (found : Answered) → IsOpenRound tables number pool → MayCome (answered number pool found)
  answered_may number pool FindsNone open_round = tt
  answered_may number pool (Finds answer) open_round = open_round

  settled_may : (number : ℕ) (outcome : Outcome) → Settles tables number outcome → MayCome outcome
  settled_may number outcome (Leaves stays) = stays_may outcome stays
  settled_may number outcome (Answers pool found open_round right same) = subst MayCome (sym same) (answered_may number pool found open_round)

  -- ---- every command

  told_may : (one outcome : Outcome) → MayCome one → IsDecided one ≡ IsDecided outcome → MayCome outcome
  told_may one outcome may h = let e : one ≡ outcome = cc in subst MayCome e may

  at_once_may : (keeps : IsTables tables) (command : Command) (outcome : Outcome) → IsCommand command → asked tables command ≡ IsDecided outcome → MayCome outcome
  at_once_may keeps (SetCharter charter) outcome is h = told_may _ outcome (charter_may charter) h
  at_once_may keeps (SetRules rules) outcome is h = told_may _ outcome (rules_may rules) h
  at_once_may keeps (Register rows) outcome is h = told_may _ outcome (register_may rows tables.rules) h
  at_once_may keeps (Solve number limits) outcome is h = settled_may number outcome (solve_settles tables keeps number limits outcome is (AtOnce h))
  at_once_may keeps (Keep number proof) outcome is h = settled_may number outcome (proof_settles tables keeps number proof outcome is (AtOnce h))
  at_once_may keeps (Seal number tickets) outcome is h = told_may _ outcome (seal_may number tickets (named_round tables.rounds number)) h
  at_once_may keeps (Draw number given digits) outcome is h = told_may _ outcome (draw_may number given digits (named_round tables.rounds number)) h
  at_once_may keeps (Drop number id) outcome is h = told_may _ outcome (drop_may number id (named_round tables.rounds number)) h
  at_once_may keeps (NextRound after) outcome is h = told_may _ outcome (next_may after (named_round tables.rounds after)) h
  at_once_may keeps (Show number) outcome is h = told_may _ outcome (show_may (named_round tables.rounds number)) h
  at_once_may keeps (Withdraw key) outcome is h = told_may _ outcome (withdraw_may (place_of_hash tables.register (seal_of key) 0)) h
  at_once_may keeps (SetBounds number bounds) outcome is h = told_may _ outcome (bounds_may bounds (pool_of tables number) (named_round tables.rounds number)) h
  at_once_may keeps (TryDraw number given digits) outcome is h = told_may _ outcome (tried_may (draw_in tables number given digits (named_round tables.rounds number))) h
  at_once_may keeps (Undrop number id) outcome is h = told_may _ outcome (undrop_may number id (named_round tables.rounds number)) h
  at_once_may keeps (Reopen number) outcome is h = told_may _ outcome (reopen_may number (named_round tables.rounds number)) h
  at_once_may keeps (WithdrawId id) outcome is h = told_may _ outcome (withdraw_id_may id (place_of_id tables.register id 0)) h

  pub comes_may : (keeps : IsTables tables) (command : Command) (outcome : Outcome) → IsCommand command → Comes tables command outcome → MayCome outcome
  comes_may keeps command outcome is (AtOnce h) = at_once_may keeps command outcome is h
  comes_may keeps command outcome is (ByRun number limits pool ending same needs ends comes) =
      settled_may number outcome (solve_settles tables keeps number limits outcome (subst IsCommand same is) (ByRun number limits pool ending refl (subst (λ c. asked tables c ≡ NeedsRun pool) same needs) ends comes))
