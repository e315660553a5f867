-- The facts of `IsTables` hold of the tables after each outcome of a command.
use Rattle.std.proofs.Common.{◌≡◌, ℕ, zero, suc, ◌≤◌, leb, Bool, true, false, cond, eqb, not, ◌&&◌, List, [], ◌∷◌, ◌++◌, length, Option, Some, None, is_ok, Result, Ok, Err, refl, arith, subst}
use Rattle.std.specs.List.{list_all}
use Rattle.std.specs.Str.{bytes_eq}
use Rattle.std.proofs.lemmas.Bool.{and_from, and_parts, eqb-true, false≢true, le-leb}
use Rattle.define_pools.proofs.Each.{list_all-push}
use Rattle.define_offices.proofs.Shapes.{fits_as}
use Rattle.define_pools.specs.Lists.{includes_list}
use Rattle.define_pools.specs.Pool.{Category, Pool}
use Rattle.define_bundles.specs.BundleText.{Bundle}
use Rattle.define_draws.specs.declared.DiceStop.{DiceStop}
use Rattle.define_draws.specs.declared.Named.{Named}
use Rattle.define_draws.specs.Dice.{name_ticket}
use Rattle.define_draws.specs.Draw as draws
use Rattle.define_draws.specs.Draw.{draw, drawn_with}
use Rattle.define_draws.specs.Seal.{is_seal}
use Rattle.define_offices.specs.Tables.{Charter, Entry, Round, Open, Solved, Sealed, Drawn, Tables, is_enrolling, most_rows, named_round, same_rules, same_shape}
use Rattle.define_offices.specs.Commands.{DroppedOut, TakenBack, Given, Outcome, Refusal, Refuses, Replies, Reply, Lines, TooLate, Withdrawn, Stops, Unproved}
use Rattle.define_offices.specs.Deciding.{Sorted, addition, are_rules_kept, bounds_in, bounds_over, changes, charter_over, decide_charter, decide_register, decide_rules, draw_in, drawn_ids, drop_in, fit_rows, fits_rules, is_charter_kept, is_last_open, is_seated_in, is_withdrawn, new_draw, next_after, next_in, register_by, registered, reopen_at, reopen_in, row_beyond, same_seal, seal_in, show_in, sorted_rows, tickets_or_none, undrop_in, with_id, withdraw_at, withdraw_id_at, withdraw_row, without_change}
use Rattle.define_offices.specs.Facts.{AreRules, IsTables, KeepsRound, are_tickets, has_drop, is_charter, is_given, rows_fit}
use Rattle.define_offices.specs.Lines.{dropped_line, undropped_line}
use Rattle.define_draws.specs.Lines.{bundle_seal}
use Rattle.define_offices.specs.Pools.{drawn_lottery, pool_of}
use Rattle.define_offices.specs.Steps.{applied, drawn_by, dropped_out, seal_told, tables_after, taken_back, without_id}
use Rattle.define_offices.proofs.Changes.{changed_keeps, changed_last_keeps, open_rounds, pushed_keeps, taken_keeps, with_rules, withdrawn_keeps}
use Rattle.define_offices.proofs.Register.{RowsKeep, late_adds_nothing, sorted_keep}

module _ (tables : Tables) (keeps : IsTables tables) where
  -- the facts hold of the tables after `outcome`
  abbrev pub IsKept : Outcome → Type 0
  IsKept outcome = IsTables (tables_after tables outcome)

  if_else : (b : Bool) (one other : Outcome) → (b ≡ true → IsKept one) → (b ≡ false → IsKept other) → IsKept (cond b one other)
  if_else true one other is not = is refl
  if_else false one other is not = not refl

  if_not : (b : Bool) (one other : Outcome) → (b ≡ false → IsKept one) → (b ≡ true → IsKept other) → IsKept (cond (not b) one other)
  if_not true one other not is = is refl
  if_not false one other not is = not refl

  -- ---- charter and rules

  -- if there is no row beyond, the register has at most so many rows
  none_beyond : (register : List Entry) (most : ℕ) → row_beyond register most ≡ None → leb (length register) most ≡ true
  none_beyond register most h = le-leb (length register) most (by register most h)
    where
      by : (rows : List Entry) (place : ℕ) → row_beyond rows place ≡ None → length rows ≤ place
      by [] place k = omega arith
      by (entry ∷ rows) zero k = absurd (cc)
      by (entry ∷ rows) (suc place) k = let l = by rows place k in omega arith

  charter_set : (charter : Charter) → is_charter charter ≡ true → is_enrolling tables.rounds ≡ true → row_beyond tables.register charter.volunteers ≡ None → IsTables (record tables { charter = Some charter })
  charter_set charter is enrolling none = record {
    charter = λ other same. let e : charter ≡ other = cc in subst (λ c. is_charter c ≡ true) e is;
    rules = keeps.rules;
    bounds = keeps.bounds;
    few_rows = none_beyond tables.register charter.volunteers none;
    rows = keeps.rows;
    fit = keeps.fit;
    different_ids = keeps.different_ids;
    different_keys = keeps.different_keys;
    closed = keeps.closed;
    rounds = open_rounds (record tables { charter = Some charter }) enrolling;
  }

  charter_over_keeps : (charter : Charter) → is_charter charter ≡ true → is_enrolling tables.rounds ≡ true → (beyond : Option Entry) → row_beyond tables.register charter.volunteers ≡ beyond → IsKept (charter_over charter beyond)
  charter_over_keeps charter is enrolling None none = charter_set charter is enrolling none
  charter_over_keeps charter is enrolling (Some entry) some = keeps

  pub charter_keeps : (charter : Charter) → is_charter charter ≡ true → IsKept (decide_charter tables charter)
  charter_keeps charter is =
      if_else (is_charter_kept tables.charter charter) _ _ (λ _. keeps)
      (λ _. if_else (is_enrolling tables.rounds) _ _ (λ enrolling. charter_over_keeps charter is enrolling (row_beyond tables.register charter.volunteers) refl) (λ _. keeps))

  fit_again : (register : List Entry) (kept : Option (List Category)) (rules : List Category) → rows_fit kept register ≡ true → fit_rows register kept rules ≡ true → rows_fit (Some rules) register ≡ true
  fit_again [] kept rules h shape = refl
  fit_again (entry ∷ register) None rules h shape = absurd (false≢true h)
  fit_again (entry ∷ register) (Some kept) rules h shape = fits_as kept rules shape (entry ∷ register) h

  rules_set : (rules : List Category) → AreRules rules → is_enrolling tables.rounds ≡ true → fit_rows tables.register tables.rules rules ≡ true → IsTables (record tables { rules = Some rules })
  rules_set rules are enrolling shape = record {
    charter = keeps.charter;
    rules = λ other same. let e : rules ≡ other = cc in subst AreRules e are;
    bounds = keeps.bounds;
    few_rows = keeps.few_rows;
    rows = keeps.rows;
    fit = fit_again tables.register tables.rules rules keeps.fit shape;
    different_ids = keeps.different_ids;
    different_keys = keeps.different_keys;
    closed = keeps.closed;
    rounds = open_rounds (record tables { rules = Some rules }) enrolling;
  }

  pub rules_keep : (rules : List Category) → AreRules rules → IsKept (decide_rules tables rules)
  rules_keep rules are =
      if_else (are_rules_kept tables.rules rules) _ _ (λ _. keeps)
      (λ _. if_not (is_enrolling tables.rounds) _ _ (λ _. keeps)
      (λ enrolling. if_else (fit_rows tables.register tables.rules rules) _ _ (λ shape. rules_set rules are enrolling shape) (λ _. keeps)))

  -- ---- the register

  rows_added : (categories : List Category) → tables.rules ≡ Some categories → (entries : List Entry) → is_enrolling tables.rounds ≡ true → RowsKeep (most_rows tables.charter) categories (tables.register ++ entries) →
      IsTables (record tables { register = tables.register ++ entries })
  rows_added categories has entries enrolling rows = record {
    charter = keeps.charter;
    rules = keeps.rules;
    bounds = keeps.bounds;
    few_rows = rows.few;
    rows = rows.rows;
    fit = rw has rows.fit;
    different_ids = rows.different_ids;
    different_keys = rows.different_keys;
    closed = keeps.closed;
    rounds = open_rounds (record tables { register = tables.register ++ entries }) enrolling;
  }

  registered_keeps : (categories : List Category) → tables.rules ≡ Some categories → (rows : List Given) → list_all is_given rows ≡ true → list_all (λ (g : Given). fits_rules categories g.values) rows ≡ true →
      (result : Result Sorted Refusal) → sorted_rows (most_rows tables.charter) tables.rounds tables.register rows ≡ result → IsKept (registered tables result)
  registered_keeps categories has rows is fits (Err refusal) e = keeps
  registered_keeps categories has rows is fits (Ok sorted) e =
      by sorted.added refl (is_enrolling tables.rounds) refl
    where
      kept : RowsKeep (most_rows tables.charter) categories (tables.register ++ sorted.added)
      kept = sorted_keep (most_rows tables.charter) tables.rounds categories tables.register rows sorted is fits
          (record { few = keeps.few_rows; rows = keeps.rows; fit = rw has at keeps.fit; different_ids = keeps.different_ids; different_keys = keeps.different_keys }) e

      by : (added : List Entry) → sorted.added ≡ added → (enrolling : Bool) → is_enrolling tables.rounds ≡ enrolling → IsTables (applied tables (addition added))
      by [] a enrolling o = keeps
      by (entry ∷ added) a true o = rows_added categories has (entry ∷ added) o (subst (λ entries. RowsKeep (most_rows tables.charter) categories (tables.register ++ entries)) a kept)
      by (entry ∷ added) a false o = absurd (let none = late_adds_nothing (most_rows tables.charter) tables.rounds o tables.register rows sorted e in cc)

  register_by_keeps : (rows : List Given) → list_all is_given rows ≡ true → (rules : Option (List Category)) → tables.rules ≡ rules → IsKept (register_by tables rows rules)
  register_by_keeps rows is None has = keeps
  register_by_keeps rows is (Some categories) has =
      if_else (list_all (λ (g : Given). fits_rules categories g.values) rows) _ _ (λ fits. registered_keeps categories has rows is fits (sorted_rows (most_rows tables.charter) tables.rounds tables.register rows) refl) (λ _. keeps)

  pub register_keeps : (rows : List Given) → list_all is_given rows ≡ true → IsKept (decide_register tables rows)
  register_keeps rows is = register_by_keeps rows is tables.rules refl

  -- ---- seal

  keep_drops_sealing : (given : Option ℕ) (round : Round) → has_drop round ≡ true → has_drop (seal_told given round) ≡ true
  keep_drops_sealing given Open h = h
  keep_drops_sealing given (Solved bundle) h = absurd (false≢true h)
  keep_drops_sealing given (Sealed bundle tickets) h = h
  keep_drops_sealing given (Drawn bundle tickets digits dropped) h = h

  -- `KeepsRound` holds of the round with `number`, if there is one
  named_keeps : (number : ℕ) (round : Round) → named_round tables.rounds number ≡ Some round → KeepsRound tables round
  named_keeps zero round h = absurd (cc)
  named_keeps (suc place) round h = keeps.rounds place round h

  same_seal_keeps : (bundle : Bundle) (kept given : Option ℕ) → IsKept (same_seal bundle kept given)
  same_seal_keeps bundle kept None = keeps
  same_seal_keeps bundle kept (Some tickets) = if_else (eqb (tickets_or_none kept) tickets) _ _ (λ _. keeps) (λ _. keeps)

  pub seal_keeps : (number : ℕ) (given : Option ℕ) → are_tickets given ≡ true → (found : Option Round) → named_round tables.rounds number ≡ found → IsKept (seal_in tables number given found)
  seal_keeps number given are None at = keeps
  seal_keeps number given are (Some Open) at = keeps
  seal_keeps number given are (Some (Solved bundle)) at =
      let kept : KeepsRound tables (Sealed bundle given) = (named_keeps number (Solved bundle) at, are) in
      changed_keeps tables keeps (seal_told given) (keep_drops_sealing given) number
      (λ old there. let same : Solved bundle ≡ old = cc in subst (λ round. KeepsRound tables (seal_told given round)) same kept)
  seal_keeps number given are (Some (Sealed bundle tickets)) at = same_seal_keeps bundle tickets given
  seal_keeps number given are (Some (Drawn bundle tickets digits dropped)) at = same_seal_keeps bundle tickets given

  -- ---- draw

  keep_drops_drawing : (digits : List ℕ) (round : Round) → has_drop round ≡ true → has_drop (drawn_by digits round) ≡ true
  keep_drops_drawing digits Open h = h
  keep_drops_drawing digits (Solved bundle) h = h
  keep_drops_drawing digits (Sealed bundle tickets) h = absurd (false≢true h)
  keep_drops_drawing digits (Drawn bundle tickets other dropped) h = h

  -- if a draw returns a panel, its digits name a ticket
  drawn_named : (bundle : Bundle) (tickets : Option ℕ) (given digits : List ℕ) (drawn : draws.Drawn) → draw (drawn_lottery bundle tickets) (bundle_seal bundle) given digits ≡ Ok drawn →
      is_ok (name_ticket (drawn_lottery bundle tickets).total digits) ≡ true
  drawn_named bundle tickets given digits drawn h = by (is_seal (bundle_seal bundle) given) (name_ticket (drawn_lottery bundle tickets).total digits) h
    where
      by : (sealed : Bool) (named : Result Named DiceStop) → cond sealed (drawn_with (drawn_lottery bundle tickets) named) (Err draws.SealDiffers) ≡ Ok drawn → is_ok named ≡ true
      by true (Ok named) h = refl
      by true (Err stop) h = absurd (cc)
      by false named h = absurd (cc)

  new_draw_keeps : (number : ℕ) (bundle : Bundle) (tickets : Option ℕ) (given digits : List ℕ) → named_round tables.rounds number ≡ Some (Sealed bundle tickets) → (result : Result draws.Drawn draws.Refused) →
      draw (drawn_lottery bundle tickets) (bundle_seal bundle) given digits ≡ result → IsKept (new_draw number bundle given digits result)
  new_draw_keeps number bundle tickets given digits at (Err refused) e = keeps
  new_draw_keeps number bundle tickets given digits at (Ok drawn) e =
      let sealed = named_keeps number (Sealed bundle tickets) at in
      let kept : KeepsRound tables (Drawn bundle tickets digits []) = (sealed.0, record { in_range = sealed.1; named = drawn_named bundle tickets given digits drawn e; from_panel = refl }) in
      changed_keeps tables keeps (drawn_by digits) (keep_drops_drawing digits) number
      (λ old there. let same : Sealed bundle tickets ≡ old = cc in subst (λ round. KeepsRound tables (drawn_by digits round)) same kept)

  pub draw_keeps : (number : ℕ) (given digits : List ℕ) (found : Option Round) → named_round tables.rounds number ≡ found → IsKept (draw_in tables number given digits found)
  draw_keeps number given digits None at = keeps
  draw_keeps number given digits (Some Open) at = keeps
  draw_keeps number given digits (Some (Solved bundle)) at = keeps
  draw_keeps number given digits (Some (Sealed bundle tickets)) at = new_draw_keeps number bundle tickets given digits at (draw (drawn_lottery bundle tickets) (bundle_seal bundle) given digits) refl
  draw_keeps number given digits (Some (Drawn bundle tickets kept dropped)) at =
      if_not (is_seal (bundle_seal bundle) given) _ _ (λ _. keeps) (λ _. if_else (bytes_eq kept digits) _ _ (λ _. keeps) (λ _. keeps))

  -- ---- drop

  some_dropped : (bundle : Bundle) (tickets : Option ℕ) (digits : List ℕ) (dropped : List (List ℕ)) (id : List ℕ) → has_drop (Drawn bundle tickets digits (dropped ++ id ∷ [])) ≡ true
  some_dropped bundle tickets digits [] id = refl
  some_dropped bundle tickets digits (first ∷ dropped) id = refl

  keep_drops_dropping : (id : List ℕ) (round : Round) → has_drop round ≡ true → has_drop (dropped_out id round) ≡ true
  keep_drops_dropping id Open h = h
  keep_drops_dropping id (Solved bundle) h = h
  keep_drops_dropping id (Sealed bundle tickets) h = h
  keep_drops_dropping id (Drawn bundle tickets digits dropped) h = some_dropped bundle tickets digits dropped id

  dropped_keeps : (number : ℕ) (id : List ℕ) (bundle : Bundle) (tickets : Option ℕ) (digits : List ℕ) (dropped : List (List ℕ)) → named_round tables.rounds number ≡ Some (Drawn bundle tickets digits dropped) →
      includes_list (drawn_ids bundle tickets digits) id ≡ true → IsKept (changes (DroppedOut number id) (dropped_line number id))
  dropped_keeps number id bundle tickets digits dropped at member =
      let kept = named_keeps number (Drawn bundle tickets digits dropped) at in
      let more : KeepsRound tables (Drawn bundle tickets digits (dropped ++ id ∷ [])) =
      (kept.0, record { in_range = kept.1.in_range; named = kept.1.named; from_panel = list_all-push (includes_list (drawn_ids bundle tickets digits)) dropped id kept.1.from_panel member }) in
      changed_keeps tables keeps (dropped_out id) (keep_drops_dropping id) number
      (λ old there. let same : Drawn bundle tickets digits dropped ≡ old = cc in subst (λ round. KeepsRound tables (dropped_out id round)) same more)

  pub drop_keeps : (number : ℕ) (id : List ℕ) (found : Option Round) → named_round tables.rounds number ≡ found → IsKept (drop_in tables number id found)
  drop_keeps number id None at = keeps
  drop_keeps number id (Some Open) at = keeps
  drop_keeps number id (Some (Solved bundle)) at = keeps
  drop_keeps number id (Some (Sealed bundle tickets)) at = keeps
  drop_keeps number id (Some (Drawn bundle tickets digits dropped)) at =
      if_not (includes_list (drawn_ids bundle tickets digits) id) _ _ (λ _. keeps)
      (λ member. if_else (includes_list dropped id) _ _ (λ _. keeps)
      (λ _. if_else (eqb number (length tables.rounds)) _ _ (λ _. dropped_keeps number id bundle tickets digits dropped at member) (λ _. keeps)))

  -- ---- a dropout that is taken back

  all_without : (p : List ℕ → Bool) (id : List ℕ) (ids : List (List ℕ)) → list_all p ids ≡ true → list_all p (without_id id ids) ≡ true
  all_without p id [] h = refl
  all_without p id (other ∷ ids) h = by (bytes_eq id other) (all_without p id ids (and_parts (p other) (list_all p ids) h).1)
    where
      by : (same : Bool) → list_all p (without_id id ids) ≡ true → list_all p (cond (not same) (other ∷ without_id id ids) (without_id id ids)) ≡ true
      by true rest = rest
      by false rest = and_from (p other) (list_all p (without_id id ids)) (and_parts (p other) (list_all p ids) h).0 rest

  taken_back_keeps : (number : ℕ) (id : List ℕ) (bundle : Bundle) (tickets : Option ℕ) (digits : List ℕ) (dropped : List (List ℕ)) → named_round tables.rounds number ≡ Some (Drawn bundle tickets digits dropped) →
      number ≡ length tables.rounds → IsKept (changes (TakenBack number id) (undropped_line number id))
  taken_back_keeps number id bundle tickets digits dropped at last =
      let kept = named_keeps number (Drawn bundle tickets digits dropped) at in
      let less : KeepsRound tables (Drawn bundle tickets digits (without_id id dropped)) =
      (kept.0, record { in_range = kept.1.in_range; named = kept.1.named; from_panel = all_without (includes_list (drawn_ids bundle tickets digits)) id dropped kept.1.from_panel }) in
      changed_last_keeps tables keeps (taken_back id) number last
      (λ old there. let same : Drawn bundle tickets digits dropped ≡ old = cc in subst (λ round. KeepsRound tables (taken_back id round)) same less)

  pub undrop_keeps : (number : ℕ) (id : List ℕ) (found : Option Round) → named_round tables.rounds number ≡ found → IsKept (undrop_in tables number id found)
  undrop_keeps number id None at = keeps
  undrop_keeps number id (Some Open) at = keeps
  undrop_keeps number id (Some (Solved bundle)) at = keeps
  undrop_keeps number id (Some (Sealed bundle tickets)) at = keeps
  undrop_keeps number id (Some (Drawn bundle tickets digits dropped)) at =
      if_not (includes_list dropped id) _ _ (λ _. keeps)
      (λ _. if_else (is_withdrawn (with_id tables.register id)) _ _ (λ _. keeps)
      (λ _. if_else (eqb number (length tables.rounds)) _ _ (λ last. taken_back_keeps number id bundle tickets digits dropped at (eqb-true number (length tables.rounds) last)) (λ _. keeps)))

  -- ---- the next round, a round that is taken away, and what a round shows

  reopen_at_keeps : (number : ℕ) (round : Round) → leb 2 number ≡ true → IsKept (reopen_at number round)
  reopen_at_keeps zero Open second = absurd (false≢true second)
  reopen_at_keeps (suc zero) Open second = absurd (false≢true second)
  reopen_at_keeps (suc (suc place)) Open second = taken_keeps tables keeps place
  reopen_at_keeps number (Solved bundle) second = keeps
  reopen_at_keeps number (Sealed bundle tickets) second = keeps
  reopen_at_keeps number (Drawn bundle tickets digits dropped) second = keeps

  pub reopen_keeps : (number : ℕ) → leb 2 number ≡ true → (found : Option Round) → IsKept (reopen_in tables number found)
  reopen_keeps number second None = keeps
  reopen_keeps number second (Some round) = if_else (eqb number (length tables.rounds)) _ _ (λ _. reopen_at_keeps number round second) (λ _. keeps)

  next_after_keeps : (number : ℕ) (round : Round) → named_round tables.rounds number ≡ Some round → number ≡ length tables.rounds → IsKept (next_after number round)
  next_after_keeps number Open at end = keeps
  next_after_keeps number (Solved bundle) at end = keeps
  next_after_keeps number (Sealed bundle tickets) at end = keeps
  next_after_keeps number (Drawn bundle tickets digits []) at end = keeps
  next_after_keeps zero (Drawn bundle tickets digits (id ∷ dropped)) at end = absurd (cc)
  next_after_keeps (suc place) (Drawn bundle tickets digits (id ∷ dropped)) at end = pushed_keeps tables keeps place (Drawn bundle tickets digits (id ∷ dropped)) at end refl

  pub next_keeps : (number : ℕ) (found : Option Round) → named_round tables.rounds number ≡ found → IsKept (next_in tables number found)
  next_keeps number None at = keeps
  next_keeps number (Some round) at =
      if_else (eqb number (length tables.rounds)) _ _ (λ last. next_after_keeps number round at (eqb-true number (length tables.rounds) last)) (λ _. keeps)

  pub show_keeps : (found : Option Round) → IsKept (show_in tables found)
  show_keeps None = keeps
  show_keeps (Some Open) = keeps
  show_keeps (Some (Solved bundle)) = keeps
  show_keeps (Some (Sealed bundle tickets)) = keeps
  show_keeps (Some (Drawn bundle tickets digits dropped)) = keeps

  withdraw_row_keeps : (reply : Reply) (place : ℕ) (entry : Entry) → IsKept (withdraw_row tables reply place entry)
  withdraw_row_keeps reply place entry =
      if_else entry.withdrawn _ _ (λ _. keeps)
      (λ _. if_else (is_last_open tables.rounds && not (is_seated_in (pool_of tables (length tables.rounds)) place)) (Replies (Some (Withdrawn place)) reply) (Refuses TooLate)
      (λ _. withdrawn_keeps tables keeps place) (λ _. keeps))

  pub withdraw_keeps : (found : Option (ℕ × Entry)) → IsKept (withdraw_at tables found)
  withdraw_keeps None = keeps
  withdraw_keeps (Some (place, entry)) = withdraw_row_keeps (Lines []) place entry

  pub withdraw_id_keeps : (id : List ℕ) (found : Option (ℕ × Entry)) → IsKept (withdraw_id_at tables id found)
  withdraw_id_keeps id None = keeps
  withdraw_id_keeps id (Some (place, entry)) = withdraw_row_keeps _ place entry

  -- ---- bounds of a round, and a draw that is tried

  bounds_in_keep : (pool : Pool) (bounds : List Category) (round : Round) → AreRules bounds → IsKept (bounds_in pool bounds round)
  bounds_in_keep pool bounds Open are =
      if_else (same_shape pool.categories bounds) _ _ (λ _. with_rules tables (Some bounds) keeps (λ other same. let e : bounds ≡ other = cc in subst AreRules e are)) (λ _. keeps)
  bounds_in_keep pool bounds (Solved bundle) are = keeps
  bounds_in_keep pool bounds (Sealed bundle tickets) are = keeps
  bounds_in_keep pool bounds (Drawn bundle tickets digits dropped) are = keeps

  pub bounds_keep : (bounds : List Category) → AreRules bounds → (result : Result Pool Refusal) (found : Option Round) → IsKept (bounds_over tables bounds result found)
  bounds_keep bounds are (Err refusal) found = keeps
  bounds_keep bounds are (Ok pool) None = keeps
  bounds_keep bounds are (Ok pool) (Some round) = if_else (same_rules pool.categories bounds) _ _ (λ _. keeps) (λ _. bounds_in_keep pool bounds round are)

  pub tried_keeps : (outcome : Outcome) → IsKept (without_change outcome)
  tried_keeps (Replies change reply) = keeps
  tried_keeps (Refuses refusal) = keeps
  tried_keeps (Stops ending) = keeps
  tried_keeps (Unproved refusal) = keeps
