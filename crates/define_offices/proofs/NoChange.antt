-- If a command's reply comes with a change, this change alters the tables.
use Rattle.std.proofs.Common.{◌≡◌, ◌≢◌, ℕ, zero, suc, ◌+◌, leb, Bool, true, false, cond, eqb, not, ◌&&◌, List, [], ◌∷◌, ◌++◌, length, Option, Some, None, Result, Ok, Err, refl, sym, ap, ◌∙◌, arith, subst, length-append}
use Rattle.std.specs.List.{list_all}
use Rattle.std.specs.Str.{bytes_eq}
use Rattle.std.proofs.lemmas.Bool.{false≢true}
use Rattle.define_pools.specs.Lists.{includes_list}
use Rattle.define_pools.specs.Pool.{Category, Pool}
use Rattle.define_bundles.specs.BundleText.{Bundle}
use Rattle.define_draws.specs.Draw as draws
use Rattle.define_draws.specs.Draw.{draw}
use Rattle.define_draws.specs.Seal.{is_seal, seal_of}
use Rattle.define_offices.specs.Tables.{Charter, Entry, Round, Open, Solved, Sealed, Drawn, Tables, changed_named, is_enrolling, most_rows, named_round, round_at, same_rules, same_shape, taken_at}
use Rattle.define_offices.specs.Commands.{Command, SetCharter, SetRules, Register, Solve, Keep, Seal, Draw, Drop, NextRound, Show, Withdraw, SetBounds, TryDraw, Undrop, Reopen, WithdrawId, Given, Change, CharterSet, RulesSet, Added, SolvedWith, SealTold, DrawnWith, DroppedOut, Begun, Withdrawn, TakenBack, Reopened, Replies, Refuses, Refusal, Reply, Lines, TooLate}
use Rattle.define_offices.specs.Deciding.{Answered, Finds, FindsNone, IsDecided, NeedsRun, Sorted, addition, answered, are_rules_kept, asked, decide_charter, decide_rules, draw_in, drawn_ids, drop_in, fit_rows, fits_rules, is_charter_kept, is_last_open, is_seated_in, is_withdrawn, new_draw, next_in, place_of_hash, place_of_id, register_by, registered, row_beyond, seal_in, sorted_rows, undrop_in, with_id, withdraw_at, withdraw_id_at, withdraw_row}
use Rattle.define_offices.specs.Facts.{IsCommand, IsTables}
use Rattle.define_draws.specs.Lines.{bundle_seal}
use Rattle.define_offices.specs.Pools.{drawn_lottery, pool_after, pool_of, with_bounds}
use Rattle.define_offices.specs.Steps.{AtOnce, ByRun, Comes, apply, drawn_by, dropped_out, seal_told, solved_with, taken_back, withdrawn_at, without_id}
use Rattle.define_offices.proofs.Again.{SetsBounds, TakesAway, bounds_set, has_base, none_left, rules_set_or_same, same_charter_itself, same_rules_itself, says, set_or_same, show_changes_nothing, takes_away, takes_so, tried_changes_nothing}
use Rattle.define_offices.proofs.Repeats.{begun, dropped_so, named_there, same_draw_changes_nothing, same_seal_changes_nothing}
use Rattle.define_offices.proofs.Rounds.{length-taken}
use Rattle.define_offices.proofs.Shapes.{has_bounds, same_shape_below}
use Rattle.define_offices.proofs.RowsAgain.{place_by, place_by_hash, place_by_id, place_from, withdrawal}
use Rattle.define_offices.proofs.Steps.{Answers, Leaves, Settles, proof_settles, solve_settles}

-- ---- a list that got longer is a different list

longer : {A : Type 0} (xs : List A) (x : A) (more : List A) → xs ++ x ∷ more ≡ xs → ⊥
longer xs x more same = let n = length-append xs (x ∷ more) in let e = ap length same in omega arith

-- ---- if a round changes, the list of rounds changes

-- if `change` alters the round with `number`, it alters the list of rounds
round_changes : (change : Round → Round) (rounds : List Round) (number : ℕ) (round : Round) → named_round rounds number ≡ Some round → (change round ≡ round → ⊥) → changed_named change rounds number ≡ rounds → ⊥
round_changes change rounds number round at differs same =
    let there = named_there change rounds number round at in
    let back : named_round (changed_named change rounds number) number ≡ Some round = ap (λ rs. named_round rs number) same ∙ at in
    differs (let e : Some (change round) ≡ Some round = sym there ∙ back in cc)

-- ---- each command's change alters the tables

module _ (tables : Tables) (change : Change) (reply : Reply) where
  charter_changes : (charter : Charter) (kept : Bool) → is_charter_kept tables.charter charter ≡ kept → decide_charter tables charter ≡ Replies (Some change) reply → apply tables change ≡ tables → ⊥
  charter_changes charter true e h same =
      let none = (set_or_same (is_charter_kept tables.charter charter) (is_enrolling tables.rounds) charter (row_beyond tables.register charter.volunteers) _ _ (Some change) reply h).0 e in cc
  charter_changes charter false e h same =
      let some = (set_or_same (is_charter_kept tables.charter charter) (is_enrolling tables.rounds) charter (row_beyond tables.register charter.volunteers) _ _ (Some change) reply h).1 e in
      let is : CharterSet charter ≡ change = cc in
      let kept : Some charter ≡ tables.charter = ap (λ (t : Tables). t.charter) (subst (λ c. apply tables c ≡ tables) (sym is) same) in
      false≢true (sym e ∙ subst (λ o. is_charter_kept o charter ≡ true) kept (same_charter_itself charter))

  rules_change : (rules : List Category) (kept : Bool) → are_rules_kept tables.rules rules ≡ kept → decide_rules tables rules ≡ Replies (Some change) reply → apply tables change ≡ tables → ⊥
  rules_change rules true e h same =
      let none = (rules_set_or_same (are_rules_kept tables.rules rules) (is_enrolling tables.rounds) (fit_rows tables.register tables.rules rules) (RulesSet rules) _ _ _ _ (Some change) reply h).0 e in cc
  rules_change rules false e h same =
      let some = (rules_set_or_same (are_rules_kept tables.rules rules) (is_enrolling tables.rounds) (fit_rows tables.register tables.rules rules) (RulesSet rules) _ _ _ _ (Some change) reply h).1 e in
      let is : RulesSet rules ≡ change = cc in
      let kept : Some rules ≡ tables.rules = ap (λ (t : Tables). t.rules) (subst (λ c. apply tables c ≡ tables) (sym is) same) in
      false≢true (sym e ∙ subst (λ o. are_rules_kept o rules ≡ true) kept (same_rules_itself rules))

  added_changes : (added : List Entry) → addition added ≡ Some change → apply tables change ≡ tables → ⊥
  added_changes [] h same = cc
  added_changes (entry ∷ added) h same =
      let is : Added (entry ∷ added) ≡ change = cc in
      longer tables.register entry added (ap (λ (t : Tables). t.register) (subst (λ c. apply tables c ≡ tables) (sym is) same))

  registered_changes : (result : Result Sorted Refusal) → registered tables result ≡ Replies (Some change) reply → apply tables change ≡ tables → ⊥
  registered_changes (Err refusal) h same = cc
  registered_changes (Ok sorted) h same = added_changes sorted.added (cc) same

  checked_changes : (fits : Bool) (result : Result Sorted Refusal) (refusal : Refusal) → cond fits (registered tables result) (Refuses refusal) ≡ Replies (Some change) reply → apply tables change ≡ tables → ⊥
  checked_changes true result refusal h same = registered_changes result h same
  checked_changes false result refusal h same = cc

  register_changes : (rows : List Given) (rules : Option (List Category)) → register_by tables rows rules ≡ Replies (Some change) reply → apply tables change ≡ tables → ⊥
  register_changes rows None h same = cc
  register_changes rows (Some categories) h same = checked_changes (list_all (λ (g : Given). fits_rules categories g.values) rows) (sorted_rows (most_rows tables.charter) tables.rounds tables.register rows) _ h same

  of_rounds : (is : Change) → is ≡ change → apply tables change ≡ tables → (apply tables is).rounds ≡ tables.rounds
  of_rounds is e same = ap (λ (t : Tables). t.rounds) (subst (λ c. apply tables c ≡ tables) (sym e) same)

  seal_changes : (number : ℕ) (given : Option ℕ) (found : Option Round) → named_round tables.rounds number ≡ found → seal_in tables number given found ≡ Replies (Some change) reply → apply tables change ≡ tables → ⊥
  seal_changes number given None at h same = cc
  seal_changes number given (Some Open) at h same = cc
  seal_changes number given (Some (Solved bundle)) at h same = round_changes (seal_told given) tables.rounds number (Solved bundle) at (λ e. cc) (of_rounds (SealTold number given) (cc) same)
  seal_changes number given (Some (Sealed bundle tickets)) at h same = same_seal_changes_nothing tables tables bundle tickets given change reply h
  seal_changes number given (Some (Drawn bundle tickets digits dropped)) at h same = same_seal_changes_nothing tables tables bundle tickets given change reply h

  new_draw_changes : (number : ℕ) (given digits : List ℕ) (bundle : Bundle) (tickets : Option ℕ) → named_round tables.rounds number ≡ Some (Sealed bundle tickets) → (result : Result draws.Drawn draws.Refused) →
      new_draw number bundle given digits result ≡ Replies (Some change) reply → apply tables change ≡ tables → ⊥
  new_draw_changes number given digits bundle tickets at (Err refused) h same = cc
  new_draw_changes number given digits bundle tickets at (Ok drawn) h same = round_changes (drawn_by digits) tables.rounds number (Sealed bundle tickets) at (λ e. cc) (of_rounds (DrawnWith number digits) (cc) same)

  draw_changes : (number : ℕ) (given digits : List ℕ) (found : Option Round) → named_round tables.rounds number ≡ found → draw_in tables number given digits found ≡ Replies (Some change) reply → apply tables change ≡ tables → ⊥
  draw_changes number given digits None at h same = cc
  draw_changes number given digits (Some Open) at h same = cc
  draw_changes number given digits (Some (Solved bundle)) at h same = cc
  draw_changes number given digits (Some (Sealed bundle tickets)) at h same = new_draw_changes number given digits bundle tickets at (draw (drawn_lottery bundle tickets) (bundle_seal bundle) given digits) h same
  draw_changes number given digits (Some (Drawn bundle tickets kept dropped)) at h same =
      same_draw_changes_nothing tables tables bundle kept given digits change reply (not (is_seal (bundle_seal bundle) given)) (bytes_eq kept digits) _ _ _ h

  drop_changes : (number : ℕ) (id : List ℕ) (found : Option Round) → named_round tables.rounds number ≡ found → drop_in tables number id found ≡ Replies (Some change) reply → apply tables change ≡ tables → ⊥
  drop_changes number id None at h same = cc
  drop_changes number id (Some Open) at h same = cc
  drop_changes number id (Some (Solved bundle)) at h same = cc
  drop_changes number id (Some (Sealed bundle tickets)) at h same = cc
  drop_changes number id (Some (Drawn bundle tickets digits dropped)) at h same =
      let so = dropped_so tables tables number id bundle tickets digits change reply (includes_list (drawn_ids bundle tickets digits) id) (includes_list dropped id) (eqb number (length tables.rounds)) _ _ refl h in
      round_changes (dropped_out id) tables.rounds number (Drawn bundle tickets digits dropped) at (λ e. longer dropped id [] (cc)) (of_rounds (DroppedOut number id) so.same same)

  next_changes : (number : ℕ) (found : Option Round) → next_in tables number found ≡ Replies (Some change) reply → apply tables change ≡ tables → ⊥
  next_changes number None h same = cc
  next_changes number (Some round) h same =
      let is = begun tables tables number round change reply (eqb number (length tables.rounds)) refl h in
      longer tables.rounds Open [] (of_rounds Begun is.same same)

  -- marking a row as withdrawn alters the register, if its volunteer had not withdrawn
  module _ (part : Entry → List ℕ) (key : List ℕ) where
    withdrawal_changes : (register : List Entry) (i q place : ℕ) (entry : Entry) → place_by part register key i ≡ Some (place, entry) → place ≡ i + q → entry.withdrawn ≡ false → withdrawn_at register q ≡ register → ⊥
    withdrawal_changes [] i q place entry h at not same = cc
    withdrawal_changes (e ∷ register) i zero place entry h at not same = by (bytes_eq key (part e)) h
      where
        by : (b : Bool) → cond b (Some (i, e)) (place_by part register key (i + 1)) ≡ Some (place, entry) → ⊥
        by true k =
            let pair : (i, e) ≡ (place, entry) = cc in
            let this : e ≡ entry = ap (λ (p : ℕ × Entry). p.1) pair in
            let changed : record e { withdrawn = true } ≡ e = cc in
            false≢true (sym not ∙ (ap (λ (x : Entry). x.withdrawn) (sym this) ∙ ap (λ (x : Entry). x.withdrawn) (sym changed)))
        by false k = let l = place_from part register key (i + 1) (place, entry) k in omega arith
    withdrawal_changes (e ∷ register) i (suc q) place entry h at not same = by (bytes_eq key (part e)) h (λ k l m. withdrawal_changes register (i + 1) q place entry k l not m)
      where
        by : (b : Bool) → cond b (Some (i, e)) (place_by part register key (i + 1)) ≡ Some (place, entry) →
            (place_by part register key (i + 1) ≡ Some (place, entry) → place ≡ i + 1 + q → withdrawn_at register q ≡ register → ⊥) → ⊥
        by true k again =
            let pair : (i, e) ≡ (place, entry) = cc in
            let here : i ≡ place = ap (λ (p : ℕ × Entry). p.0) pair in omega arith
        by false k again = again k (omega arith) (cc)

    row_changes : (told : Reply) (place : ℕ) (entry : Entry) → place_by part tables.register key 0 ≡ Some (place, entry) → withdraw_row tables told place entry ≡ Replies (Some change) reply → apply tables change ≡ tables → ⊥
    row_changes told place entry at h same = by entry.withdrawn refl
      where
        test : Bool
        test = is_last_open tables.rounds && not (is_seated_in (pool_of tables (length tables.rounds)) place)

        by : (withdrawn : Bool) → entry.withdrawn ≡ withdrawn → ⊥
        by true e = let k = subst (λ b. cond b (Replies None told) (cond test (Replies (Some (Withdrawn place)) told) (Refuses TooLate)) ≡ Replies (Some change) reply) e h in cc
        by false e =
            let is = withdrawal place change told reply entry.withdrawn test h in
            withdrawal_changes tables.register 0 place place entry at (omega arith) e (ap (λ (t : Tables). t.register) (subst (λ c. apply tables c ≡ tables) (sym is.0) same))

  withdraw_changes : (hash : List ℕ) (found : Option (ℕ × Entry)) → place_of_hash tables.register hash 0 ≡ found → withdraw_at tables found ≡ Replies (Some change) reply → apply tables change ≡ tables → ⊥
  withdraw_changes hash None at h same = cc
  withdraw_changes hash (Some (place, entry)) at h same = row_changes (λ (e : Entry). e.hash) hash (Lines []) place entry (sym (place_by_hash tables.register hash 0) ∙ at) h same

  withdraw_id_changes : (id : List ℕ) (found : Option (ℕ × Entry)) → place_of_id tables.register id 0 ≡ found → withdraw_id_at tables id found ≡ Replies (Some change) reply → apply tables change ≡ tables → ⊥
  withdraw_id_changes id None at h same = cc
  withdraw_id_changes id (Some (place, entry)) at h same = row_changes (λ (e : Entry). e.id) id _ place entry (sym (place_by_id tables.register id 0) ∙ at) h same

  -- ---- bounds, a dropout that is taken back, and a round that is taken away

  bounds_change : (number : ℕ) (bounds : List Category) → leb 2 number ≡ true → SetsBounds tables number bounds change → apply tables change ≡ tables → ⊥
  bounds_change zero bounds second sets same = false≢true second
  bounds_change (suc zero) bounds second sets same = false≢true second
  bounds_change (suc (suc before)) bounds second sets same =
      let base = has_base tables before sets.pool sets.open_now sets.of in
      let pool = pool_after tables.register (round_at tables.rounds before) in
      let kept : Some bounds ≡ tables.bounds = ap (λ (t : Tables). t.bounds) (subst (λ c. apply tables c ≡ tables) (sym sets.is) same) in
      let its : sets.pool ≡ with_bounds (Some bounds) pool = base.is ∙ ap (λ b. with_bounds b pool) (sym kept) in
      let shape = same_shape_below pool (Some bounds) bounds (subst (λ p. same_shape p.categories bounds ≡ true) its sets.shape) in
      let are : sets.pool.categories ≡ bounds = ap (λ (p : Pool). p.categories) its ∙ has_bounds pool bounds shape in
      false≢true (sym sets.differs ∙ (ap (λ cs. same_rules cs bounds) are ∙ same_rules_itself bounds))

  undrop_changes : (number : ℕ) (id : List ℕ) (found : Option Round) → named_round tables.rounds number ≡ found → undrop_in tables number id found ≡ Replies (Some change) reply → apply tables change ≡ tables → ⊥
  undrop_changes number id None at h same = cc
  undrop_changes number id (Some Open) at h same = cc
  undrop_changes number id (Some (Solved bundle)) at h same = cc
  undrop_changes number id (Some (Sealed bundle tickets)) at h same = cc
  undrop_changes number id (Some (Drawn bundle tickets digits dropped)) at h same =
      let so = takes_so tables number id dropped (Some change) reply (includes_list dropped id) (is_withdrawn (with_id tables.register id)) (eqb number (length tables.rounds)) _ _ _ _ refl h in
      let is : TakenBack number id ≡ change = let e = so.is in cc in
      round_changes (taken_back id) tables.rounds number (Drawn bundle tickets digits dropped) at
      (λ e. let less : without_id id dropped ≡ dropped = cc in false≢true (sym (none_left id dropped) ∙ (ap (λ ids. includes_list ids id) less ∙ so.member))) (of_rounds (TakenBack number id) is same)

  reopen_changes : (number : ℕ) → TakesAway tables number (Some change) → apply tables change ≡ tables → ⊥
  reopen_changes zero so same = let at = so.open_now in cc
  reopen_changes (suc place) so same =
      let is : Reopened (suc place) ≡ change = let e = so.is in cc in
      let less = length-taken tables.rounds place so.open_now so.last in
      let rounds : taken_at tables.rounds place ≡ tables.rounds = of_rounds (Reopened (suc place)) is same in
      let n = ap length rounds in
      let last = so.last in
      omega arith

  answered_changes : (number : ℕ) (pool : Pool) (found : Answered) → named_round tables.rounds number ≡ Some Open → Replies (Some change) reply ≡ answered number pool found → apply tables change ≡ tables → ⊥
  answered_changes number pool FindsNone at h same = cc
  answered_changes number pool (Finds answer) at h same =
      let bundle : Bundle = record { pool = pool; answer = answer } in
      round_changes (solved_with bundle) tables.rounds number Open at (λ e. cc) (of_rounds (SolvedWith number bundle) (cc) same)

  settled_changes : (number : ℕ) → Settles tables number (Replies (Some change) reply) → apply tables change ≡ tables → ⊥
  settled_changes number (Leaves stays) same = absurd stays
  settled_changes number (Answers pool found open_round right is) same = answered_changes number pool found open_round.open_now is same

  at_once_changes : IsTables tables → (command : Command) → IsCommand command → asked tables command ≡ IsDecided (Replies (Some change) reply) → apply tables change ≡ tables → ⊥
  at_once_changes keeps (SetCharter charter) is h same = charter_changes charter (is_charter_kept tables.charter charter) refl (says _ _ h) same
  at_once_changes keeps (SetRules rules) is h same = rules_change rules (are_rules_kept tables.rules rules) refl (says _ _ h) same
  at_once_changes keeps (Register rows) is h same = register_changes rows tables.rules (says _ _ h) same
  at_once_changes keeps (Solve number limits) is h same = settled_changes number (solve_settles tables keeps number limits (Replies (Some change) reply) is (AtOnce h)) same
  at_once_changes keeps (Keep number proof) is h same = settled_changes number (proof_settles tables keeps number proof (Replies (Some change) reply) is (AtOnce h)) same
  at_once_changes keeps (Seal number tickets) is h same = seal_changes number tickets (named_round tables.rounds number) refl (says _ _ h) same
  at_once_changes keeps (Draw number given digits) is h same = draw_changes number given digits (named_round tables.rounds number) refl (says _ _ h) same
  at_once_changes keeps (Drop number id) is h same = drop_changes number id (named_round tables.rounds number) refl (says _ _ h) same
  at_once_changes keeps (NextRound after) is h same = next_changes after (named_round tables.rounds after) (says _ _ h) same
  at_once_changes keeps (Show number) is h same = show_changes_nothing tables (named_round tables.rounds number) change reply (says _ _ h)
  at_once_changes keeps (Withdraw key) is h same = withdraw_changes (seal_of key) (place_of_hash tables.register (seal_of key) 0) refl (says _ _ h) same
  at_once_changes keeps (SetBounds number bounds) is h same =
      bounds_change number bounds is.0 (bounds_set tables number bounds change reply (pool_of tables number) (named_round tables.rounds number) refl refl (says _ _ h)) same
  at_once_changes keeps (TryDraw number given digits) is h same = tried_changes_nothing (draw_in tables number given digits (named_round tables.rounds number)) change reply (says _ _ h)
  at_once_changes keeps (Undrop number id) is h same = undrop_changes number id (named_round tables.rounds number) refl (says _ _ h) same
  at_once_changes keeps (Reopen number) is h same = reopen_changes number (takes_away tables number (Some change) reply (named_round tables.rounds number) refl (says _ _ h)) same
  at_once_changes keeps (WithdrawId id) is h same = withdraw_id_changes id (place_of_id tables.register id 0) refl (says _ _ h) same

pub changes_change : (tables : Tables) (command : Command) (change : Change) (reply : Reply) → IsTables tables → IsCommand command → Comes tables command (Replies (Some change) reply) → apply tables change ≢ tables
changes_change tables command change reply keeps fits (AtOnce h) = λ same. at_once_changes tables change reply keeps command fits h same
changes_change tables command change reply keeps fits (ByRun number limits pool ending is needs ends comes) = λ same.
    settled_changes tables change reply number
    (solve_settles tables keeps number limits (Replies (Some change) reply) (subst IsCommand is fits) (ByRun number limits pool ending refl (subst (λ c. asked tables c ≡ NeedsRun pool) is needs) ends comes)) same
