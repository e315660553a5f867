-- The laws of commands that are given again, by command.
use Rattle.std.proofs.Common.{◌≡◌, ℕ, zero, suc, ◌+◌, ◌≤◌, leb, Bool, true, false, cond, eqb, not, List, [], ◌∷◌, length, Option, Some, None, Result, Ok, Err, refl, sym, ap, subst}
use Rattle.std.specs.List.{AllByRecursion}
use Rattle.std.specs.Prelude.{codes}
use Rattle.std.specs.Str.{bytes_eq}
use Rattle.std.proofs.lemmas.Bool.{eqb-true, false≢true}
use Rattle.std.proofs.lemmas.Bool.Decides.{Decides-eqb}
use Rattle.std.proofs.lemmas.Slice.Eq.{bytes_eq-Decides}
use Rattle.define_pools.specs.Lists.{includes_list}
use Rattle.define_pools.specs.Pool.{BoundedValue, Category, Pool}
use Rattle.define_draws.specs.Seal.{seal_of}
use Rattle.define_offices.specs.Tables.{Charter, Entry, Round, Open, Solved, Sealed, Drawn, Tables, is_enrolling, named_round, round_at, taken_at, same_charter, same_rules, same_shape, same_values}
use Rattle.define_offices.specs.Commands.{Command, SetCharter, SetRules, Register, Solve, Keep, Seal, Draw, Drop, NextRound, Show, Withdraw, SetBounds, TryDraw, Undrop, Reopen, WithdrawId, Change, CharterSet, RulesSet, BoundsSet, TakenBack, Reopened, NotDropped, Outcome, Replies, Refuses, Stops, Unproved, Refusal, Reply}
use Rattle.define_offices.specs.Deciding.{IsDecided, NeedsRun, are_rules_kept, asked, bounds_in, bounds_over, charter_over, decide_bounds, decide_charter, decide_rules, draw_in, fit_rows, is_charter_kept, no_round, is_withdrawn, place_of_hash, place_of_id, reopen_at, reopen_in, row_beyond, show_in, tells, undrop_in, with_id, without_change}
use Rattle.define_offices.specs.Facts.{IsCommand, IsTables}
use Rattle.define_offices.specs.Lines.{charter_line, rules_line}
use Rattle.define_offices.specs.Pools.{pool_after, pool_by, pool_of, with_bounds}
use Rattle.define_offices.specs.Repeats.{IsRepeatable, LeadThroughSparing, TakesNothingBack, reply_again}
use Rattle.define_offices.specs.Steps.{AtOnce, ByRun, Comes, LeadThrough, apply, applied, taken_back, without_id}
use Rattle.define_offices.proofs.Certified.{comes_spares}
use Rattle.define_offices.proofs.Later.{Extends, through_extends}
use Rattle.define_offices.proofs.Repeats.{HasDropped, named_there, draw_again, drop_again, next_again, seal_again, settled_again}
use Rattle.define_offices.proofs.Rounds.{length-taken, none-after}
use Rattle.define_offices.proofs.RowsAgain.{register_again, withdraw_again, withdraw_id_again}
use Rattle.define_offices.proofs.Shapes.{has_bounds, same_shape_below}
use Rattle.define_offices.proofs.Spared.{begun_stays, dropout_stays, leads_through, through_stays}
use Rattle.define_offices.proofs.Steps.{comes_keeps, proof_settles, solve_settles, step_keeps, through_keeps}

-- ---- a charter or rules given again at once

same_bytes : (xs : List ℕ) → bytes_eq xs xs ≡ true
same_bytes xs = (bytes_eq-Decides xs xs).1 refl

same_number : (n : ℕ) → eqb n n ≡ true
same_number n = (Decides-eqb n n).1 refl

pub same_charter_itself : (charter : Charter) → same_charter charter charter ≡ true
same_charter_itself charter = rw (same_bytes charter.title, same_number charter.size, same_number charter.volunteers) refl

same_values_itself : (values : List BoundedValue) → same_values values values ≡ true
same_values_itself [] = refl
same_values_itself (value ∷ values) = rw (same_bytes value.name, same_number value.lower, same_number value.upper, same_values_itself values) refl

pub same_rules_itself : (rules : List Category) → same_rules rules rules ≡ true
same_rules_itself [] = refl
same_rules_itself (category ∷ rules) = rw (same_bytes category.name, same_values_itself category.values, same_rules_itself rules) refl

-- a reply to a charter comes with no change if the tables have this charter already, else the charter is set
pub set_or_same : (kept enrolling : Bool) (charter : Charter) (beyond : Option Entry) (same : Reply) (late : Refusal) (answer : Option Change) (reply : Reply) →
    cond kept (Replies None same) (cond enrolling (charter_over charter beyond) (Refuses late)) ≡ Replies answer reply → (kept ≡ true → answer ≡ None) × (kept ≡ false → answer ≡ Some (CharterSet charter))
set_or_same true enrolling charter beyond same late answer reply h = (λ _. cc, λ e. absurd (false≢true (sym e)))
set_or_same false true charter None same late answer reply h = (λ e. absurd (false≢true e), λ _. cc)
set_or_same false true charter (Some entry) same late answer reply h = absurd (cc)
set_or_same false false charter beyond same late answer reply h = absurd (cc)

charter_kept : (tables : Tables) (charter : Charter) (change : Option Change) (reply : Reply) (kept : Bool) → is_charter_kept tables.charter charter ≡ kept → decide_charter tables charter ≡ Replies change reply →
    is_charter_kept (applied tables change).charter charter ≡ true
charter_kept tables charter change reply true e h =
    let none = (set_or_same (is_charter_kept tables.charter charter) (is_enrolling tables.rounds) charter (row_beyond tables.register charter.volunteers) _ _ change reply h).0 e in
    subst (λ c. is_charter_kept (applied tables c).charter charter ≡ true) (sym none) e
charter_kept tables charter change reply false e h =
    let some = (set_or_same (is_charter_kept tables.charter charter) (is_enrolling tables.rounds) charter (row_beyond tables.register charter.volunteers) _ _ change reply h).1 e in
    subst (λ c. is_charter_kept (applied tables c).charter charter ≡ true) (sym some) (same_charter_itself charter)

pub charter_again : (tables : Tables) (charter : Charter) (change : Option Change) (reply : Reply) → Comes tables (SetCharter charter) (Replies change reply) →
    asked (applied tables change) (SetCharter charter) ≡ IsDecided (tells (charter_line (codes "same")))
charter_again tables charter change reply (AtOnce h) =
    let kept = charter_kept tables charter change reply (is_charter_kept tables.charter charter) refl (cc) in rw kept refl
charter_again tables charter change reply (ByRun number limits pool ending same needs ends is) = absurd (cc)

-- a reply to rules comes with no change if the tables have these rules already, else with `change`
pub rules_set_or_same : (kept enrolling fit : Bool) (change : Change) (same set : Reply) (late other : Refusal) (answer : Option Change) (reply : Reply) →
    cond kept (Replies None same) (cond (not enrolling) (Refuses late) (cond fit (Replies (Some change) set) (Refuses other))) ≡ Replies answer reply → (kept ≡ true → answer ≡ None) × (kept ≡ false → answer ≡ Some change)
rules_set_or_same true enrolling fit change same set late other answer reply h = (λ _. cc, λ e. absurd (false≢true (sym e)))
rules_set_or_same false true true change same set late other answer reply h = (λ e. absurd (false≢true e), λ _. cc)
rules_set_or_same false true false change same set late other answer reply h = absurd (cc)
rules_set_or_same false false fit change same set late other answer reply h = absurd (cc)

rules_kept : (tables : Tables) (rules : List Category) (change : Option Change) (reply : Reply) (kept : Bool) → are_rules_kept tables.rules rules ≡ kept → decide_rules tables rules ≡ Replies change reply →
    are_rules_kept (applied tables change).rules rules ≡ true
rules_kept tables rules change reply true e h =
    let none = (rules_set_or_same (are_rules_kept tables.rules rules) (is_enrolling tables.rounds) (fit_rows tables.register tables.rules rules) (RulesSet rules) _ _ _ _ change reply h).0 e in
    subst (λ c. are_rules_kept (applied tables c).rules rules ≡ true) (sym none) e
rules_kept tables rules change reply false e h =
    let some = (rules_set_or_same (are_rules_kept tables.rules rules) (is_enrolling tables.rounds) (fit_rows tables.register tables.rules rules) (RulesSet rules) _ _ _ _ change reply h).1 e in
    subst (λ c. are_rules_kept (applied tables c).rules rules ≡ true) (sym some) (same_rules_itself rules)

pub rules_again : (tables : Tables) (rules : List Category) (change : Option Change) (reply : Reply) → Comes tables (SetRules rules) (Replies change reply) →
    asked (applied tables change) (SetRules rules) ≡ IsDecided (tells (rules_line (codes "same")))
rules_again tables rules change reply (AtOnce h) =
    let kept = rules_kept tables rules change reply (are_rules_kept tables.rules rules) refl (cc) in rw kept refl
rules_again tables rules change reply (ByRun number limits pool ending same needs ends is) = absurd (cc)

-- ---- any other command given again at any later time

pub show_changes_nothing : (tables : Tables) (found : Option Round) (change : Change) (reply : Reply) → show_in tables found ≡ Replies (Some change) reply → ⊥
show_changes_nothing tables None change reply h = cc
show_changes_nothing tables (Some Open) change reply h = cc
show_changes_nothing tables (Some (Solved bundle)) change reply h = cc
show_changes_nothing tables (Some (Sealed bundle tickets)) change reply h = cc
show_changes_nothing tables (Some (Drawn bundle tickets digits dropped)) change reply h = cc

pub says : (one outcome : Outcome) → IsDecided one ≡ IsDecided outcome → one ≡ outcome
says one outcome h = cc

pub tried_changes_nothing : (outcome : Outcome) (change : Change) (reply : Reply) → without_change outcome ≡ Replies (Some change) reply → ⊥
tried_changes_nothing (Replies answer told) change reply h = cc
tried_changes_nothing (Refuses refusal) change reply h = cc
tried_changes_nothing (Stops ending) change reply h = cc
tried_changes_nothing (Unproved refusal) change reply h = cc

-- what must still be there in the tables `later`, beyond rounds past Open and rows, if `command` was given in `first`
abbrev StillThere : Tables → Tables → Command → Type 0
StillThere first later (SetCharter charter) = Unit {0}
StillThere first later (SetRules rules) = Unit {0}
StillThere first later (Register rows) = Unit {0}
StillThere first later (Solve number limits) = Unit {0}
StillThere first later (Keep number proof) = Unit {0}
StillThere first later (Seal number tickets) = Unit {0}
StillThere first later (Draw number given digits) = Unit {0}
StillThere first later (Drop number id) = HasDropped first.rounds number id → HasDropped later.rounds number id
StillThere first later (NextRound after) = after + 1 ≤ length first.rounds → after + 1 ≤ length later.rounds
StillThere first later (Show number) = Unit {0}
StillThere first later (Withdraw key) = Unit {0}
StillThere first later (SetBounds number bounds) = Unit {0}
StillThere first later (TryDraw number given digits) = Unit {0}
StillThere first later (Undrop number id) = Unit {0}
StillThere first later (Reopen number) = Unit {0}
StillThere first later (WithdrawId id) = Unit {0}

still_there : (first : Tables) (between : List Command) (later : Tables) (command : Command) → LeadThroughSparing command first between later → StillThere first later command
still_there first between later (SetCharter charter) leads = tt
still_there first between later (SetRules rules) leads = tt
still_there first between later (Register rows) leads = tt
still_there first between later (Solve number limits) leads = tt
still_there first between later (Keep number proof) leads = tt
still_there first between later (Seal number tickets) leads = tt
still_there first between later (Draw number given digits) leads = tt
still_there first between later (Drop number id) leads = through_stays (Drop number id) (λ tables. HasDropped tables.rounds number id) (dropout_stays number id) first between later leads
still_there first between later (NextRound after) leads = through_stays (NextRound after) (λ tables. after + 1 ≤ length tables.rounds) (begun_stays after) first between later leads
still_there first between later (Show number) leads = tt
still_there first between later (Withdraw key) leads = tt
still_there first between later (SetBounds number bounds) leads = tt
still_there first between later (TryDraw number given digits) leads = tt
still_there first between later (Undrop number id) leads = tt
still_there first between later (Reopen number) leads = tt
still_there first between later (WithdrawId id) leads = tt

module _ (before later : Tables) (keeps : IsTables before) (kept : IsTables later) (change : Change) (reply : Reply) (grown : Extends (apply before change) later) where
  at_once : (command : Command) → IsCommand command → IsRepeatable command → StillThere (apply before change) later command → asked before command ≡ IsDecided (Replies (Some change) reply) →
      asked later command ≡ IsDecided (Replies None (reply_again later command reply))
  at_once (SetCharter charter) fits is still h = absurd is
  at_once (SetRules rules) fits is still h = absurd is
  at_once (Register rows) fits is still h = ap IsDecided (register_again before later kept rows change reply before.rules (says _ _ h) grown.rows)
  at_once (Solve number limits) fits is still h =
      (settled_again before later number change reply (solve_settles before keeps number limits (Replies (Some change) reply) fits (AtOnce h)) grown.rounds).by_solve
  at_once (Keep number proof) fits is still h =
      ap IsDecided ((settled_again before later number change reply (proof_settles before keeps number proof (Replies (Some change) reply) fits (AtOnce h)) grown.rounds).by_proof proof)
  at_once (Seal number tickets) fits is still h = ap IsDecided (seal_again before later number tickets change reply (named_round before.rounds number) refl (says _ _ h) grown.rounds)
  at_once (Draw number given digits) fits is still h = ap IsDecided (draw_again before later number given digits change reply (named_round before.rounds number) refl (says _ _ h) grown.rounds)
  at_once (Drop number id) fits is still h = ap IsDecided (drop_again before later number id change reply (named_round before.rounds number) refl (says _ _ h) still)
  at_once (NextRound after) fits is still h = ap IsDecided (next_again before later after change reply (named_round before.rounds after) refl (says _ _ h) still)
  at_once (Show number) fits is still h = absurd (show_changes_nothing before (named_round before.rounds number) change reply (says _ _ h))
  at_once (Withdraw key) fits is still h =
      ap IsDecided (withdraw_again before later (seal_of key) change reply (place_of_hash before.register (seal_of key) 0) refl (says _ _ h) grown.rows)
  at_once (SetBounds number bounds) fits is still h = absurd is
  at_once (TryDraw number given digits) fits is still h = absurd (tried_changes_nothing (draw_in before number given digits (named_round before.rounds number)) change reply (says _ _ h))
  at_once (Undrop number id) fits is still h = absurd is
  at_once (Reopen number) fits is still h = absurd is
  at_once (WithdrawId id) fits is still h = ap IsDecided (withdraw_id_again before later id change reply (place_of_id before.register id 0) refl (says _ _ h) grown.rows)

  pub again : (command : Command) → IsCommand command → IsRepeatable command → StillThere (apply before change) later command → Comes before command (Replies (Some change) reply) →
      asked later command ≡ IsDecided (Replies None (reply_again later command reply))
  again command fits is still (AtOnce h) = at_once command fits is still h
  again command fits is still (ByRun number limits pool ending same needs ends comes) =
      let settles = solve_settles before keeps number limits (Replies (Some change) reply) (subst IsCommand same fits)
      (ByRun number limits pool ending refl (subst (λ c. asked before c ≡ NeedsRun pool) same needs) ends comes) in
      let told = (settled_again before later number change reply settles grown.rounds).by_solve in
      subst (λ c. asked later c ≡ IsDecided (Replies None (reply_again later c reply))) (sym same) told

pub spared_repeats_change_nothing : (before : Tables) (command : Command) (change : Change) (reply : Reply) (between : List Command) (later : Tables) → IsRepeatable command →
    IsTables before → IsCommand command → AllByRecursion IsCommand between →
    Comes before command (Replies (Some change) reply) → LeadThroughSparing command (apply before change) between later →
    asked later command ≡ IsDecided (Replies None (reply_again later command reply))
spared_repeats_change_nothing before command change reply between later is keeps fits are comes sparing =
    let leads = leads_through command (apply before change) between later sparing in
    let first = comes_keeps before keeps command (Replies (Some change) reply) fits comes in
    let last = through_keeps (apply before change) between later first are leads in
    again before later keeps last change reply (through_extends (apply before change) between later leads) command fits is (still_there (apply before change) between later command sparing) comes

-- commands that take no change back take none of `kept` back
all_spare : (kept : Command) (before : Tables) (commands : List Command) (after : Tables) → IsTables before → AllByRecursion IsCommand commands → AllByRecursion TakesNothingBack commands →
    LeadThrough before commands after → LeadThroughSparing kept before commands after
all_spare kept before [] after keeps are none leads = leads
all_spare kept before (command ∷ later) after keeps are none (next, (leads, rest)) =
    (next, (record { leads = leads; spares = comes_spares before keeps kept command leads.outcome are.0 none.0 leads.comes }, all_spare kept next later after (step_keeps before command next keeps are.0 leads) are.1 none.1 rest))

pub repeats_change_nothing : (before : Tables) (command : Command) (change : Change) (reply : Reply) (between : List Command) (later : Tables) → IsRepeatable command →
    IsTables before → IsCommand command → AllByRecursion IsCommand between → AllByRecursion TakesNothingBack between →
    Comes before command (Replies (Some change) reply) → LeadThrough (apply before change) between later →
    asked later command ≡ IsDecided (Replies None (reply_again later command reply))
repeats_change_nothing before command change reply between later is keeps fits are none comes leads =
    let first = comes_keeps before keeps command (Replies (Some change) reply) fits comes in
    spared_repeats_change_nothing before command change reply between later is keeps fits are comes (all_spare command (apply before change) between later first are none leads)

-- ---- bounds that are set

-- the round with `number` is open and has `pool`; bounds that differ from the pool's, but have the same names, are set
pub record SetsBounds (tables : Tables) (number : ℕ) (bounds : List Category) (change : Change) : Type 0 where
  pub pool : Pool
  pub of : pool_of tables number ≡ Ok pool
  pub open_now : named_round tables.rounds number ≡ Some Open
  pub differs : same_rules pool.categories bounds ≡ false
  pub shape : same_shape pool.categories bounds ≡ true
  pub is : BoundsSet bounds ≡ change

bounds_in_set : (tables : Tables) (number : ℕ) (bounds : List Category) (change : Change) (reply : Reply) (pool : Pool) (round : Round) → pool_of tables number ≡ Ok pool → named_round tables.rounds number ≡ Some round →
    same_rules pool.categories bounds ≡ false → bounds_in pool bounds round ≡ Replies (Some change) reply → SetsBounds tables number bounds change
bounds_in_set tables number bounds change reply pool Open of at differs h = by (same_shape pool.categories bounds) refl _ _ h
  where
    by : (shape : Bool) → same_shape pool.categories bounds ≡ shape → (told : Reply) (refusal : Refusal) → cond shape (Replies (Some (BoundsSet bounds)) told) (Refuses refusal) ≡ Replies (Some change) reply → SetsBounds tables number bounds change
    by true e told refusal k = record { pool = pool; of = of; open_now = at; differs = differs; shape = e; is = cc }
    by false e told refusal k = absurd (cc)
bounds_in_set tables number bounds change reply pool (Solved bundle) of at differs h = absurd (cc)
bounds_in_set tables number bounds change reply pool (Sealed bundle tickets) of at differs h = absurd (cc)
bounds_in_set tables number bounds change reply pool (Drawn bundle tickets digits dropped) of at differs h = absurd (cc)

bounds_or_same : (tables : Tables) (number : ℕ) (bounds : List Category) (change : Change) (reply : Reply) (pool : Pool) (round : Round) → pool_of tables number ≡ Ok pool → named_round tables.rounds number ≡ Some round →
    (same : Bool) → same_rules pool.categories bounds ≡ same → (told : Reply) → cond same (Replies None told) (bounds_in pool bounds round) ≡ Replies (Some change) reply → SetsBounds tables number bounds change
bounds_or_same tables number bounds change reply pool round of at true e told h = absurd (cc)
bounds_or_same tables number bounds change reply pool round of at false e told h = bounds_in_set tables number bounds change reply pool round of at e h

pub bounds_set : (tables : Tables) (number : ℕ) (bounds : List Category) (change : Change) (reply : Reply) (result : Result Pool Refusal) (found : Option Round) → pool_of tables number ≡ result → named_round tables.rounds number ≡ found →
    bounds_over tables bounds result found ≡ Replies (Some change) reply → SetsBounds tables number bounds change
bounds_set tables number bounds change reply (Err refusal) found of at h = absurd (cc)
bounds_set tables number bounds change reply (Ok pool) None of at h = absurd (cc)
bounds_set tables number bounds change reply (Ok pool) (Some round) of at h = bounds_or_same tables number bounds change reply pool round of at (same_rules pool.categories bounds) refl _ h

-- the pool of an open round that isn't the first, and what other bounds make of it
pub record HasBase (tables : Tables) (before : ℕ) (pool : Pool) : Type 0 where
  pub is : pool ≡ with_bounds tables.bounds (pool_after tables.register (round_at tables.rounds before))
  pub with_other : (bounds : List Category) → pool_of (record tables { bounds = Some bounds }) (suc (suc before)) ≡ Ok (with_bounds (Some bounds) (pool_after tables.register (round_at tables.rounds before)))

base_by : (tables : Tables) (before : ℕ) (charter : Option Charter) (rules : Option (List Category)) → tables.charter ≡ charter → tables.rules ≡ rules → round_at tables.rounds (suc before) ≡ Some Open → (pool : Pool) →
    pool_by charter rules tables (suc before) Open ≡ Ok pool → HasBase tables before pool
base_by tables before None rules c r at pool h = absurd (cc)
base_by tables before (Some charter) None c r at pool h = absurd (cc)
base_by tables before (Some charter) (Some categories) c r at pool h = record { is = cc; with_other = λ bounds. rw (at, c, r) refl }

pub has_base : (tables : Tables) (before : ℕ) (pool : Pool) → named_round tables.rounds (suc (suc before)) ≡ Some Open → pool_of tables (suc (suc before)) ≡ Ok pool → HasBase tables before pool
has_base tables before pool at of = base_by tables before tables.charter tables.rules refl refl at pool (rw at at of)

bounds_kept : (tables : Tables) (number : ℕ) (bounds : List Category) (change : Change) → leb 2 number ≡ true → SetsBounds tables number bounds change →
    asked (apply tables change) (SetBounds number bounds) ≡ IsDecided (tells (rules_line (codes "same")))
bounds_kept tables zero bounds change second sets = absurd (false≢true second)
bounds_kept tables (suc zero) bounds change second sets = absurd (false≢true second)
bounds_kept tables (suc (suc before)) bounds change second sets =
    let base = has_base tables before sets.pool sets.open_now sets.of in
    let pool = pool_after tables.register (round_at tables.rounds before) in
    let shape = same_shape_below pool tables.bounds bounds (subst (λ p. same_shape p.categories bounds ≡ true) base.is sets.shape) in
    let same : same_rules (with_bounds (Some bounds) pool).categories bounds ≡ true = rw (has_bounds pool bounds shape) (same_rules_itself bounds) in
    let told : asked (record tables { bounds = Some bounds }) (SetBounds (suc (suc before)) bounds) ≡ IsDecided (tells (rules_line (codes "same"))) =
    rw (base.with_other bounds, sets.open_now, same) refl in
    subst (λ c. asked (apply tables c) (SetBounds (suc (suc before)) bounds) ≡ IsDecided (tells (rules_line (codes "same")))) sets.is told

-- a reply without a change says `same`
bounds_told_in : (pool : Pool) (bounds : List Category) (reply : Reply) (round : Round) → bounds_in pool bounds round ≡ Replies None reply → ⊥
bounds_told_in pool bounds reply Open h = by (same_shape pool.categories bounds) _ _ _ h
  where
    by : (shape : Bool) (change : Change) (told : Reply) (refusal : Refusal) → cond shape (Replies (Some change) told) (Refuses refusal) ≡ Replies None reply → ⊥
    by true change told refusal k = cc
    by false change told refusal k = cc
bounds_told_in pool bounds reply (Solved bundle) h = cc
bounds_told_in pool bounds reply (Sealed bundle tickets) h = cc
bounds_told_in pool bounds reply (Drawn bundle tickets digits dropped) h = cc

bounds_told : (tables : Tables) (bounds : List Category) (reply : Reply) (result : Result Pool Refusal) (found : Option Round) → bounds_over tables bounds result found ≡ Replies None reply →
    bounds_over tables bounds result found ≡ tells (rules_line (codes "same"))
bounds_told tables bounds reply (Err refusal) found h = absurd (cc)
bounds_told tables bounds reply (Ok pool) None h = absurd (cc)
bounds_told tables bounds reply (Ok pool) (Some round) h = by (same_rules pool.categories bounds) h
  where
    by : (same : Bool) → cond same (tells (rules_line (codes "same"))) (bounds_in pool bounds round) ≡ Replies None reply → cond same (tells (rules_line (codes "same"))) (bounds_in pool bounds round) ≡ tells (rules_line (codes "same"))
    by true k = refl
    by false k = absurd (bounds_told_in pool bounds reply round k)

bounds_again_by : (tables : Tables) (number : ℕ) (bounds : List Category) (change : Option Change) (reply : Reply) → leb 2 number ≡ true → decide_bounds tables number bounds ≡ Replies change reply →
    asked (applied tables change) (SetBounds number bounds) ≡ IsDecided (tells (rules_line (codes "same")))
bounds_again_by tables number bounds None reply second h = ap IsDecided (bounds_told tables bounds reply (pool_of tables number) (named_round tables.rounds number) h)
bounds_again_by tables number bounds (Some change) reply second h =
    bounds_kept tables number bounds change second (bounds_set tables number bounds change reply (pool_of tables number) (named_round tables.rounds number) refl refl h)

pub bounds_again : (tables : Tables) (number : ℕ) (bounds : List Category) (change : Option Change) (reply : Reply) → IsTables tables → IsCommand (SetBounds number bounds) →
    Comes tables (SetBounds number bounds) (Replies change reply) → asked (applied tables change) (SetBounds number bounds) ≡ IsDecided (tells (rules_line (codes "same")))
bounds_again tables number bounds change reply keeps fits (AtOnce h) = bounds_again_by tables number bounds change reply fits.0 (says _ _ h)
bounds_again tables number bounds change reply keeps fits (ByRun other limits pool ending same needs ends is) = absurd (cc)

-- a reply `same` comes only where the pool has the bounds
told_same : (tables : Tables) (bounds : List Category) (pool : Pool) (found : Option Round) → bounds_over tables bounds (Ok pool) found ≡ tells (rules_line (codes "same")) → same_rules pool.categories bounds ≡ true
told_same tables bounds pool None h = absurd (cc)
told_same tables bounds pool (Some round) h = by (same_rules pool.categories bounds) refl h
  where
    by : (same : Bool) → same_rules pool.categories bounds ≡ same → cond same (tells (rules_line (codes "same"))) (bounds_in pool bounds round) ≡ tells (rules_line (codes "same")) → same_rules pool.categories bounds ≡ true
    by true e k = e
    by false e k = absurd (bounds_told_in pool bounds _ round k)

pub bounds_hold : (tables : Tables) (number : ℕ) (bounds : List Category) (change : Option Change) (reply : Reply) (pool : Pool) → IsTables tables → IsCommand (SetBounds number bounds) →
    Comes tables (SetBounds number bounds) (Replies change reply) → pool_of (applied tables change) number ≡ Ok pool → same_rules pool.categories bounds ≡ true
bounds_hold tables number bounds change reply pool keeps fits comes of =
    let later = applied tables change in
    let told = says _ _ (bounds_again tables number bounds change reply keeps fits comes) in
    told_same later bounds pool (named_round later.rounds number) (subst (λ result. bounds_over later bounds result (named_round later.rounds number) ≡ tells (rules_line (codes "same"))) of told)

-- ---- a draw that is tried

pub tries_are_draws : (tables : Tables) (number : ℕ) (given digits : List ℕ) (outcome : Outcome) → Comes tables (Draw number given digits) outcome → Comes tables (TryDraw number given digits) (without_change outcome)
tries_are_draws tables number given digits outcome (AtOnce h) = AtOnce (ap (λ o. IsDecided (without_change o)) (says _ _ h))
tries_are_draws tables number given digits outcome (ByRun other limits pool ending same needs ends is) = absurd (cc)

-- ---- a change that is taken back again

pub none_left : (id : List ℕ) (ids : List (List ℕ)) → includes_list (without_id id ids) id ≡ false
none_left id [] = refl
none_left id (other ∷ ids) = by (bytes_eq id other) refl (none_left id ids)
  where
    by : (same : Bool) → bytes_eq id other ≡ same → includes_list (without_id id ids) id ≡ false → includes_list (cond (not same) (other ∷ without_id id ids) (without_id id ids)) id ≡ false
    by true e rest = rest
    by false e rest = rw e rest

-- the dropout of `id` is taken back from the last round
pub record TakesBack (tables : Tables) (number : ℕ) (id : List ℕ) (dropped : List (List ℕ)) (change : Option Change) : Type 0 where
  pub member : includes_list dropped id ≡ true
  pub is : Some (TakenBack number id) ≡ change

pub takes_so : (tables : Tables) (number : ℕ) (id : List ℕ) (dropped : List (List ℕ)) (change : Option Change) (reply : Reply) (member withdrawn last : Bool) (one late two : Refusal) (told : Reply) → includes_list dropped id ≡ member →
    cond (not member) (Refuses one) (cond withdrawn (Refuses late) (cond last (Replies (Some (TakenBack number id)) told) (Refuses two))) ≡ Replies change reply → TakesBack tables number id dropped change
takes_so tables number id dropped change reply true false true one late two told e h = record { member = e; is = cc }
takes_so tables number id dropped change reply true false false one late two told e h = absurd (cc)
takes_so tables number id dropped change reply true true last one late two told e h = absurd (cc)
takes_so tables number id dropped change reply false withdrawn last one late two told e h = absurd (cc)

undrop_again_in : (tables : Tables) (number : ℕ) (id : List ℕ) (change : Option Change) (reply : Reply) (found : Option Round) → named_round tables.rounds number ≡ found → undrop_in tables number id found ≡ Replies change reply →
    asked (applied tables change) (Undrop number id) ≡ IsDecided (Refuses (NotDropped id))
undrop_again_in tables number id change reply None at h = absurd (cc)
undrop_again_in tables number id change reply (Some Open) at h = absurd (cc)
undrop_again_in tables number id change reply (Some (Solved bundle)) at h = absurd (cc)
undrop_again_in tables number id change reply (Some (Sealed bundle tickets)) at h = absurd (cc)
undrop_again_in tables number id change reply (Some (Drawn bundle tickets digits dropped)) at h =
    let so = takes_so tables number id dropped change reply (includes_list dropped id) (is_withdrawn (with_id tables.register id)) (eqb number (length tables.rounds)) _ _ _ _ refl h in
    let there = named_there (taken_back id) tables.rounds number (Drawn bundle tickets digits dropped) at in
    let told : asked (apply tables (TakenBack number id)) (Undrop number id) ≡ IsDecided (Refuses (NotDropped id)) = rw (there, none_left id dropped) refl in
    subst (λ c. asked (applied tables c) (Undrop number id) ≡ IsDecided (Refuses (NotDropped id))) so.is told

pub undrop_again : (tables : Tables) (number : ℕ) (id : List ℕ) (change : Option Change) (reply : Reply) → Comes tables (Undrop number id) (Replies change reply) →
    asked (applied tables change) (Undrop number id) ≡ IsDecided (Refuses (NotDropped id))
undrop_again tables number id change reply (AtOnce h) = undrop_again_in tables number id change reply (named_round tables.rounds number) refl (says _ _ h)
undrop_again tables number id change reply (ByRun other limits pool ending same needs ends is) = absurd (cc)

-- the round with `number` is open and the last, and is taken away
pub record TakesAway (tables : Tables) (number : ℕ) (change : Option Change) : Type 0 where
  pub open_now : named_round tables.rounds number ≡ Some Open
  pub last : number ≡ length tables.rounds
  pub is : Some (Reopened number) ≡ change

takes_away_at : (tables : Tables) (number : ℕ) (change : Option Change) (reply : Reply) (round : Round) → named_round tables.rounds number ≡ Some round → number ≡ length tables.rounds → reopen_at number round ≡ Replies change reply → TakesAway tables number change
takes_away_at tables number change reply Open at last h = record { open_now = at; last = last; is = cc }
takes_away_at tables number change reply (Solved bundle) at last h = absurd (cc)
takes_away_at tables number change reply (Sealed bundle tickets) at last h = absurd (cc)
takes_away_at tables number change reply (Drawn bundle tickets digits dropped) at last h = absurd (cc)

takes_away_if : (tables : Tables) (number : ℕ) (change : Option Change) (reply : Reply) (round : Round) → named_round tables.rounds number ≡ Some round → (last : Bool) → eqb number (length tables.rounds) ≡ last → (refusal : Refusal) →
    cond last (reopen_at number round) (Refuses refusal) ≡ Replies change reply → TakesAway tables number change
takes_away_if tables number change reply round at true e refusal h = takes_away_at tables number change reply round at (eqb-true number (length tables.rounds) e) h
takes_away_if tables number change reply round at false e refusal h = absurd (cc)

pub takes_away : (tables : Tables) (number : ℕ) (change : Option Change) (reply : Reply) (found : Option Round) → named_round tables.rounds number ≡ found → reopen_in tables number found ≡ Replies change reply → TakesAway tables number change
takes_away tables number change reply None at h = absurd (cc)
takes_away tables number change reply (Some round) at h = takes_away_if tables number change reply round at (eqb number (length tables.rounds)) refl _ h

gone_again : (tables : Tables) (number : ℕ) → named_round tables.rounds number ≡ Some Open → number ≡ length tables.rounds →
    asked (apply tables (Reopened number)) (Reopen number) ≡ IsDecided (no_round (apply tables (Reopened number)))
gone_again tables zero at last = absurd (cc)
gone_again tables (suc place) at last =
    let less = length-taken tables.rounds place at last in
    let none : round_at (taken_at tables.rounds place) place ≡ None = subst (λ n. round_at (taken_at tables.rounds place) n ≡ None) less (none-after (taken_at tables.rounds place)) in
    rw none refl

pub reopen_again : (tables : Tables) (number : ℕ) (change : Option Change) (reply : Reply) → Comes tables (Reopen number) (Replies change reply) →
    asked (applied tables change) (Reopen number) ≡ IsDecided (no_round (applied tables change))
reopen_again tables number change reply (AtOnce h) =
    let so = takes_away tables number change reply (named_round tables.rounds number) refl (says _ _ h) in
    subst (λ c. asked (applied tables c) (Reopen number) ≡ IsDecided (no_round (applied tables c))) so.is (gone_again tables number so.open_now so.last)
reopen_again tables number change reply (ByRun other limits pool ending same needs ends is) = absurd (cc)
