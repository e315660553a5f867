-- Only an answer brings a bundle into the tables, and each answer is certified. So each bundle that commands leave is certified. Only two
-- commands take a change back.
use Rattle.std.proofs.Common.{◌≡◌, ℕ, zero, suc, Bool, true, false, cond, eqb, not, ◌&&◌, List, [], ◌∷◌, ◌++◌, length, Option, Some, None, Result, Ok, Err, refl, sym, ap, ◌∙◌, subst, ⊎_elim}
use Rattle.std.specs.List.{AllByRecursion, list_all}
use Rattle.std.specs.Str.{bytes_eq}
use Rattle.std.proofs.lemmas.Bool.{false≢true}
use Rattle.define_pools.specs.Certificate.{Certifies}
use Rattle.define_pools.specs.Lists.{includes_list}
use Rattle.define_pools.specs.Pool.{Category, Pool}
use Rattle.define_pools.proofs.Greatest.{greatest_from_Certifies}
use Rattle.define_bundles.specs.BundleText.{Bundle}
use Rattle.define_draws.specs.Draw as draws
use Rattle.define_draws.specs.Draw.{draw}
use Rattle.define_draws.specs.Seal.{is_seal, seal_of}
use Rattle.define_offices.specs.Tables.{Charter, Entry, Round, Open, Solved, Sealed, Drawn, Tables, bundle_of, changed_named, first_tables, is_enrolling, most_rows, named_round, round_at, same_rules, same_shape, taken_named}
use Rattle.define_offices.specs.Commands.{Given, Command, SetCharter, SetRules, Register, Solve, Keep, Seal, Draw, Drop, NextRound, Show, Withdraw, SetBounds, TryDraw, Undrop, Reopen, WithdrawId, Change, CharterSet, RulesSet, Added, SolvedWith, SealTold, DrawnWith, DroppedOut, Begun, Withdrawn, BoundsSet, TakenBack, Reopened, Outcome, Replies, Refuses, Stops, Unproved, Lines, Refusal, Reply, TooLate}
use Rattle.define_offices.specs.Deciding.{Answered, Finds, FindsNone, IsDecided, NeedsRun, Sorted, addition, answered, are_rules_kept, asked, bounds_in, bounds_over, charter_over, draw_in, drawn_ids, drop_in, fit_rows, fits_rules, is_charter_kept, is_last_open, is_seated_in, is_withdrawn, new_draw, next_after, next_in, place_of_hash, place_of_id, register_by, registered, reopen_at, reopen_in, row_beyond, same_seal, seal_in, show_in, sorted_rows, tickets_or_none, undrop_in, with_id, withdraw_at, withdraw_id_at, withdraw_row, without_change}
use Rattle.define_offices.specs.Facts.{AreCertified, AreGreatest, IsCommand, IsTables}
use Rattle.define_draws.specs.Lines.{bundle_seal}
use Rattle.define_offices.specs.Pools.{drawn_lottery, pool_of}
use Rattle.define_offices.specs.Steps.{AtOnce, ByRun, Comes, Folds, LeadThrough, Leads, applied, drawn_by, dropped_out, seal_told, solved_with, tables_after, taken_back}
use Rattle.define_offices.specs.Repeats.{TakesNothingBack, takes_back}
use Rattle.define_offices.proofs.Rounds.{IsChanged, round_at-changed, round_at-push, round_at-taken}
use Rattle.define_offices.proofs.Steps.{Answers, IsRight, Leaves, Settles, Stays, first_keeps, proof_settles, solve_settles, solve_stays, step_keeps}

-- ---- which outcomes bring a bundle, and which take a change back

-- what a change does: it brings a bundle, takes a change back, or neither
pub data Sort : Type 0 where
  Brings : Sort
  TakesBack : Sort
  Plain : Sort

abbrev sort_of : Option Change → Sort
sort_of None = Plain
sort_of (Some (CharterSet charter)) = Plain
sort_of (Some (RulesSet rules)) = Plain
sort_of (Some (Added entries)) = Plain
sort_of (Some (SolvedWith number bundle)) = Brings
sort_of (Some (SealTold number tickets)) = Plain
sort_of (Some (DrawnWith number digits)) = Plain
sort_of (Some (DroppedOut number id)) = Plain
sort_of (Some Begun) = Plain
sort_of (Some (Withdrawn place)) = Plain
sort_of (Some (BoundsSet bounds)) = Plain
sort_of (Some (TakenBack number id)) = TakesBack
sort_of (Some (Reopened number)) = TakesBack

abbrev sort : Outcome → Sort
sort (Replies change reply) = sort_of change
sort (Refuses refusal) = Plain
sort (Stops ending) = Plain
sort (Unproved refusal) = Plain

either : (b : Bool) (one other : Outcome) → sort one ≡ Plain → sort other ≡ Plain → sort (cond b one other) ≡ Plain
either true one other h k = h
either false one other h k = k

registered_plain : (tables : Tables) (result : Result Sorted Refusal) → sort (registered tables result) ≡ Plain
registered_plain tables (Err refusal) = refl
registered_plain tables (Ok sorted) = by sorted.added
  where
    by : (added : List Entry) → sort_of (addition added) ≡ Plain
    by [] = refl
    by (entry ∷ added) = refl

register_plain : (tables : Tables) (rows : List Given) (rules : Option (List Category)) → sort (register_by tables rows rules) ≡ Plain
register_plain tables rows None = refl
register_plain tables rows (Some categories) =
    either (list_all (λ (g : Given). fits_rules categories g.values) rows) _ _ (registered_plain tables (sorted_rows (most_rows tables.charter) tables.rounds tables.register rows)) refl

charter_plain : (charter : Charter) (beyond : Option Entry) → sort (charter_over charter beyond) ≡ Plain
charter_plain charter None = refl
charter_plain charter (Some entry) = refl

same_seal_plain : (bundle : Bundle) (kept given : Option ℕ) → sort (same_seal bundle kept given) ≡ Plain
same_seal_plain bundle kept None = refl
same_seal_plain bundle kept (Some tickets) = either (eqb (tickets_or_none kept) tickets) _ _ refl refl

seal_plain : (tables : Tables) (number : ℕ) (given : Option ℕ) (found : Option Round) → sort (seal_in tables number given found) ≡ Plain
seal_plain tables number given None = refl
seal_plain tables number given (Some Open) = refl
seal_plain tables number given (Some (Solved bundle)) = refl
seal_plain tables number given (Some (Sealed bundle tickets)) = same_seal_plain bundle tickets given
seal_plain tables number given (Some (Drawn bundle tickets digits dropped)) = same_seal_plain bundle tickets given

new_draw_plain : (number : ℕ) (bundle : Bundle) (given digits : List ℕ) (result : Result draws.Drawn draws.Refused) → sort (new_draw number bundle given digits result) ≡ Plain
new_draw_plain number bundle given digits (Ok drawn) = refl
new_draw_plain number bundle given digits (Err refused) = refl

draw_plain : (tables : Tables) (number : ℕ) (given digits : List ℕ) (found : Option Round) → sort (draw_in tables number given digits found) ≡ Plain
draw_plain tables number given digits None = refl
draw_plain tables number given digits (Some Open) = refl
draw_plain tables number given digits (Some (Solved bundle)) = refl
draw_plain tables number given digits (Some (Sealed bundle tickets)) = new_draw_plain number bundle given digits (draw (drawn_lottery bundle tickets) (bundle_seal bundle) given digits)
draw_plain tables number given digits (Some (Drawn bundle tickets kept dropped)) =
    either (not (is_seal (bundle_seal bundle) given)) _ _ refl (either (bytes_eq kept digits) _ _ refl refl)

drop_plain : (tables : Tables) (number : ℕ) (id : List ℕ) (found : Option Round) → sort (drop_in tables number id found) ≡ Plain
drop_plain tables number id None = refl
drop_plain tables number id (Some Open) = refl
drop_plain tables number id (Some (Solved bundle)) = refl
drop_plain tables number id (Some (Sealed bundle tickets)) = refl
drop_plain tables number id (Some (Drawn bundle tickets digits dropped)) =
    either (not (includes_list (drawn_ids bundle tickets digits) id)) _ _ refl
    (either (includes_list dropped id) _ _ refl (either (eqb number (length tables.rounds)) _ _ refl refl))

next_after_plain : (number : ℕ) (round : Round) → sort (next_after number round) ≡ Plain
next_after_plain number Open = refl
next_after_plain number (Solved bundle) = refl
next_after_plain number (Sealed bundle tickets) = refl
next_after_plain number (Drawn bundle tickets digits []) = refl
next_after_plain number (Drawn bundle tickets digits (id ∷ dropped)) = refl

next_plain : (tables : Tables) (number : ℕ) (found : Option Round) → sort (next_in tables number found) ≡ Plain
next_plain tables number None = refl
next_plain tables number (Some round) = either (eqb number (length tables.rounds)) _ _ (next_after_plain number round) refl

show_plain : (tables : Tables) (found : Option Round) → sort (show_in tables found) ≡ Plain
show_plain tables None = refl
show_plain tables (Some Open) = refl
show_plain tables (Some (Solved bundle)) = refl
show_plain tables (Some (Sealed bundle tickets)) = refl
show_plain tables (Some (Drawn bundle tickets digits dropped)) = refl

withdraw_row_plain : (tables : Tables) (reply : Reply) (place : ℕ) (entry : Entry) → sort (withdraw_row tables reply place entry) ≡ Plain
withdraw_row_plain tables reply place entry =
    either entry.withdrawn _ _ refl
    (either (is_last_open tables.rounds && not (is_seated_in (pool_of tables (length tables.rounds)) place)) (Replies (Some (Withdrawn place)) reply) (Refuses TooLate) refl refl)

withdraw_plain : (tables : Tables) (found : Option (ℕ × Entry)) → sort (withdraw_at tables found) ≡ Plain
withdraw_plain tables None = refl
withdraw_plain tables (Some (place, entry)) = withdraw_row_plain tables (Lines []) place entry

withdraw_id_plain : (tables : Tables) (id : List ℕ) (found : Option (ℕ × Entry)) → sort (withdraw_id_at tables id found) ≡ Plain
withdraw_id_plain tables id None = refl
withdraw_id_plain tables id (Some (place, entry)) = withdraw_row_plain tables _ place entry

bounds_in_plain : (pool : Pool) (bounds : List Category) (round : Round) → sort (bounds_in pool bounds round) ≡ Plain
bounds_in_plain pool bounds Open = either (same_shape pool.categories bounds) _ _ refl refl
bounds_in_plain pool bounds (Solved bundle) = refl
bounds_in_plain pool bounds (Sealed bundle tickets) = refl
bounds_in_plain pool bounds (Drawn bundle tickets digits dropped) = refl

bounds_plain : (tables : Tables) (bounds : List Category) (result : Result Pool Refusal) (found : Option Round) → sort (bounds_over tables bounds result found) ≡ Plain
bounds_plain tables bounds (Err refusal) found = refl
bounds_plain tables bounds (Ok pool) None = refl
bounds_plain tables bounds (Ok pool) (Some round) = either (same_rules pool.categories bounds) _ _ refl (bounds_in_plain pool bounds round)

tried_plain : (outcome : Outcome) → sort (without_change outcome) ≡ Plain
tried_plain (Replies change reply) = refl
tried_plain (Refuses refusal) = refl
tried_plain (Stops ending) = refl
tried_plain (Unproved refusal) = refl

told : (one outcome : Outcome) → sort one ≡ Plain → IsDecided one ≡ IsDecided outcome → sort outcome ≡ Plain
told one outcome not h = let e : one ≡ outcome = cc in subst (λ o. sort o ≡ Plain) e not

stays_plain : (outcome : Outcome) → Stays outcome → sort outcome ≡ Plain
stays_plain (Replies None reply) stays = refl
stays_plain (Replies (Some change) reply) stays = absurd stays
stays_plain (Refuses refusal) stays = refl
stays_plain (Stops ending) stays = refl
stays_plain (Unproved refusal) stays = refl

-- true of each command except `Keep`, which may bring a bundle into the tables without a run, and those that take a change back
abbrev IsPlain : Command → Type 0
IsPlain (SetCharter charter) = Unit {0}
IsPlain (SetRules rules) = Unit {0}
IsPlain (Register rows) = Unit {0}
IsPlain (Solve number limits) = Unit {0}
IsPlain (Keep number proof) = ⊥
IsPlain (Seal number tickets) = Unit {0}
IsPlain (Draw number given digits) = Unit {0}
IsPlain (Drop number id) = Unit {0}
IsPlain (NextRound after) = Unit {0}
IsPlain (Show number) = Unit {0}
IsPlain (Withdraw key) = Unit {0}
IsPlain (SetBounds number bounds) = Unit {0}
IsPlain (TryDraw number given digits) = Unit {0}
IsPlain (Undrop number id) = ⊥
IsPlain (Reopen number) = ⊥
IsPlain (WithdrawId id) = Unit {0}

at_once_plain : (tables : Tables) (command : Command) (outcome : Outcome) → IsPlain command → asked tables command ≡ IsDecided outcome → sort outcome ≡ Plain
at_once_plain tables (SetCharter charter) outcome none h = told _ outcome (either (is_charter_kept tables.charter charter) _ _ refl (either (is_enrolling tables.rounds) _ _ (charter_plain charter (row_beyond tables.register charter.volunteers)) refl)) h
at_once_plain tables (SetRules rules) outcome none h =
    told _ outcome (either (are_rules_kept tables.rules rules) _ _ refl (either (not (is_enrolling tables.rounds)) _ _ refl (either (fit_rows tables.register tables.rules rules) _ _ refl refl))) h
at_once_plain tables (Register rows) outcome none h = told _ outcome (register_plain tables rows tables.rules) h
at_once_plain tables (Solve number limits) outcome none h = stays_plain outcome (solve_stays tables number (named_round tables.rounds number) outcome h)
at_once_plain tables (Keep number proof) outcome none h = absurd none
at_once_plain tables (Seal number tickets) outcome none h = told _ outcome (seal_plain tables number tickets (named_round tables.rounds number)) h
at_once_plain tables (Draw number given digits) outcome none h = told _ outcome (draw_plain tables number given digits (named_round tables.rounds number)) h
at_once_plain tables (Drop number id) outcome none h = told _ outcome (drop_plain tables number id (named_round tables.rounds number)) h
at_once_plain tables (NextRound after) outcome none h = told _ outcome (next_plain tables after (named_round tables.rounds after)) h
at_once_plain tables (Show number) outcome none h = told _ outcome (show_plain tables (named_round tables.rounds number)) h
at_once_plain tables (Withdraw key) outcome none h = told _ outcome (withdraw_plain tables (place_of_hash tables.register (seal_of key) 0)) h
at_once_plain tables (SetBounds number bounds) outcome none h = told _ outcome (bounds_plain tables bounds (pool_of tables number) (named_round tables.rounds number)) h
at_once_plain tables (TryDraw number given digits) outcome none h = told _ outcome (tried_plain (draw_in tables number given digits (named_round tables.rounds number))) h
at_once_plain tables (Undrop number id) outcome none h = absurd none
at_once_plain tables (Reopen number) outcome none h = absurd none
at_once_plain tables (WithdrawId id) outcome none h = told _ outcome (withdraw_id_plain tables id (place_of_id tables.register id 0)) h

-- ---- outcomes that bring no bundle

abbrev brings : Sort → Bool
brings Brings = true
brings TakesBack = false
brings Plain = false

plain_brings : (s : Sort) → s ≡ Plain → brings s ≡ false
plain_brings s h = ap brings h

neither : (b : Bool) (one other : Outcome) → brings (sort one) ≡ false → brings (sort other) ≡ false → brings (sort (cond b one other)) ≡ false
neither true one other h k = h
neither false one other h k = k

undrop_brings : (tables : Tables) (number : ℕ) (id : List ℕ) (found : Option Round) → brings (sort (undrop_in tables number id found)) ≡ false
undrop_brings tables number id None = refl
undrop_brings tables number id (Some Open) = refl
undrop_brings tables number id (Some (Solved bundle)) = refl
undrop_brings tables number id (Some (Sealed bundle tickets)) = refl
undrop_brings tables number id (Some (Drawn bundle tickets digits dropped)) =
    neither (not (includes_list dropped id)) _ _ refl (neither (is_withdrawn (with_id tables.register id)) _ _ refl (neither (eqb number (length tables.rounds)) _ _ refl refl))

reopen_at_brings : (number : ℕ) (round : Round) → brings (sort (reopen_at number round)) ≡ false
reopen_at_brings number Open = refl
reopen_at_brings number (Solved bundle) = refl
reopen_at_brings number (Sealed bundle tickets) = refl
reopen_at_brings number (Drawn bundle tickets digits dropped) = refl

reopen_brings : (tables : Tables) (number : ℕ) (found : Option Round) → brings (sort (reopen_in tables number found)) ≡ false
reopen_brings tables number None = refl
reopen_brings tables number (Some round) = neither (eqb number (length tables.rounds)) _ _ (reopen_at_brings number round) refl

told_brings : (one outcome : Outcome) → brings (sort one) ≡ false → IsDecided one ≡ IsDecided outcome → brings (sort outcome) ≡ false
told_brings one outcome not h = let e : one ≡ outcome = cc in subst (λ o. brings (sort o) ≡ false) e not

-- ---- outcomes that take no change back

plain_spares : (outcome : Outcome) (kept : Command) → sort outcome ≡ Plain → takes_back outcome kept ≡ false
plain_spares (Replies None reply) kept h = refl
plain_spares (Replies (Some (CharterSet charter)) reply) kept h = refl
plain_spares (Replies (Some (RulesSet rules)) reply) kept h = refl
plain_spares (Replies (Some (Added entries)) reply) kept h = refl
plain_spares (Replies (Some (SolvedWith number bundle)) reply) kept h = absurd (cc)
plain_spares (Replies (Some (SealTold number tickets)) reply) kept h = refl
plain_spares (Replies (Some (DrawnWith number digits)) reply) kept h = refl
plain_spares (Replies (Some (DroppedOut number id)) reply) kept h = refl
plain_spares (Replies (Some Begun) reply) kept h = refl
plain_spares (Replies (Some (Withdrawn place)) reply) kept h = refl
plain_spares (Replies (Some (BoundsSet bounds)) reply) kept h = refl
plain_spares (Replies (Some (TakenBack number id)) reply) kept h = absurd (cc)
plain_spares (Replies (Some (Reopened number)) reply) kept h = absurd (cc)
plain_spares (Refuses refusal) kept h = refl
plain_spares (Stops ending) kept h = refl
plain_spares (Unproved refusal) kept h = refl

answered_spares : (number : ℕ) (pool : Pool) (found : Answered) (kept : Command) → takes_back (answered number pool found) kept ≡ false
answered_spares number pool (Finds answer) kept = refl
answered_spares number pool FindsNone kept = refl

settled_spares : (tables : Tables) (number : ℕ) (outcome : Outcome) (kept : Command) → Settles tables number outcome → takes_back outcome kept ≡ false
settled_spares tables number outcome kept (Leaves stays) = plain_spares outcome kept (stays_plain outcome stays)
settled_spares tables number outcome kept (Answers pool found open_round right same) = subst (λ o. takes_back o kept ≡ false) (sym same) (answered_spares number pool found kept)

at_once_spares : (tables : Tables) → IsTables tables → (kept command : Command) (outcome : Outcome) → IsCommand command → TakesNothingBack command → asked tables command ≡ IsDecided outcome → takes_back outcome kept ≡ false
at_once_spares tables keeps kept (Keep number proof) outcome is none h = settled_spares tables number outcome kept (proof_settles tables keeps number proof outcome is (AtOnce h))
at_once_spares tables keeps kept (Undrop number id) outcome is none h = absurd none
at_once_spares tables keeps kept (Reopen number) outcome is none h = absurd none
at_once_spares tables keeps kept command outcome is none h = plain_spares outcome kept (at_once_plain tables command outcome tt h)

-- if a command takes no change back, its outcome takes nothing back that `kept` changed
pub comes_spares : (tables : Tables) → IsTables tables → (kept command : Command) (outcome : Outcome) → IsCommand command → TakesNothingBack command → Comes tables command outcome → takes_back outcome kept ≡ false
comes_spares tables keeps kept command outcome is none (AtOnce h) = at_once_spares tables keeps kept command outcome is none h
comes_spares tables keeps kept command outcome is none (ByRun number limits pool ending same needs ends comes) =
    settled_spares tables number outcome kept
    (solve_settles tables keeps number limits outcome (subst IsCommand same is) (ByRun number limits pool ending refl (subst (λ c. asked tables c ≡ NeedsRun pool) same needs) ends comes))

-- ---- changes keep bundles certified

abbrev IsCertified : Bundle → Type 0
IsCertified bundle = Certifies bundle.pool bundle.answer.lottery bundle.answer.stages

abbrev CertifiedRounds : List Round → Type 0
CertifiedRounds rounds = (place : ℕ) (round : Round) (bundle : Bundle) → round_at rounds place ≡ Some round → bundle_of round ≡ Some bundle → IsCertified bundle

changed_certified : (change : Round → Round) → ((old : Round) (bundle : Bundle) → bundle_of (change old) ≡ Some bundle → (bundle_of old ≡ Some bundle → IsCertified bundle) → IsCertified bundle) →
    (rounds : List Round) (number : ℕ) → CertifiedRounds rounds → CertifiedRounds (changed_named change rounds number)
changed_certified change same rounds zero certified = certified
changed_certified change same rounds (suc p) certified = λ q round bundle at has.
    ⊎_elim (λ (old : round_at rounds q ≡ Some round). certified q round bundle old has)
    (λ (changed : IsChanged change rounds p round).
    same changed.old bundle (subst (λ r. bundle_of r ≡ Some bundle) changed.is has) (λ had. certified p changed.old bundle changed.there had))
    (round_at-changed change rounds p q round at)

sealing : (given : Option ℕ) (old : Round) → bundle_of (seal_told given old) ≡ bundle_of old
sealing given Open = refl
sealing given (Solved bundle) = refl
sealing given (Sealed bundle tickets) = refl
sealing given (Drawn bundle tickets digits dropped) = refl

drawing : (thrown : List ℕ) (old : Round) → bundle_of (drawn_by thrown old) ≡ bundle_of old
drawing thrown Open = refl
drawing thrown (Solved bundle) = refl
drawing thrown (Sealed bundle tickets) = refl
drawing thrown (Drawn bundle tickets digits dropped) = refl

dropping : (id : List ℕ) (old : Round) → bundle_of (dropped_out id old) ≡ bundle_of old
dropping id Open = refl
dropping id (Solved bundle) = refl
dropping id (Sealed bundle tickets) = refl
dropping id (Drawn bundle tickets digits dropped) = refl

taking_back : (id : List ℕ) (old : Round) → bundle_of (taken_back id old) ≡ bundle_of old
taking_back id Open = refl
taking_back id (Solved bundle) = refl
taking_back id (Sealed bundle tickets) = refl
taking_back id (Drawn bundle tickets digits dropped) = refl

taken_certified : (rounds : List Round) (number : ℕ) → CertifiedRounds rounds → CertifiedRounds (taken_named rounds number)
taken_certified rounds zero certified = certified
taken_certified rounds (suc place) certified = λ q round bundle at has. certified q round bundle (round_at-taken rounds place q round at) has

solving : (answered : Bundle) → IsCertified answered → (old : Round) (bundle : Bundle) → bundle_of (solved_with answered old) ≡ Some bundle → (bundle_of old ≡ Some bundle → IsCertified bundle) → IsCertified bundle
solving answered certified Open bundle has had = let e : answered ≡ bundle = cc in subst IsCertified e certified
solving answered certified (Solved other) bundle has had = had has
solving answered certified (Sealed other tickets) bundle has had = had has
solving answered certified (Drawn other tickets digits dropped) bundle has had = had has

pushed_certified : (rounds : List Round) → CertifiedRounds rounds → CertifiedRounds (rounds ++ Open ∷ [])
pushed_certified rounds certified = λ q round bundle at has.
    ⊎_elim (λ (old : round_at rounds q ≡ Some round). certified q round bundle old has)
    (λ (new : round ≡ Open). absurd (let none = subst (λ r. bundle_of r ≡ Some bundle) new has in cc)) (round_at-push rounds Open q round at)

applied_certified : (tables : Tables) (change : Option Change) → brings (sort_of change) ≡ false → AreCertified tables → AreCertified (applied tables change)
applied_certified tables None h certified = certified
applied_certified tables (Some (CharterSet charter)) h certified = certified
applied_certified tables (Some (RulesSet rules)) h certified = certified
applied_certified tables (Some (Added entries)) h certified = certified
applied_certified tables (Some (SolvedWith number bundle)) h certified = absurd (false≢true (sym h))
applied_certified tables (Some (SealTold number tickets)) h certified = changed_certified (seal_told tickets) (λ old bundle has had. had (sym (sealing tickets old) ∙ has)) tables.rounds number certified
applied_certified tables (Some (DrawnWith number digits)) h certified = changed_certified (drawn_by digits) (λ old bundle has had. had (sym (drawing digits old) ∙ has)) tables.rounds number certified
applied_certified tables (Some (DroppedOut number id)) h certified = changed_certified (dropped_out id) (λ old bundle has had. had (sym (dropping id old) ∙ has)) tables.rounds number certified
applied_certified tables (Some Begun) h certified = pushed_certified tables.rounds certified
applied_certified tables (Some (Withdrawn place)) h certified = certified
applied_certified tables (Some (BoundsSet bounds)) h certified = certified
applied_certified tables (Some (TakenBack number id)) h certified = changed_certified (taken_back id) (λ old bundle has had. had (sym (taking_back id old) ∙ has)) tables.rounds number certified
applied_certified tables (Some (Reopened number)) h certified = taken_certified tables.rounds number certified

outcome_certified : (tables : Tables) (outcome : Outcome) → brings (sort outcome) ≡ false → AreCertified tables → AreCertified (tables_after tables outcome)
outcome_certified tables (Replies change reply) h certified = applied_certified tables change h certified
outcome_certified tables (Refuses refusal) h certified = certified
outcome_certified tables (Stops ending) h certified = certified
outcome_certified tables (Unproved refusal) h certified = certified

answered_certified : (tables : Tables) (number : ℕ) (pool : Pool) (found : Answered) → IsRight pool found → AreCertified tables → AreCertified (tables_after tables (answered number pool found))
answered_certified tables number pool FindsNone right certified = certified
answered_certified tables number pool (Finds answer) right certified =
    let bundle : Bundle = record { pool = pool; answer = answer } in
    changed_certified (solved_with bundle) (solving bundle right.certified) tables.rounds number certified

settled_certified : (tables : Tables) (number : ℕ) (outcome : Outcome) → Settles tables number outcome → AreCertified tables → AreCertified (tables_after tables outcome)
settled_certified tables number outcome (Leaves stays) certified = outcome_certified tables outcome (plain_brings (sort outcome) (stays_plain outcome stays)) certified
settled_certified tables number outcome (Answers pool found open_round right same) certified =
    subst (λ o. AreCertified (tables_after tables o)) (sym same) (answered_certified tables number pool found right certified)

at_once_certified : (tables : Tables) → IsTables tables → AreCertified tables → (command : Command) (outcome : Outcome) → IsCommand command → asked tables command ≡ IsDecided outcome → AreCertified (tables_after tables outcome)
at_once_certified tables keeps certified (Keep number proof) outcome is h = settled_certified tables number outcome (proof_settles tables keeps number proof outcome is (AtOnce h)) certified
at_once_certified tables keeps certified (Undrop number id) outcome is h = outcome_certified tables outcome (told_brings _ outcome (undrop_brings tables number id (named_round tables.rounds number)) h) certified
at_once_certified tables keeps certified (Reopen number) outcome is h = outcome_certified tables outcome (told_brings _ outcome (reopen_brings tables number (named_round tables.rounds number)) h) certified
at_once_certified tables keeps certified command outcome is h = outcome_certified tables outcome (plain_brings (sort outcome) (at_once_plain tables command outcome tt h)) certified

comes_certified : (tables : Tables) → IsTables tables → (command : Command) (outcome : Outcome) → IsCommand command → AreCertified tables → Comes tables command outcome → AreCertified (tables_after tables outcome)
comes_certified tables keeps command outcome is certified (AtOnce h) = at_once_certified tables keeps certified command outcome is h
comes_certified tables keeps command outcome is certified (ByRun number limits pool ending same needs ends comes) =
    settled_certified tables number outcome
    (solve_settles tables keeps number limits outcome (subst IsCommand same is) (ByRun number limits pool ending refl (subst (λ c. asked tables c ≡ NeedsRun pool) same needs) ends comes)) certified

pub step_certified : (before : Tables) (command : Command) (after : Tables) → IsTables before → IsCommand command → AreCertified before → Leads before command after → AreCertified after
step_certified before command after keeps is certified leads = subst AreCertified (sym leads.leaves) (comes_certified before keeps command leads.outcome is certified leads.comes)

-- ---- lists of commands

first_certified : AreCertified first_tables
first_certified zero round bundle at has = absurd (let same : Open ≡ round = cc in let none = subst (λ r. bundle_of r ≡ Some bundle) (sym same) has in cc)
first_certified (suc place) round bundle at has = absurd (cc)

through_certified : (before : Tables) (commands : List Command) (after : Tables) → IsTables before → AreCertified before → AllByRecursion IsCommand commands → LeadThrough before commands after → AreCertified after
through_certified before [] after keeps certified are leads = subst AreCertified (sym leads) certified
through_certified before (command ∷ later) after keeps certified are (next, (leads, rest)) =
    through_certified next later after (step_keeps before command next keeps are.0 leads) (step_certified before command next keeps are.0 certified leads) are.1 rest

pub folds_are_greatest : (commands : List Command) (tables : Tables) → AllByRecursion IsCommand commands → Folds commands tables → AreGreatest tables
folds_are_greatest commands tables are folds = λ place round bundle at has.
    greatest_from_Certifies bundle.pool bundle.answer.lottery bundle.answer.stages (through_certified first_tables commands tables first_keeps first_certified are folds place round bundle at has)
