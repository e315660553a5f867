-- The pool of a round keeps its categories through all commands that may not change them, and the next round's pool has them.
use Rattle.std.proofs.Common.{◌≡◌, ℕ, zero, suc, ◌+◌, Bool, true, false, cond, eqb, List, [], ◌∷◌, ◌++◌, length, Option, Some, None, Ok, refl, sym, ap, ◌∙◌, arith, subst}
use Rattle.std.specs.List.{AllByRecursion}
use Rattle.std.proofs.lemmas.Bool.{and_parts, false≢true}
use Rattle.std.proofs.lemmas.Bool.Decides.{Decides-eqb}
use Rattle.define_pools.specs.Pool.{Category, Pool}
use Rattle.define_bundles.specs.BundleText.{Bundle}
use Rattle.define_offices.specs.Tables.{Charter, Entry, Round, Open, Solved, Sealed, Drawn, Tables, changed_at, changed_named, named_round, round_at, same_shape}
use Rattle.define_offices.specs.Commands.{Command, SetRules, NextRound, Change, CharterSet, RulesSet, Added, SolvedWith, SealTold, DrawnWith, DroppedOut, Begun, Withdrawn, BoundsSet, TakenBack, Reopened, Outcome, Replies, Refuses, Stops, Unproved, Reply}
use Rattle.define_offices.specs.Facts.{IsCommand, IsTables, closed_but_last, has_drop}
use Rattle.define_offices.specs.Pools.{open_pool, pool_after, pool_by, pool_if, pool_of, round_pool, with_bounds}
use Rattle.define_offices.specs.Steps.{Comes, LeadThrough, Leads, apply, drawn_by, dropped_out, seal_told, solved_with, tables_after, taken_back}
use Rattle.define_offices.proofs.Later.{Extends, Grows, OtherDrops, apply_extends}
use Rattle.define_offices.proofs.Repeats.{named_there}
use Rattle.define_offices.proofs.Rounds.{drawn_before}
use Rattle.define_offices.proofs.Steps.{step_keeps}
use Rattle.laws_of_offices.specs.Bounds.{HasBundle, HasCategories, may_change}
use Rattle.laws_of_offices.proofs.ChangesFit.{Fits, IsNext, changes_fit}
use Rattle.laws_of_offices.proofs.Kept.{bundles_have_pools, bundles_stay, pool_at}
use Rattle.laws_of_offices.proofs.Returns.{pushed_there}

-- ---- what a round's pool is made of

record OfRound (tables : Tables) (place : ℕ) (pool : Pool) : Type 0 where
  charter : Charter
  categories : List Category
  round : Round
  has_charter : tables.charter ≡ Some charter
  has_rules : tables.rules ≡ Some categories
  there : round_at tables.rounds place ≡ Some round
  is : round_pool charter categories tables place round ≡ pool

of_parts : (tables : Tables) (place : ℕ) (pool : Pool) (round : Round) → round_at tables.rounds place ≡ Some round → (charter : Option Charter) (rules : Option (List Category)) → tables.charter ≡ charter → tables.rules ≡ rules →
    pool_by charter rules tables place round ≡ Ok pool → OfRound tables place pool
of_parts tables place pool round at None rules c r h = absurd (cc)
of_parts tables place pool round at (Some charter) None c r h = absurd (cc)
of_parts tables place pool round at (Some charter) (Some categories) c r h = record { charter = charter; categories = categories; round = round; has_charter = c; has_rules = r; there = at; is = cc }

of_found : (tables : Tables) (place : ℕ) (pool : Pool) (found : Option Round) → round_at tables.rounds place ≡ found → pool_if tables place found ≡ Ok pool → OfRound tables place pool
of_found tables place pool None at h = absurd (cc)
of_found tables place pool (Some round) at h = of_parts tables place pool round at tables.charter tables.rules refl refl h

of_round : (tables : Tables) (place : ℕ) (pool : Pool) → pool_of tables (suc place) ≡ Ok pool → OfRound tables place pool
of_round tables place pool h = of_found tables place pool (round_at tables.rounds place) refl h

-- ---- open rounds

-- only the last round is open
pub open_is_last : (rounds : List Round) (place : ℕ) → closed_but_last rounds ≡ true → round_at rounds place ≡ Some Open → suc place ≡ length rounds
open_is_last [] place closed at = absurd (cc)
open_is_last (round ∷ []) zero closed at = refl
open_is_last (round ∷ []) (suc place) closed at = absurd (cc)
open_is_last (round ∷ next ∷ later) zero closed at =
    absurd (let same : round ≡ Open = cc in let drop = (and_parts (has_drop round) (closed_but_last (next ∷ later)) closed).0 in false≢true (subst (λ r. has_drop r ≡ true) same drop))
open_is_last (round ∷ next ∷ later) (suc place) closed at = ap suc (open_is_last (next ∷ later) place (and_parts (has_drop round) (closed_but_last (next ∷ later)) closed).1 at)

-- the same of the round with a number
open_named_is_last : (rounds : List Round) (number : ℕ) → closed_but_last rounds ≡ true → named_round rounds number ≡ Some Open → number ≡ length rounds
open_named_is_last rounds zero closed at = absurd (cc)
open_named_is_last rounds (suc place) closed at = open_is_last rounds place closed at

-- an open round stays open if `change` leaves open rounds as they are
open_at : (change : Round → Round) → change Open ≡ Open → (rounds : List Round) (p q : ℕ) → round_at rounds q ≡ Some Open → round_at (changed_at change rounds p) q ≡ Some Open
open_at change same [] p q at = absurd (cc)
open_at change same (first ∷ rounds) zero zero at = let is : first ≡ Open = cc in ap (λ r. Some (change r)) is ∙ ap Some same
open_at change same (first ∷ rounds) zero (suc q) at = at
open_at change same (first ∷ rounds) (suc p) zero at = at
open_at change same (first ∷ rounds) (suc p) (suc q) at = open_at change same rounds p q at

open_named : (change : Round → Round) → change Open ≡ Open → (rounds : List Round) (number q : ℕ) → round_at rounds q ≡ Some Open → round_at (changed_named change rounds number) q ≡ Some Open
open_named change same rounds zero q at = at
open_named change same rounds (suc place) q at = open_at change same rounds place q at

-- ---- the categories of the pool of an open round

-- the categories with the bounds that were set, if they fit
bounded : Option (List Category) → List Category → List Category
bounded None categories = categories
bounded (Some bounds) categories = cond (same_shape categories bounds) bounds categories

bounded_pool : (bounds : Option (List Category)) (pool : Pool) → (with_bounds bounds pool).categories ≡ bounded bounds pool.categories
unfolding bounded
bounded_pool None pool = refl
bounded_pool (Some bounds) pool = by (same_shape pool.categories bounds)
  where
    by : (same : Bool) → (cond same (record pool { categories = bounds }) pool).categories ≡ cond same bounds pool.categories
    by true = refl
    by false = refl

same_bounds : (one other : Option (List Category)) (pool next : Pool) → other ≡ one → next.categories ≡ pool.categories → (with_bounds other next).categories ≡ (with_bounds one pool).categories
same_bounds one other pool next bounds categories = bounded_pool other next ∙ (ap (λ b. bounded b next.categories) bounds ∙ (ap (bounded one) categories ∙ sym (bounded_pool one pool)))

-- the pool after a drawn round, when it has grown, has the categories of the round's bundle
grown_pool : {bundle : Bundle} {tickets : Option ℕ} {digits : List ℕ} {dropped : List (List ℕ)} {next : Round} → Grows (Drawn bundle tickets digits dropped) next → (register : List Entry) →
    (pool_after register (Some next)).categories ≡ bundle.pool.categories
grown_pool (OtherDrops bundle tickets digits dropped other) register = refl

-- the pool after a round is made from the same categories in the tables `new`
same_before : (old new : Tables) → Extends old new → (before : ℕ) (round : Round) → closed_but_last old.rounds ≡ true → round_at old.rounds (suc before) ≡ Some round →
    (pool_after new.register (round_at new.rounds before)).categories ≡ (pool_after old.register (round_at old.rounds before)).categories
same_before old new extends before round closed at =
    let drawn = drawn_before old.rounds before round closed at in
    let grown = extends.rounds before (Drawn drawn.bundle drawn.tickets drawn.digits drawn.dropped) drawn.there tt in
    ap (λ found. (pool_after new.register found).categories) grown.there ∙
    (grown_pool grown.grows new.register ∙ sym (ap (λ found. (pool_after old.register found).categories) drawn.there))

-- an open round of the tables `old` has the same categories in the tables `new`, where it is open too
record StaysOpen (old new : Tables) (place : ℕ) : Type 0 where
  charter : Charter
  rules : List Category
  has_charter : new.charter ≡ Some charter
  has_rules : new.rules ≡ Some rules
  same_rules : place ≡ zero → new.rules ≡ old.rules
  bounds : new.bounds ≡ old.bounds
  there : round_at new.rounds place ≡ Some Open

open_stays : (old new : Tables) → IsTables old → Extends old new → (place : ℕ) → round_at old.rounds place ≡ Some Open → (charter : Charter) (categories : List Category) → old.rules ≡ Some categories → StaysOpen old new place →
    HasCategories new (suc place) (open_pool charter categories old place).categories
open_stays old new keeps extends zero at charter categories had stays =
    let now : Some stays.rules ≡ Some categories = sym stays.has_rules ∙ (stays.same_rules refl ∙ had) in
    record { pool = open_pool stays.charter stays.rules new zero; is = pool_at new zero stays.charter stays.rules Open stays.has_charter stays.has_rules stays.there; same = cc }
open_stays old new keeps extends (suc before) at charter categories had stays = record {
  pool = open_pool stays.charter stays.rules new (suc before);
  is = pool_at new (suc before) stays.charter stays.rules Open stays.has_charter stays.has_rules stays.there;
  same = same_bounds old.bounds new.bounds (pool_after old.register (round_at old.rounds before)) (pool_after new.register (round_at new.rounds before)) stays.bounds (same_before old new extends before Open keeps.closed at);
}

-- ---- a change, and the pool of an open round

module _ (tables : Tables) (keeps : IsTables tables) (command : Command) (place : ℕ) (may_not : may_change command (suc place) ≡ false) where
  same_number : (n : ℕ) → n ≡ suc place → eqb n (suc place) ≡ true
  same_number n is = (Decides-eqb n (suc place)).1 is

  module _ (pool : Pool) (charter : Charter) (categories : List Category) (c : tables.charter ≡ Some charter) (r : tables.rules ≡ Some categories) (at : round_at tables.rounds place ≡ Some Open) (is : open_pool charter categories tables place ≡ pool) where
    last : suc place ≡ length tables.rounds
    last = open_is_last tables.rounds place keeps.closed at

    -- a round that is changed, and stays open
    changed_stays : (change : Round → Round) → change Open ≡ Open → (number : ℕ) → StaysOpen tables (record tables { rounds = changed_named change tables.rounds number }) place
    changed_stays change same number = record {
      charter = charter;
      rules = categories;
      has_charter = c;
      has_rules = r;
      same_rules = λ first. refl;
      bounds = refl;
      there = open_named change same tables.rounds number place at;
    }

    -- other rules are for round 1
    rules_stay : (rules : List Category) → command ≡ SetRules rules → StaysOpen tables (record tables { rules = Some rules }) place
    rules_stay rules sets = record {
      charter = charter;
      rules = rules;
      has_charter = c;
      has_rules = refl;
      same_rules = λ first. absurd (let no : may_change (SetRules rules) 1 ≡ false = subst (λ k. may_change (SetRules rules) (suc k) ≡ false) first (subst (λ k. may_change k (suc place) ≡ false) sets may_not) in false≢true (sym no));
      bounds = refl;
      there = at;
    }

    after_open : (change : Change) → StaysOpen tables (apply tables change) place → HasCategories (apply tables change) (suc place) pool.categories
    after_open change stays = subst (λ p. HasCategories (apply tables change) (suc place) p.categories) is (open_stays tables (apply tables change) keeps (apply_extends tables change) place at charter categories r stays)

    -- the round gets an answer
    solved_open : (number : ℕ) (bundle : Bundle) → named_round tables.rounds number ≡ Some Open → pool_of tables number ≡ Ok bundle.pool → HasCategories (apply tables (SolvedWith number bundle)) (suc place) pool.categories
    solved_open number bundle open_now of =
        let here : number ≡ suc place = open_named_is_last tables.rounds number keeps.closed open_now ∙ sym last in
        let its : pool_of tables (suc place) ≡ Ok pool = pool_at tables place charter categories Open c r at ∙ ap Ok is in
        let had : Ok pool ≡ Ok bundle.pool = sym its ∙ (ap (pool_of tables) (sym here) ∙ of) in
        let same : pool ≡ bundle.pool = cc in
        let new : Tables = apply tables (SolvedWith (suc place) bundle) in
        let there : round_at new.rounds place ≡ Some (Solved bundle) = named_there (solved_with bundle) tables.rounds (suc place) Open at in
        let has : HasCategories new (suc place) pool.categories = record { pool = bundle.pool; is = pool_at new place charter categories (Solved bundle) c r there; same = ap (λ (p : Pool). p.categories) (sym same) } in
        subst (λ n. HasCategories (apply tables (SolvedWith n bundle)) (suc place) pool.categories) (sym here) has

    after_change : (change : Change) → Fits tables command change → HasCategories (apply tables change) (suc place) pool.categories
    after_change (CharterSet other) fits = after_open (CharterSet other) (record { charter = other; rules = categories; has_charter = refl; has_rules = r; same_rules = λ first. refl; bounds = refl; there = at })
    after_change (RulesSet rules) fits = after_open (RulesSet rules) (rules_stay rules fits)
    after_change (Added entries) fits = after_open (Added entries) (record { charter = charter; rules = categories; has_charter = c; has_rules = r; same_rules = λ first. refl; bounds = refl; there = at })
    after_change (SolvedWith number bundle) fits = solved_open number bundle fits.open_now fits.pool_is
    after_change (SealTold number tickets) fits = after_open (SealTold number tickets) (changed_stays (seal_told tickets) refl number)
    after_change (DrawnWith number digits) fits = after_open (DrawnWith number digits) (changed_stays (drawn_by digits) refl number)
    after_change (DroppedOut number id) fits = after_open (DroppedOut number id) (changed_stays (dropped_out id) refl number)
    after_change Begun fits =
        absurd (let here : fits.number ≡ suc place = fits.last ∙ sym last in let drawn : round_at tables.rounds place ≡ Some (Drawn fits.bundle fits.tickets fits.digits fits.dropped) = subst (λ n. named_round tables.rounds n ≡ Some (Drawn fits.bundle fits.tickets fits.digits fits.dropped)) here fits.there in cc)
    after_change (Withdrawn row) fits = after_open (Withdrawn row) (record { charter = charter; rules = categories; has_charter = c; has_rules = r; same_rules = λ first. refl; bounds = refl; there = at })
    after_change (BoundsSet bounds) fits =
        absurd (let here : fits.number ≡ suc place = open_named_is_last tables.rounds fits.number keeps.closed fits.there ∙ sym last in
        let no : eqb fits.number (suc place) ≡ false = subst (λ k. may_change k (suc place) ≡ false) fits.is may_not in
        false≢true (sym no ∙ same_number fits.number here))
    after_change (TakenBack number id) fits = after_open (TakenBack number id) (changed_stays (taken_back id) refl number)
    after_change (Reopened number) fits =
        absurd (let no : eqb number (suc place) ≡ false = subst (λ k. may_change k (suc place) ≡ false) fits.is may_not in
        false≢true (sym no ∙ same_number number (fits.last ∙ sym last)))

    after_outcome : (outcome : Outcome) → IsCommand command → Comes tables command outcome → HasCategories (tables_after tables outcome) (suc place) pool.categories
    after_outcome outcome within comes = by outcome comes
      where
        stays : HasCategories tables (suc place) pool.categories
        stays = record { pool = pool; is = pool_at tables place charter categories Open c r at ∙ ap Ok is; same = refl }

        by : (outcome : Outcome) → Comes tables command outcome → HasCategories (tables_after tables outcome) (suc place) pool.categories
        by (Replies None reply) comes = stays
        by (Replies (Some change) reply) comes = after_change change (changes_fit tables change reply keeps command within comes)
        by (Refuses refusal) comes = stays
        by (Stops ending) comes = stays
        by (Unproved refusal) comes = stays

-- ---- one command

-- the round has a bundle
answered_step : (before : Tables) (command : Command) (after : Tables) (place : ℕ) (pool : Pool) (bundle : Bundle) → IsTables before → IsCommand command → Leads before command after → HasBundle before (suc place) bundle →
    pool_of before (suc place) ≡ Ok pool → HasCategories after (suc place) pool.categories
answered_step before command after place pool bundle keeps within leads has of =
    let both : Ok pool ≡ Ok bundle.pool = sym of ∙ bundles_have_pools before (suc place) bundle keeps has in
    let same : pool ≡ bundle.pool = cc in
    let later = bundles_stay before (command ∷ []) after (suc place) bundle (after, (leads, refl)) has in
    record { pool = bundle.pool; is = bundles_have_pools after (suc place) bundle (step_keeps before command after keeps within leads) later; same = ap (λ (p : Pool). p.categories) (sym same) }

by_round : (before : Tables) (command : Command) (after : Tables) (place : ℕ) (pool : Pool) → IsTables before → IsCommand command → may_change command (suc place) ≡ false → Leads before command after →
    pool_of before (suc place) ≡ Ok pool → (charter : Charter) (categories : List Category) → before.charter ≡ Some charter → before.rules ≡ Some categories → (round : Round) → round_at before.rounds place ≡ Some round →
    round_pool charter categories before place round ≡ pool → HasCategories after (suc place) pool.categories
by_round before command after place pool keeps within may_not leads of charter categories c r Open at is =
    subst (λ t. HasCategories t (suc place) pool.categories) (sym leads.leaves) (after_outcome before keeps command place may_not pool charter categories c r at is leads.outcome within leads.comes)
by_round before command after place pool keeps within may_not leads of charter categories c r (Solved bundle) at is =
    answered_step before command after place pool bundle keeps within leads (record { round = Solved bundle; there = at; has = refl }) of
by_round before command after place pool keeps within may_not leads of charter categories c r (Sealed bundle tickets) at is =
    answered_step before command after place pool bundle keeps within leads (record { round = Sealed bundle tickets; there = at; has = refl }) of
by_round before command after place pool keeps within may_not leads of charter categories c r (Drawn bundle tickets digits dropped) at is =
    answered_step before command after place pool bundle keeps within leads (record { round = Drawn bundle tickets digits dropped; there = at; has = refl }) of

step_stays : (before : Tables) (command : Command) (after : Tables) (number : ℕ) (categories : List Category) → IsTables before → IsCommand command → may_change command number ≡ false → Leads before command after →
    HasCategories before number categories → HasCategories after number categories
step_stays before command after zero categories keeps within may_not leads has = absurd (let of = has.is in cc)
step_stays before command after (suc place) categories keeps within may_not leads has =
    let of = of_round before place has.pool has.is in
    subst (HasCategories after (suc place)) has.same
    (by_round before command after place has.pool keeps within may_not leads has.is of.charter of.categories of.has_charter of.has_rules of.round of.there of.is)

pub bounds_stay : (before : Tables) (commands : List Command) (after : Tables) (number : ℕ) (categories : List Category) → IsTables before → AllByRecursion IsCommand commands →
    AllByRecursion (λ command. may_change command number ≡ false) commands → LeadThrough before commands after → HasCategories before number categories → HasCategories after number categories
bounds_stay before [] after number categories keeps within may_not leads has = subst (λ t. HasCategories t number categories) (sym leads) has
bounds_stay before (command ∷ later) after number categories keeps within may_not (next, (leads, rest)) has =
    bounds_stay next later after number categories (step_keeps before command next keeps within.0 leads) within.1 may_not.1 rest (step_stays before command next number categories keeps within.0 may_not.0 leads has)

-- ---- the next round

-- the round that begins has the categories of the drawn round before it
begun_has : (tables : Tables) → IsTables tables → (place : ℕ) (bundle : Bundle) (tickets : Option ℕ) (digits : List ℕ) (dropped : List (List ℕ)) → round_at tables.rounds place ≡ Some (Drawn bundle tickets digits dropped) →
    suc place ≡ length tables.rounds → HasCategories (apply tables Begun) (suc (suc place)) bundle.pool.categories
begun_has tables keeps place bundle tickets digits dropped at last =
    let has : HasBundle tables (suc place) bundle = record { round = Drawn bundle tickets digits dropped; there = at; has = refl } in
    let of = of_round tables place bundle.pool (bundles_have_pools tables (suc place) bundle keeps has) in
    let new : Tables = apply tables Begun in
    let there : round_at new.rounds (suc place) ≡ Some Open = subst (λ n. round_at (tables.rounds ++ Open ∷ []) n ≡ Some Open) (sym last) (pushed_there tables.rounds Open) in
    let grown = (apply_extends tables Begun).rounds place (Drawn bundle tickets digits dropped) at tt in
    record {
      pool = open_pool of.charter of.categories new (suc place);
      is = pool_at new (suc place) of.charter of.categories Open of.has_charter of.has_rules there;
      same = ap (λ found. (pool_after new.register found).categories) grown.there ∙ grown_pool grown.grows new.register;
    }

plus_one : (n : ℕ) → suc n ≡ n + 1
plus_one n = omega arith

both_have : (tables : Tables) → IsTables tables → (number : ℕ) → IsNext tables (NextRound number) → (categories : List Category) × (HasCategories tables number categories × HasCategories (apply tables Begun) (number + 1) categories)
both_have tables keeps zero next = absurd (let is = next.is in let there = next.there in let here : zero ≡ next.number = cc in let none : None ≡ Some (Drawn next.bundle next.tickets next.digits next.dropped) = subst (λ n. named_round tables.rounds n ≡ Some (Drawn next.bundle next.tickets next.digits next.dropped)) (sym here) there in cc)
both_have tables keeps (suc place) next =
    let is = next.is in
    let here : suc place ≡ next.number = cc in
    let there : round_at tables.rounds place ≡ Some (Drawn next.bundle next.tickets next.digits next.dropped) = subst (λ n. named_round tables.rounds n ≡ Some (Drawn next.bundle next.tickets next.digits next.dropped)) (sym here) next.there in
    let has : HasBundle tables (suc place) next.bundle = record { round = Drawn next.bundle next.tickets next.digits next.dropped; there = there; has = refl } in
    let first : HasCategories tables (suc place) next.bundle.pool.categories = record { pool = next.bundle.pool; is = bundles_have_pools tables (suc place) next.bundle keeps has; same = refl } in
    let second = begun_has tables keeps place next.bundle next.tickets next.digits next.dropped there (here ∙ next.last) in
    (next.bundle.pool.categories, (first, subst (λ n. HasCategories (apply tables Begun) n next.bundle.pool.categories) (plus_one (suc place)) second))

pub bounds_go_on : (tables : Tables) (number : ℕ) (reply : Reply) → IsTables tables → Comes tables (NextRound number) (Replies (Some Begun) reply) →
    (categories : List Category) × (HasCategories tables number categories × HasCategories (apply tables Begun) (number + 1) categories)
bounds_go_on tables number reply keeps comes = both_have tables keeps number (changes_fit tables Begun reply keeps (NextRound number) tt comes)
