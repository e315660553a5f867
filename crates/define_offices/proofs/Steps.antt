-- The facts of `IsTables` hold of the tables that each step and each list of commands leaves. A command has one outcome.
use Rattle.std.proofs.Common.{◌≡◌, ℕ, zero, suc, Bool, true, false, cond, List, [], ◌∷◌, ◌++◌, Option, Some, None, is_some, Result, Ok, Err, refl, sym, ap, ◌∙◌, subst}
use Rattle.std.specs.List.{AllByRecursion}
use Rattle.std.proofs.lemmas.Bool.{false≢true}
use Rattle.std.proofs.lemmas.Slice.Eq.{bytes_eq-Decides}
use Rattle.define_pools.specs.Certificate.{Answer, Certifies}
use Rattle.define_pools.specs.Pool.{IsPool, Pool, panels}
use Rattle.define_bundles.specs.PoolReading.{read}
use Rattle.define_bundles.specs.PoolText.{spelling}
use Rattle.define_bundles.proofs.PoolReadAgain.{spelled_is_read}
use Rattle.define_bundles.specs.BundleText.{Bundle}
use Rattle.define_bundles.specs.Ranges.{IsInRanges}
use Rattle.define_checks.specs.Reasons.{Verdict, Valid, Refused}
use Rattle.define_proofs.specs.ProofVerdict.{OfLottery, OfNoPanel, Proof, verdict}
use Rattle.define_proofs.proofs.Verdicts.{certified_where_valid, no_panel_where_valid}
use Rattle.define_proofs.specs.ProofText.{IsProof}
use Rattle.define_draws.specs.Seal.{seal_of}
use Rattle.define_searches.specs.Classes.{are_alike}
use Rattle.define_searches.proofs.AlikeClasses.{alike_makes}
use Rattle.define_runs.specs.Keeps.{AreLimits}
use Rattle.define_runs.specs.Run as run
use Rattle.define_runs.specs.Run.{Ending, Limits, RunEnds, run_limits}
use Rattle.define_runs.proofs.OtherLimits.{one_ending}
use Rattle.define_runs.proofs.Work.{every_run_end}
use Rattle.laws_of_runs.proofs.Certified.{found_certified}
use Rattle.laws_of_runs.proofs.NoPanels.{none_where_no_panel}
use Rattle.laws_of_runs.proofs.Ranges.{found_in_ranges}
use Rattle.define_offices.specs.Tables.{Round, Open, Solved, Sealed, Drawn, Tables, first_tables, named_round, round_at}
use Rattle.define_offices.specs.Commands.{Command, SetCharter, SetRules, Register, Solve, Keep, Seal, Draw, Drop, NextRound, Show, Withdraw, SetBounds, TryDraw, Undrop, Reopen, WithdrawId, Outcome, Replies, Refuses, Refusal, Stops, Unproved}
use Rattle.define_offices.specs.Deciding.{Answered, Asked, draw_in, place_of_id, Finds, FindsNone, IsDecided, NeedsRun, answered, asked, asked_over, is_same_pool, keep_in, kept_by, kept_over, no_round, proof_pool, shown, solve_in, solved, place_of_hash, tells}
use Rattle.define_offices.specs.Facts.{IsCommand, IsTables, KeepsBundle, KeepsRound, has_drop}
use Rattle.define_offices.specs.Lines.{solved_line}
use Rattle.define_offices.specs.Pools.{pool_of}
use Rattle.define_offices.specs.Steps.{Comes, AtOnce, ByRun, Folds, LeadThrough, Leads, solved_with, tables_after}
use Rattle.define_offices.proofs.Changes.{changed_keeps}
use Rattle.define_offices.proofs.Outcomes.{bounds_keep, charter_keeps, draw_keeps, drop_keeps, next_keeps, register_keeps, reopen_keeps, rules_keep, seal_keeps, show_keeps, tried_keeps, undrop_keeps, withdraw_id_keeps, withdraw_keeps}
use Rattle.define_offices.proofs.Pools.{pool_of_has}

-- ---- answers that are certified and in the ranges of a bundle

-- the answer is certified, and in the ranges of a bundle
pub record IsProved (pool : Pool) (answer : Answer) : Type 0 where
  pub in_ranges : IsInRanges pool answer
  pub certified : Certifies pool answer.lottery answer.stages

abbrev pub IsRight : Pool → Answered → Type 0
IsRight pool (Finds answer) = IsProved pool answer
IsRight pool FindsNone = panels pool ≡ []

-- an outcome at which the tables stay as they are
abbrev pub Stays : Outcome → Type 0
Stays (Replies None reply) = Unit {0}
Stays (Replies (Some change) reply) = ⊥
Stays (Refuses refusal) = Unit {0}
Stays (Stops ending) = Unit {0}
Stays (Unproved refusal) = Unit {0}

stays_after : (tables : Tables) (outcome : Outcome) → Stays outcome → tables_after tables outcome ≡ tables
stays_after tables (Replies None reply) stays = refl
stays_after tables (Replies (Some change) reply) stays = absurd stays
stays_after tables (Refuses refusal) stays = refl
stays_after tables (Stops ending) stays = refl
stays_after tables (Unproved refusal) stays = refl

stays_so : (told outcome : Outcome) → Stays told → IsDecided told ≡ IsDecided outcome → Stays outcome
stays_so told outcome stays h = let e : told ≡ outcome = cc in subst Stays e stays

-- the round with `number` is open, and has the pool `pool`
pub record IsOpenRound (tables : Tables) (number : ℕ) (pool : Pool) : Type 0 where
  pub open_now : named_round tables.rounds number ≡ Some Open
  pub pool_is : pool_of tables number ≡ Ok pool

-- the outcome of a solve or a proof: the tables stay, or an open round gets an answer of which `IsRight` holds
pub data Settles (tables : Tables) (number : ℕ) (outcome : Outcome) : Type 0 where
  Leaves : Stays outcome → Settles tables number outcome
  Answers : (pool : Pool) (found : Answered) → IsOpenRound tables number pool → IsRight pool found → outcome ≡ answered number pool found → Settles tables number outcome

-- ---- a solve

over_pool : (result : Result Pool Refusal) (pool : Pool) → asked_over result ≡ NeedsRun pool → result ≡ Ok pool
over_pool (Ok other) pool h = cc
over_pool (Err refusal) pool h = absurd (cc)

needs_run : (tables : Tables) (number : ℕ) (found : Option Round) (pool : Pool) → named_round tables.rounds number ≡ found → solve_in tables number found ≡ NeedsRun pool → IsOpenRound tables number pool
needs_run tables number None pool at h = absurd (cc)
needs_run tables number (Some Open) pool at h = record { open_now = at; pool_is = over_pool (pool_of tables number) pool h }
needs_run tables number (Some (Solved bundle)) pool at h = absurd (cc)
needs_run tables number (Some (Sealed bundle tickets)) pool at h = absurd (cc)
needs_run tables number (Some (Drawn bundle tickets digits dropped)) pool at h = absurd (cc)

over_decided : (result : Result Pool Refusal) (outcome : Outcome) → asked_over result ≡ IsDecided outcome → Stays outcome
over_decided (Ok pool) outcome h = absurd (cc)
over_decided (Err refusal) outcome h = stays_so (Refuses refusal) outcome tt h

-- if a solve needs no run, the tables stay
pub solve_stays : (tables : Tables) (number : ℕ) (found : Option Round) (outcome : Outcome) → solve_in tables number found ≡ IsDecided outcome → Stays outcome
solve_stays tables number None outcome h = stays_so (no_round tables) outcome tt h
solve_stays tables number (Some Open) outcome h = over_decided (pool_of tables number) outcome h
solve_stays tables number (Some (Solved bundle)) outcome h = stays_so (tells (solved_line number bundle)) outcome tt h
solve_stays tables number (Some (Sealed bundle tickets)) outcome h = stays_so (tells (solved_line number bundle)) outcome tt h
solve_stays tables number (Some (Drawn bundle tickets digits dropped)) outcome h = stays_so (tells (solved_line number bundle)) outcome tt h

run_settles : (tables : Tables) (number : ℕ) (limits : Limits) (pool : Pool) (ending : Ending) → IsPool pool → AreLimits limits → IsOpenRound tables number pool → RunEnds pool limits ending →
    Settles tables number (solved number pool ending)
run_settles tables number limits pool (run.Found last found) is ranges open_round ends =
    Answers pool (Finds found) open_round
    (record {
      in_ranges = found_in_ranges pool (are_alike pool) (alike_makes pool) (run_limits limits) last found is ranges ends;
      certified = found_certified pool (are_alike pool) (alike_makes pool) (run_limits limits) last found is ranges ends;
    })
    refl
run_settles tables number limits pool run.NoPanel is ranges open_round ends = Answers pool FindsNone open_round (none_where_no_panel pool (are_alike pool) (alike_makes pool) (run_limits limits) ends) refl
run_settles tables number limits pool (run.TooWide stood pass) is ranges open_round ends = Leaves tt
run_settles tables number limits pool (run.TotalPasses stood pass) is ranges open_round ends = Leaves tt
run_settles tables number limits pool (run.PivotsSpent stood) is ranges open_round ends = Leaves tt
run_settles tables number limits pool (run.NodesSpent stood) is ranges open_round ends = Leaves tt

-- ---- a proof

-- two pools of the same text are the same
pub same_pools : (one other : Pool) → IsPool one → IsPool other → is_same_pool one other ≡ true → one ≡ other
same_pools one other is also same =
    let texts = (bytes_eq-Decides (spelling one) (spelling other)).0 same in
    let first = spelled_is_read one is in
    let second = spelled_is_read other also in
    let both = ap read texts in cc

proof_is_of_pool : (proof : Proof) → IsProof proof → IsPool (proof_pool proof)
proof_is_of_pool (OfLottery pool answer trees) is = is.is_bundle.is_pool
proof_is_of_pool (OfNoPanel pool lines) is = is.is_pool

valid_is_right : (proof : Proof) → IsProof proof → verdict proof ≡ Valid → IsRight (proof_pool proof) (shown proof)
valid_is_right (OfLottery pool answer trees) is valid = record {
  in_ranges = is.is_bundle.in_ranges;
  certified = (certified_where_valid pool answer trees is.is_bundle.in_ranges valid).0;
}
valid_is_right (OfNoPanel pool lines) is valid = no_panel_where_valid pool lines valid

kept_if : (tables : Tables) (number : ℕ) (pool : Pool) (proof : Proof) → IsOpenRound tables number pool → (same : Bool) → (same ≡ true → IsRight pool (shown proof)) → (other : Refusal) →
    Settles tables number (cond same (answered number pool (shown proof)) (Refuses other))
kept_if tables number pool proof open_round true right other = Answers pool (shown proof) open_round (right refl) refl
kept_if tables number pool proof open_round false right other = Leaves tt

kept_settles : (tables : Tables) (number : ℕ) (pool : Pool) (proof : Proof) → IsPool pool → IsProof proof → IsOpenRound tables number pool → (result : Verdict) → verdict proof ≡ result →
    Settles tables number (kept_by result number pool proof)
kept_settles tables number pool proof is fits open_round (Refused refusal) said = Leaves tt
kept_settles tables number pool proof is fits open_round Valid said =
    kept_if tables number pool proof open_round (is_same_pool (proof_pool proof) pool)
    (λ same. subst (λ p. IsRight p (shown proof)) (same_pools (proof_pool proof) pool (proof_is_of_pool proof fits) is same) (valid_is_right proof fits said)) _

module _ (tables : Tables) (keeps : IsTables tables) where
  kept_over_settles : (number : ℕ) (proof : Proof) → IsProof proof → named_round tables.rounds number ≡ Some Open → (result : Result Pool Refusal) → pool_of tables number ≡ result →
      Settles tables number (kept_over number proof result)
  kept_over_settles number proof fits at (Err refusal) of = Leaves tt
  kept_over_settles number proof fits at (Ok pool) of =
      kept_settles tables number pool proof (pool_of_has tables keeps number pool of).is.is_pool fits (record { open_now = at; pool_is = of }) (verdict proof) refl

  pub keep_settles : (number : ℕ) (proof : Proof) → IsProof proof → (found : Option Round) → named_round tables.rounds number ≡ found → Settles tables number (keep_in tables number proof found)
  keep_settles number proof fits None at = Leaves tt
  keep_settles number proof fits (Some Open) at = kept_over_settles number proof fits at (pool_of tables number) refl
  keep_settles number proof fits (Some (Solved bundle)) at = Leaves tt
  keep_settles number proof fits (Some (Sealed bundle tickets)) at = Leaves tt
  keep_settles number proof fits (Some (Drawn bundle tickets digits dropped)) at = Leaves tt

  decided_settles : (number : ℕ) (told outcome : Outcome) → Settles tables number told → IsDecided told ≡ IsDecided outcome → Settles tables number outcome
  decided_settles number told outcome settles h = let e : told ≡ outcome = cc in subst (Settles tables number) e settles

  -- ---- a solve or a proof, decided at once or by a run

  pub solve_settles : (number : ℕ) (limits : Limits) (outcome : Outcome) → AreLimits limits → Comes tables (Solve number limits) outcome → Settles tables number outcome
  solve_settles number limits outcome ranges (AtOnce h) = Leaves (solve_stays tables number (named_round tables.rounds number) outcome h)
  solve_settles number limits outcome ranges (ByRun n l pool ending same needs ends comes) =
      let number_is : number ≡ n = cc in
      let limits_are : limits ≡ l = cc in
      let open_round = needs_run tables number (named_round tables.rounds number) pool refl needs in
      subst (Settles tables number) (sym comes)
      (subst (λ k. Settles tables number (solved k pool ending)) number_is
      (run_settles tables number limits pool ending (pool_of_has tables keeps number pool open_round.pool_is).is.is_pool ranges open_round (subst (λ x. RunEnds pool x ending) (sym limits_are) ends)))

  pub proof_settles : (number : ℕ) (proof : Proof) (outcome : Outcome) → IsProof proof → Comes tables (Keep number proof) outcome → Settles tables number outcome
  proof_settles number proof outcome fits (AtOnce h) = decided_settles number _ outcome (keep_settles number proof fits (named_round tables.rounds number) refl) h
  proof_settles number proof outcome fits (ByRun n l pool ending same needs ends comes) = absurd (cc)

  -- ---- the tables after a solve or a proof

  keep_drops_solving : (bundle : Bundle) (round : Round) → has_drop round ≡ true → has_drop (solved_with bundle round) ≡ true
  keep_drops_solving bundle Open h = absurd (false≢true h)
  keep_drops_solving bundle (Solved other) h = h
  keep_drops_solving bundle (Sealed other tickets) h = h
  keep_drops_solving bundle (Drawn other tickets digits dropped) h = h

  bundle_keeps : (number : ℕ) (pool : Pool) (answer : Answer) → IsOpenRound tables number pool → IsProved pool answer → KeepsBundle tables (record { pool = pool; answer = answer })
  bundle_keeps number pool answer is proved =
      let has = pool_of_has tables keeps number pool is.pool_is in
      record {
        charter = ap is_some has.has_charter;
        rules = ap is_some has.has_rules;
        is_bundle = record { is_pool = has.is.is_pool; in_ranges = proved.in_ranges };
        total_agrees = proved.certified.is_lottery.total_agrees;
        same_ids = has.is.same_ids;
      }

  answered_keeps : (number : ℕ) (pool : Pool) (found : Answered) → IsOpenRound tables number pool → IsRight pool found → IsTables (tables_after tables (answered number pool found))
  answered_keeps number pool FindsNone is right = keeps
  answered_keeps number pool (Finds answer) is right =
      let bundle : Bundle = record { pool = pool; answer = answer } in
      let kept : KeepsRound tables (solved_with bundle Open) = bundle_keeps number pool answer is right in
      changed_keeps tables keeps (solved_with bundle) (keep_drops_solving bundle) number
      (λ old there. let open_now = is.open_now in let same : Open ≡ old = cc in subst (λ round. KeepsRound tables (solved_with bundle round)) same kept)

  settled_keeps : (number : ℕ) (outcome : Outcome) → Settles tables number outcome → IsTables (tables_after tables outcome)
  settled_keeps number outcome (Leaves stays) = subst IsTables (sym (stays_after tables outcome stays)) keeps
  settled_keeps number outcome (Answers pool found is right same) = subst (λ o. IsTables (tables_after tables o)) (sym same) (answered_keeps number pool found is right)

  -- ---- the tables after each command

  decided : (told outcome : Outcome) → IsTables (tables_after tables told) → IsDecided told ≡ IsDecided outcome → IsTables (tables_after tables outcome)
  decided told outcome kept h = let e : told ≡ outcome = cc in subst (λ o. IsTables (tables_after tables o)) e kept

  at_once_keeps : (command : Command) (outcome : Outcome) → IsCommand command → asked tables command ≡ IsDecided outcome → IsTables (tables_after tables outcome)
  at_once_keeps (SetCharter charter) outcome is h = decided _ outcome (charter_keeps tables keeps charter is) h
  at_once_keeps (SetRules rules) outcome is h = decided _ outcome (rules_keep tables keeps rules is) h
  at_once_keeps (Register rows) outcome is h = decided _ outcome (register_keeps tables keeps rows is) h
  at_once_keeps (Solve number limits) outcome is h = settled_keeps number outcome (solve_settles number limits outcome is (AtOnce h))
  at_once_keeps (Keep number proof) outcome is h = settled_keeps number outcome (proof_settles number proof outcome is (AtOnce h))
  at_once_keeps (Seal number tickets) outcome is h = decided _ outcome (seal_keeps tables keeps number tickets is (named_round tables.rounds number) refl) h
  at_once_keeps (Draw number given digits) outcome is h = decided _ outcome (draw_keeps tables keeps number given digits (named_round tables.rounds number) refl) h
  at_once_keeps (Drop number id) outcome is h = decided _ outcome (drop_keeps tables keeps number id (named_round tables.rounds number) refl) h
  at_once_keeps (NextRound after) outcome is h = decided _ outcome (next_keeps tables keeps after (named_round tables.rounds after) refl) h
  at_once_keeps (Show number) outcome is h = decided _ outcome (show_keeps tables keeps (named_round tables.rounds number)) h
  at_once_keeps (Withdraw key) outcome is h = decided _ outcome (withdraw_keeps tables keeps (place_of_hash tables.register (seal_of key) 0)) h
  at_once_keeps (SetBounds number bounds) outcome is h = decided _ outcome (bounds_keep tables keeps bounds is.1 (pool_of tables number) (named_round tables.rounds number)) h
  at_once_keeps (TryDraw number given digits) outcome is h = decided _ outcome (tried_keeps tables keeps (draw_in tables number given digits (named_round tables.rounds number))) h
  at_once_keeps (Undrop number id) outcome is h = decided _ outcome (undrop_keeps tables keeps number id (named_round tables.rounds number) refl) h
  at_once_keeps (Reopen number) outcome is h = decided _ outcome (reopen_keeps tables keeps number is (named_round tables.rounds number)) h
  at_once_keeps (WithdrawId id) outcome is h = decided _ outcome (withdraw_id_keeps tables keeps id (place_of_id tables.register id 0)) h

  pub comes_keeps : (command : Command) (outcome : Outcome) → IsCommand command → Comes tables command outcome → IsTables (tables_after tables outcome)
  comes_keeps command outcome is (AtOnce h) = at_once_keeps command outcome is h
  comes_keeps command outcome is (ByRun number limits pool ending same needs ends comes) =
      settled_keeps number outcome (solve_settles number limits outcome (subst IsCommand same is) (ByRun number limits pool ending refl (subst (λ c. asked tables c ≡ NeedsRun pool) same needs) ends comes))

pub step_keeps : (before : Tables) (command : Command) (after : Tables) → IsTables before → IsCommand command → Leads before command after → IsTables after
step_keeps before command after keeps is leads = subst IsTables (sym leads.leaves) (comes_keeps before keeps command leads.outcome is leads.comes)

-- ---- lists of commands

pub first_keeps : IsTables first_tables
first_keeps = record {
  charter = λ charter h. absurd (cc);
  rules = λ categories h. absurd (cc);
  bounds = λ categories h. absurd (cc);
  few_rows = refl;
  rows = refl;
  fit = refl;
  different_ids = refl;
  different_keys = refl;
  closed = refl;
  rounds = first_round;
}
  where
    first_round : (place : ℕ) (round : Round) → round_at first_tables.rounds place ≡ Some round → KeepsRound first_tables round
    first_round zero round h = let same : Open ≡ round = cc in subst (KeepsRound first_tables) same tt
    first_round (suc place) round h = absurd (cc)

pub through_keeps : (before : Tables) (commands : List Command) (after : Tables) → IsTables before → AllByRecursion IsCommand commands → LeadThrough before commands after → IsTables after
through_keeps before [] after keeps are leads = subst IsTables (sym leads) keeps
through_keeps before (command ∷ later) after keeps are (next, (leads, rest)) = through_keeps next later after (step_keeps before command next keeps are.0 leads) are.1 rest

pub folds_are_tables : (commands : List Command) (tables : Tables) → AllByRecursion IsCommand commands → Folds commands tables → IsTables tables
folds_are_tables commands tables are folds = through_keeps first_tables commands tables first_keeps are folds

through_more : (first : Tables) (commands : List Command) (command : Command) (before after : Tables) → LeadThrough first commands before → Leads before command after → LeadThrough first (commands ++ command ∷ []) after
through_more first [] command before after through leads = (after, (subst (λ tables. Leads tables command after) through leads, refl))
through_more first (one ∷ later) command before after (next, (leads, rest)) last = (next, (leads, through_more next later command before after rest last))

pub folds_grow : (commands : List Command) (command : Command) (before after : Tables) → Folds commands before → Leads before command after → Folds (commands ++ command ∷ []) after
folds_grow commands command before after folds leads = through_more first_tables commands command before after folds leads

-- ---- each command has an outcome

-- a solve has an outcome: if it needs the run over a pool, the ending of this run decides the outcome
solve_over : (tables : Tables) (number : ℕ) (limits : Limits) → IsTables tables → AreLimits limits → (found : Asked) → asked tables (Solve number limits) ≡ found →
    (outcome : Outcome) × Comes tables (Solve number limits) outcome
solve_over tables number limits keeps ranges (IsDecided outcome) h = (outcome, AtOnce h)
solve_over tables number limits keeps ranges (NeedsRun pool) h =
    let open_round = needs_run tables number (named_round tables.rounds number) pool refl h in
    let (ending, ends) = every_run_end pool limits (pool_of_has tables keeps number pool open_round.pool_is).is.is_pool ranges in
    (solved number pool ending, ByRun number limits pool ending refl h ends refl)

pub some_outcome : (tables : Tables) (command : Command) → IsTables tables → IsCommand command → (outcome : Outcome) × Comes tables command outcome
some_outcome tables (SetCharter charter) keeps is = (_, AtOnce refl)
some_outcome tables (SetRules categories) keeps is = (_, AtOnce refl)
some_outcome tables (Register rows) keeps is = (_, AtOnce refl)
some_outcome tables (Solve number limits) keeps is = solve_over tables number limits keeps is (asked tables (Solve number limits)) refl
some_outcome tables (Keep number proof) keeps is = (_, AtOnce refl)
some_outcome tables (Seal number tickets) keeps is = (_, AtOnce refl)
some_outcome tables (Draw number given digits) keeps is = (_, AtOnce refl)
some_outcome tables (Drop number id) keeps is = (_, AtOnce refl)
some_outcome tables (NextRound after) keeps is = (_, AtOnce refl)
some_outcome tables (Show number) keeps is = (_, AtOnce refl)
some_outcome tables (Withdraw key) keeps is = (_, AtOnce refl)
some_outcome tables (SetBounds number bounds) keeps is = (_, AtOnce refl)
some_outcome tables (TryDraw number given digits) keeps is = (_, AtOnce refl)
some_outcome tables (Undrop number id) keeps is = (_, AtOnce refl)
some_outcome tables (Reopen number) keeps is = (_, AtOnce refl)
some_outcome tables (WithdrawId id) keeps is = (_, AtOnce refl)

-- ---- no command has two outcomes

one_pool : (one other : Pool) → NeedsRun one ≡ NeedsRun other → one ≡ other
one_pool one other h = cc

pub one_outcome : (tables : Tables) (command : Command) (one other : Outcome) → Comes tables command one → Comes tables command other → one ≡ other
one_outcome tables command one other (AtOnce h) (AtOnce k) = cc
one_outcome tables command one other (AtOnce h) (ByRun number limits pool ending same needs ends comes) = absurd (cc)
one_outcome tables command one other (ByRun number limits pool ending same needs ends comes) (AtOnce k) = absurd (cc)
one_outcome tables command one other (ByRun number limits pool ending same needs ends comes) (ByRun n l p e also asks ending_too so) =
    let commands : Solve number limits ≡ Solve n l = sym same ∙ also in
    let numbers : number ≡ n = cc in
    let all : limits ≡ l = cc in
    let pools = one_pool pool p (sym needs ∙ asks) in
    let endings = one_ending pool limits ending e ends (subst (λ x. RunEnds x limits e) (sym pools) (subst (λ x. RunEnds p x e) (sym all) ending_too)) in cc
