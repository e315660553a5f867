-- The outcomes of a solve, by the round and the end of the run.
use Rattle.std.proofs.Common.{◌≡◌, ℕ, List, [], Option, Some, None, Result, Ok, Err, refl, subst}
use Rattle.std.proofs.lemmas.Bool.{false≢true}
use Rattle.define_bundles.specs.BundleText.{Bundle}
use Rattle.define_pools.specs.Certificate.{Answer}
use Rattle.define_pools.specs.Pool.{Pool, panels}
use Rattle.define_pools.proofs.Greatest.{greatest_from_Certifies}
use Rattle.define_runs.specs.Keeps.{AreLimits}
use Rattle.define_runs.specs.Run as run
use Rattle.define_runs.specs.Run.{Ending, Limits, RunEnds, RunFinds, run_limits}
use Rattle.define_searches.specs.Classes.{are_alike}
use Rattle.define_searches.proofs.AlikeClasses.{alike_makes}
use Rattle.laws_of_runs.proofs.NoPanels.{none_where_no_panel}
use Rattle.define_offices.specs.Commands.{Change, Lines, NoPanel, Refusal, Replies, Solve, SolvedWith}
use Rattle.define_offices.specs.Deciding.{Finds, FindsNone, IsDecided, NeedsRun, asked, asked_over, solve_in, solved}
use Rattle.define_offices.specs.Facts.{IsTables}
use Rattle.define_offices.specs.Pools.{pool_of}
use Rattle.define_offices.specs.Steps.{AtOnce, ByRun, Comes}
use Rattle.define_offices.specs.Tables.{Round, Open, Solved, Sealed, Drawn, Tables, bundle_of, named_round}
use Rattle.define_offices.proofs.Steps.{Answers, Leaves, Settles, Stays, solve_settles}
use Rattle.define_pools.specs.Leximin.{IsLeximin}
use Rattle.define_pools.proofs.LeximinParts.{leximin}
use Rattle.command_office.proofs.Plain.{solve_plain}

-- what a solve or a proof did to a round of these tables. An open round got a bundle whose lottery is leximin greatest over the quota panels
-- of the round's pool; `Also` is what more is known of them. A round past open has its bundle, and stays
pub data SettlesRound (round : ℕ) (tables : Tables) (change : Option Change) (Also : Pool → Answer → Type 0) : Type 0 where
  Opened : (pool : Pool) (answer : Answer) → named_round tables.rounds round ≡ Some Open → pool_of tables round ≡ Ok pool → IsLeximin pool answer.lottery → Also pool answer →
      change ≡ Some (SolvedWith round (record { pool = pool; answer = answer })) → SettlesRound round tables change Also
  HadBundle : (it : Round) (bundle : Bundle) → named_round tables.rounds round ≡ Some it → bundle_of it ≡ Some bundle → change ≡ None → SettlesRound round tables change Also

module _ (tables : Tables) (number : ℕ) (limits : Limits) where
  abbrev ByRuns : Pool → Answer → Type 0
  ByRuns pool answer = RunFinds pool limits answer

  -- the round is open and has the pool `pool`, and the run over this pool ends with `ending`
  pub record Ran (ending : Ending) : Type 0 where
    pub pool : Pool
    pub open_now : named_round tables.rounds number ≡ Some Open
    pub is : pool_of tables number ≡ Ok pool
    pub ends : RunEnds pool limits ending

  over_pool : (result : Result Pool Refusal) (pool : Pool) → asked_over result ≡ NeedsRun pool → result ≡ Ok pool
  over_pool (Ok other) pool h = cc
  over_pool (Err refusal) pool h = absurd (cc)

  ran_over : (found : Option Round) (pool : Pool) (ending : Ending) → named_round tables.rounds number ≡ found → solve_in tables number found ≡ NeedsRun pool → RunEnds pool limits ending → Ran ending
  ran_over None pool ending at h ends = absurd (cc)
  ran_over (Some Open) pool ending at h ends = record { pool = pool; open_now = at; is = over_pool (pool_of tables number) pool h; ends = ends }
  ran_over (Some (Solved bundle)) pool ending at h ends = absurd (cc)
  ran_over (Some (Sealed bundle tickets)) pool ending at h ends = absurd (cc)
  ran_over (Some (Drawn bundle tickets digits dropped)) pool ending at h ends = absurd (cc)

  ran : (n : ℕ) (l : Limits) (pool : Pool) (ending : Ending) → Solve number limits ≡ Solve n l → asked tables (Solve number limits) ≡ NeedsRun pool → RunEnds pool l ending → Ran ending
  ran n l pool ending same needs ends =
      let equal : l ≡ limits = cc in ran_over (named_round tables.rounds number) pool ending refl needs (subst (λ x. RunEnds pool x ending) equal ends)

  -- ---- a solve that replies that there is no panel

  none_at_once : (change : Option Change) → solve_in tables number (named_round tables.rounds number) ≡ IsDecided (Replies change NoPanel) → ⊥
  none_at_once change h = false≢true (solve_plain tables number (named_round tables.rounds number) (Replies change NoPanel) h)

  none_run : (n : ℕ) (pool : Pool) (ending : Ending) (change : Option Change) → Replies change NoPanel ≡ solved n pool ending → (ending ≡ run.NoPanel) × (change ≡ None)
  none_run n pool (run.Found last answer) change h = absurd (cc)
  none_run n pool run.NoPanel change h = (refl, cc)
  none_run n pool (run.TooWide stood pass) change h = absurd (cc)
  none_run n pool (run.TotalPasses stood pass) change h = absurd (cc)
  none_run n pool (run.PivotsSpent stood) change h = absurd (cc)
  none_run n pool (run.NodesSpent stood) change h = absurd (cc)

  -- If a solve replies that there is no panel, the round is open and its pool has no quota panel.
  pub solve_none : (change : Option Change) → Comes tables (Solve number limits) (Replies change NoPanel) → (it : Ran run.NoPanel) × (panels it.pool ≡ [])
  solve_none change (AtOnce h) = absurd (none_at_once change h)
  solve_none change (ByRun n l pool own same needs ends comes) =
      let it = subst Ran (none_run n pool own change comes).0 (ran n l pool own same needs ends) in
      (it, none_where_no_panel it.pool (are_alike it.pool) (alike_makes it.pool) (run_limits limits) it.ends)

  -- A solve that replies that there is no panel changes nothing.
  pub none_stays : (change : Option Change) → Comes tables (Solve number limits) (Replies change NoPanel) → change ≡ None
  none_stays change (AtOnce h) = absurd (none_at_once change h)
  none_stays change (ByRun n l pool own same needs ends comes) = (none_run n pool own change comes).1

  -- ---- a round that is answered

  text_over : (result : Result Pool Refusal) (change : Option Change) (text : List ℕ) → asked_over result ≡ IsDecided (Replies change (Lines text)) → ⊥
  text_over (Ok pool) change text h = cc
  text_over (Err refusal) change text h = cc

  had_bundle : (found : Option Round) (change : Option Change) (text : List ℕ) → named_round tables.rounds number ≡ found → solve_in tables number found ≡ IsDecided (Replies change (Lines text)) → SettlesRound number tables change ByRuns
  had_bundle None change text at h = absurd (cc)
  had_bundle (Some Open) change text at h = absurd (text_over (pool_of tables number) change text h)
  had_bundle (Some (Solved bundle)) change text at h = HadBundle (Solved bundle) bundle at refl (cc)
  had_bundle (Some (Sealed bundle tickets)) change text at h = HadBundle (Sealed bundle tickets) bundle at refl (cc)
  had_bundle (Some (Drawn bundle tickets digits dropped)) change text at h = HadBundle (Drawn bundle tickets digits dropped) bundle at refl (cc)

  -- If the outcome of a run is a reply with a text, the reply has a change.
  no_stay : (n : ℕ) (pool : Pool) (ending : Ending) (change : Option Change) (text : List ℕ) → Stays (Replies change (Lines text)) → Replies change (Lines text) ≡ solved n pool ending → ⊥
  no_stay n pool (run.Found last answer) change text stays h =
      let e : change ≡ Some (SolvedWith n (record { pool = pool; answer = answer })) = cc in subst (λ c. Stays (Replies c (Lines text))) e stays
  no_stay n pool run.NoPanel change text stays h = cc
  no_stay n pool (run.TooWide stood pass) change text stays h = cc
  no_stay n pool (run.TotalPasses stood pass) change text stays h = cc
  no_stay n pool (run.PivotsSpent stood) change text stays h = cc
  no_stay n pool (run.NodesSpent stood) change text stays h = cc

  -- the bundle that a solve gives to a round is the one that the run finds
  found_run : (n : ℕ) (pool : Pool) (ending : Ending) (p : Pool) (answer : Answer) (change : Option Change) (text : List ℕ) → Replies change (Lines text) ≡ solved n pool ending →
      change ≡ Some (SolvedWith number (record { pool = p; answer = answer })) → RunEnds pool limits ending → RunFinds p limits answer
  found_run n pool (run.Found last found) p answer change text h so ends =
      let bundles : ◌≡◌ {A = Bundle} (record { pool = pool; answer = found }) (record { pool = p; answer = answer }) = cc in
      (last, subst (λ (b : Bundle). RunEnds b.pool limits (run.Found last b.answer)) bundles ends)
  found_run n pool run.NoPanel p answer change text h so ends = absurd (cc)
  found_run n pool (run.TooWide stood pass) p answer change text h so ends = absurd (cc)
  found_run n pool (run.TotalPasses stood pass) p answer change text h so ends = absurd (cc)
  found_run n pool (run.PivotsSpent stood) p answer change text h so ends = absurd (cc)
  found_run n pool (run.NodesSpent stood) p answer change text h so ends = absurd (cc)

  module _ (keeps : IsTables tables) (ranges : AreLimits limits) where
    -- If a solve replies with a text, an open round got a bundle whose lottery is leximin greatest, or the round had its bundle.
    pub solve_done : (change : Option Change) (text : List ℕ) → Comes tables (Solve number limits) (Replies change (Lines text)) → SettlesRound number tables change ByRuns
    solve_done change text (AtOnce h) = had_bundle (named_round tables.rounds number) change text refl h
    solve_done change text (ByRun n l pool ending same needs ends comes) =
        settled (solve_settles tables keeps number limits (Replies change (Lines text)) ranges (ByRun n l pool ending same needs ends comes))
      where
        settled : Settles tables number (Replies change (Lines text)) → SettlesRound number tables change ByRuns
        settled (Leaves stays) = absurd (no_stay n pool ending change text stays comes)
        settled (Answers p (Finds answer) is right e) =
            let so : change ≡ Some (SolvedWith number (record { pool = p; answer = answer })) = cc in
            let equal : l ≡ limits = cc in
            Opened p answer is.open_now is.pool_is (leximin p answer.lottery (greatest_from_Certifies p answer.lottery answer.stages right.certified))
            (found_run n pool ending p answer change text comes so (subst (λ x. RunEnds pool x ending) equal ends)) so
        settled (Answers p FindsNone is right e) = absurd (cc)
