-- What status 0 and status 1 mean for each command: a lottery that is answered is leximin greatest, a draw is of the sealed bundle, and
-- there is no quota panel.
use Rattle.std.specs.Prelude.{◌⊎◌, is_ok, option_and_then, option_map, ⊤}
use Rattle.std.proofs.Common.{◌≡◌, ◌∙◌, ℕ, Bool, true, false, cond, List, [], Option, Some, None, Result, Ok, Err, refl, ap, sym, subst, inl, inr, zero, suc, not}
use Rattle.std.specs.Str.{bytes_eq}
use Rattle.std.proofs.lemmas.Slice.Eq.{bytes_eq-Decides}
use Rattle.define_proofs.specs.ProofVerdict.{OfLottery, OfNoPanel, Proof}
use Rattle.define_bundles.specs.BundleText.{Bundle}
use Rattle.define_draws.specs.Dice.{name_ticket}
use Rattle.define_draws.specs.Draw.{Drawn, Refused, SealDiffers, draw, drawn_with}
use Rattle.define_draws.specs.Seal.{is_seal}
use Rattle.define_draws.specs.declared.DiceStop.{DiceStop}
use Rattle.define_draws.specs.declared.Named.{Named}
use Rattle.define_pools.proofs.LeximinParts.{leximin}
use Rattle.define_lines.specs.Lines as lines
use Rattle.define_made_pools.specs.MadePools.{made_pool}
use Rattle.define_offices.specs.Commands.{Change, Command, Draw, Keep, Lines, NoPanel, Outcome, Refusal, Refuses, Replies, Solve, Stops, TryDraw, Unproved}
use Rattle.define_offices.specs.Deciding.{IsDecided, draw_in, new_draw, without_change}
use Rattle.define_offices.specs.Facts.{IsTables, KeepsRound}
use Rattle.define_offices.specs.Pools.{drawn_lottery}
use Rattle.define_offices.specs.Steps.{AtOnce, ByRun, Comes, applied}
use Rattle.define_offices.specs.Tables.{Drawn as DrawnRound, Open, Round, Sealed, Solved, Tables, bundle_of, named_round, tickets_of}
use Rattle.define_pools.specs.Certificate.{Answer}
use Rattle.define_pools.specs.Lottery.{Lottery}
use Rattle.define_pools.specs.Pool.{Pool, panels}
use Rattle.define_proofs.specs.ProofReading.{read_proof}
use Rattle.define_runs.specs.Run.{RunFinds}
use Rattle.office_core.specs.Acting.{IsLoaded}
use Rattle.command_shell.specs.declared.formats.PoolOrBundle.{PoolOrBundle}
use Rattle.command_shell.specs.declared.formats.PoolOrBundle.TheVariants as either
use Rattle.command_shell.specs.declared.status.Printed.{Printed}
use Rattle.command_shell.specs.declared.status.Printed.TheVariants.{Done, NoPanel as NonePrinted}
use Rattle.command_shell.specs.Answers.{IsRight, Prints, Saying}
use Rattle.command_shell.specs.Formats.{IsBundleText, IsPoolText, IsTextOfEither}
use Rattle.command_shell.specs.Outcomes.{IsAboutSource, IsTold}
use Rattle.command_shell.specs.Subjects.{About, AboutFault, AboutValue, Format}
use Rattle.command_shell.specs.Told.{Gains, HeldAll}
use Rattle.command_meanings.specs.ItsBundle.{BundleMeans}
use Rattle.command_meanings.specs.Prove.{IsGiven, PrintsNoPanel, ProvesNone, RunFindsNone, given_in, lottery_limits, pool_in}
use Rattle.define_draws.specs.Lines.{bundle_seal}
use Rattle.command_shell.specs.BundlesOrProofs.{bundle_in}
use Rattle.command_meanings.specs.Page.{DrawnPageOfBundle, PageOfBundle, about}
use Rattle.command_meanings.specs.Imports.{Does, HasFault, ImportMeans, NoRules, keeping}
use Rattle.command_meanings.specs.ProvedRounds.{AsSolve, IsOpenWith, Keeps as KeepsProof, ProvesRound}
use Rattle.command_meanings.specs.Steps.{StepMeans, change_of, text_or_refusal}
use Rattle.command_stores.specs.StoreOutcomes.{IsAnswered, StoreMeaning}
use Rattle.command_stores.specs.StoreTold.{StoreTold}
use Rattle.command_meanings.specs.declared.office.Import.{Import}
use Rattle.command_meanings.specs.declared.office.Import.TheVariants as imports
use Rattle.command_texts.specs.declared.commands.TextCommand.TheVariants as texts
use Rattle.command_office.specs.declared.asked.Asked.{Asked}
use Rattle.command_office.specs.declared.asked.Asked.TheVariants as asks
use Rattle.command_office.specs.declared.steps.Step.TheVariants as steps
use Rattle.command_office.specs.Steps.{step_command}
use Rattle.command_office.specs.About.{HeldBundle, HeldEither, HeldPool, IsItsPool, IsRoundPool}
use Rattle.command_office.specs.Headline.{AnswersLottery, DrawsSealed, GotBundle, HadBundle as HadIts, IsRightAnswer, IsSealedDraw, SolvesRound}
use Rattle.command_office.proofs.KeptRounds.{keep_comes, keep_done, keep_none}
use Rattle.command_office.proofs.Plain.{file_plain, is_plain_command, is_plain_import, plain_comes}
use Rattle.command_office.proofs.Quiet.{comes_none, comes_text, unchanged}
use Rattle.command_office.proofs.SolvedRounds.{HadBundle, Opened, SettlesRound, solve_done, solve_none}
use Rattle.std.proofs.lemmas.Bool.{false≢true}

-- ---- what a printed answer about a text is about

-- the printed answer is right about a value whose text the source held
record IsPrinted {Value : Type 0} (format : Format Value) (Means : Value → Saying → Type 0) (told : StoreTold) (answer : Saying) : Type 0 where
  value : Value
  bytes : List ℕ
  held : HeldAll told.call.source bytes
  spells : format.spells value bytes
  means : Means value answer

printed_about : {Value : Type 0} (format : Format Value) (Means : Value → Saying → Type 0) (told : StoreTold) (printed : Printed) (text : List ℕ) →
    IsAboutSource (About format Means) told.call.source (Prints printed text) → IsPrinted format Means told (Prints printed text)
printed_about format Means told printed text about_it = by about_it.means
  where
    by : About format Means about_it.bytes (Prints printed text) → IsPrinted format Means told (Prints printed text)
    by (AboutValue value reads spells means) = record { value = value; bytes = about_it.bytes; held = about_it.held; spells = spells; means = means }
    by (AboutFault fault fails e) = absurd (cc (e))

module _ (told : StoreTold) where
  held_pool : (pool : Pool) (bytes : List ℕ) → HeldAll told.call.source bytes → IsPoolText pool bytes → HeldPool told.call.source pool
  held_pool pool bytes held is = record { is_pool = is.is_pool; held = subst (HeldAll told.call.source) is.spelled held }

  held_bundle : (bundle : Bundle) (bytes : List ℕ) → HeldAll told.call.source bytes → IsBundleText bundle bytes → HeldBundle told.call.source bundle
  held_bundle bundle bytes held is = record { is_bundle = is.is_bundle; held = subst (HeldAll told.call.source) is.spelled held }

  held_either : (about : PoolOrBundle) (bytes : List ℕ) → HeldAll told.call.source bytes → IsTextOfEither about bytes → HeldEither told.call.source (pool_in about)
  held_either (either.Pool pool) bytes held is = inl (held_pool pool bytes held is)
  held_either (either.Bundle bundle) bytes held is = inr (bundle.answer, held_bundle bundle bytes held is)

  -- if an answer is about a given pool or bundle, the source held that pool, or the bundle whose lottery is proved
  held_given : (about : PoolOrBundle) (its : Answer) (bytes : List ℕ) → HeldAll told.call.source bytes → IsTextOfEither about bytes → IsGiven (given_in about) its →
      HeldPool told.call.source (pool_in about) ⊎ HeldBundle told.call.source (record { pool = pool_in about; answer = its })
  held_given (either.Pool pool) its bytes held is given = inl (held_pool pool bytes held is)
  held_given (either.Bundle bundle) its bytes held is given =
      inr (subst (λ one. HeldBundle told.call.source (record { pool = bundle.pool; answer = one })) (sym given) (held_bundle bundle bytes held is))

  -- ---- a round that is solved

  some_round : (round : Option Round) (it : Round) (bundle : Bundle) → round ≡ Some it → bundle_of it ≡ Some bundle → option_and_then bundle_of round ≡ Some bundle
  some_round round it bundle is has = ap (option_and_then bundle_of) is ∙ has

  solves : {Means : StoreMeaning} (path : List ℕ) (round : ℕ) (Also : Pool → Answer → Type 0) (answer : Saying) (is : IsAnswered path Means told.keeper answer) →
      SettlesRound round is.tables is.change Also → SolvesRound round told Also
  solves path round Also answer is (Opened pool its open_now of leximin_so also so) = GotBundle (record {
    pool = pool;
    answer = its;
    leximin = leximin_so;
    told = (
      record { tables = is.tables; loaded = is.loaded; open_now = open_now; is = of },
      also,
      subst (λ c. told.keeper.object.after ≡ option_map (λ kept. applied kept c) told.keeper.object.before) so is.stored,
    );
  })
  solves path round Also answer is (HadBundle it bundle at has none) =
      HadIts is.tables bundle is.loaded (some_round (named_round is.tables.rounds round) it bundle at has) (unchanged told.keeper.object.before told.keeper.object.after is.change none is.stored)

  read_solves : (path : List ℕ) (round : ℕ) (bytes : List ℕ) (text : List ℕ) (is : IsAnswered path (ImportMeans (imports.Proof round) bytes) told.keeper (Prints Done text)) →
      ImportMeans (imports.Proof round) bytes is.tables (Prints Done text) is.change → SettlesRound round is.tables is.change (λ pool answer. ⊤)
  read_solves path round bytes text is (Does command reads means) = by (read_proof bytes) reads
    where
      by : (result : Result Proof lines.Fault) → Ok command ≡ keeping round result → SettlesRound round is.tables is.change (λ pool answer. ⊤)
      by (Ok proof) h =
          let e : command ≡ Keep round proof = cc in
          let own = subst (λ c. StepMeans c is.tables (Prints Done text) is.change) e means in
          keep_done is.tables round is.loaded.is proof own.is_command is.change text (keep_comes is.tables round proof (Replies is.change (Lines text)) (comes_text (Keep round proof) is.tables is.change text own))
      by (Err fault) h = absurd (cc)
  read_solves path round bytes text is (HasFault fault reads so none) = absurd (cc (so))
  read_solves path round bytes text is (NoRules register none so kept) = absurd (cc (so))

  no_also : (round : ℕ) (tables : Tables) (change : Option Change) (Also : Pool → Answer → Type 0) → SettlesRound round tables change Also → SettlesRound round tables change (λ pool answer. ⊤)
  no_also round tables change Also (Opened pool its open_now of leximin_so also so) = Opened pool its open_now of leximin_so tt so
  no_also round tables change Also (HadBundle it bundle at has none) = HadBundle it bundle at has none

  proof_solves : (path : List ℕ) (round : ℕ) (text : List ℕ) (is : IsAnswered path (ProvesRound round) told.keeper (Prints Done text)) → ProvesRound round is.tables (Prints Done text) is.change →
      SettlesRound round is.tables is.change (λ pool answer. ⊤)
  proof_solves path round text is (KeepsProof pool proof of same valid means) =
      keep_done is.tables round is.loaded.is proof means.is_command is.change text (keep_comes is.tables round proof (Replies is.change (Lines text)) (comes_text (Keep round proof) is.tables is.change text means))
  proof_solves path round text is (AsSolve means) =
      no_also round is.tables is.change (λ pool answer. RunFinds pool lottery_limits answer)
      (solve_done is.tables round lottery_limits is.loaded.is means.is_command is.change text (comes_text (Solve round lottery_limits) is.tables is.change text means))

  -- ---- status 0

  pub done : (it : Option Asked) (text : List ℕ) → IsRightAnswer it told (Prints Done text) → IsTold (Prints Done text) told.call → AnswersLottery it told
  done (Some (asks.Lottery it)) text right is =
      let own = printed_about _ _ told Done text right in
      let prints = own.means.right in record {
        pool = own.value;
        answer = prints.answer;
        leximin = leximin own.value prints.answer.lottery prints.finds.greatest;
        told = (held_pool own.value own.bytes own.held own.spells, prints.finds.ends, subst (Gains told.call.out) prints.bundle is.out);
      }
  done (Some (asks.SharedLottery it)) text right is =
      let own = printed_about _ _ told Done text right in
      let prints = own.means in record {
        pool = own.value;
        answer = prints.answer;
        leximin = leximin own.value prints.answer.lottery prints.finds.greatest;
        told = (held_pool own.value own.bytes own.held own.spells, prints.finds.ends, subst (Gains told.call.out) prints.bundle is.out);
      }
  done (Some (asks.Prove it)) text right is =
      let own = printed_about _ _ told Done text right in
      let prints = own.means.right in record {
        pool = pool_in own.value;
        answer = prints.its;
        leximin = leximin (pool_in own.value) prints.its.lottery prints.greatest.greatest;
        told = (held_given own.value prints.its own.bytes own.held own.spells prints.is_given, (prints.trees, prints.valid, subst (Gains told.call.out) prints.proof is.out));
      }
  done (Some (asks.Make it)) text right is =
      let prints = right.right in record {
        pool = made_pool it.seed it.volunteers;
        answer = prints.answer;
        leximin = leximin (made_pool it.seed it.volunteers) prints.answer.lottery prints.finds.greatest;
        told = (refl, (prints.last, prints.ends, subst (Gains told.call.out) prints.summary is.out));
      }
  done (Some (asks.Step store (steps.Solve round limits workers))) text right is =
      solves store round (λ pool answer. RunFinds pool limits answer) (Prints Done text) right
      (solve_done right.tables round limits right.loaded.is right.means.is_command right.change text (comes_text (Solve round limits) right.tables right.change text right.means))
  done (Some (asks.Import store (imports.Proof round))) text (bytes, input, right) is =
      solves store round (λ pool answer. ⊤) (Prints Done text) right (read_solves store round bytes text right right.means)
  done (Some (asks.ProveRound store it)) text right is = solves store it.round (λ pool answer. ⊤) (Prints Done text) right (proof_solves store it.round text right right.means)
  done other text right is = tt

  -- ---- a draw

  is_sealed : (kept given digits : List ℕ) (lottery : Lottery) (drawn : Drawn) (same : Bool) → is_seal kept given ≡ same → draw lottery kept given digits ≡ Ok drawn → is_seal kept given ≡ true
  is_sealed kept given digits lottery drawn true is draws = is
  is_sealed kept given digits lottery drawn false is draws =
      let fails : draw lottery kept given digits ≡ Err SealDiffers = rw is refl in absurd (cc (fails, draws))

  sealed_draw : (seal digits : List ℕ) (bundle : Bundle) (lottery : Lottery) (drawn : Drawn) → draw lottery (bundle_seal bundle) seal digits ≡ Ok drawn → IsSealedDraw seal digits bundle lottery
  sealed_draw seal digits bundle lottery drawn draws =
      record { sealed = is_sealed (bundle_seal bundle) seal digits lottery drawn (is_seal (bundle_seal bundle) seal) refl draws; drawn = drawn; draws = draws }

  -- a round is drawn from its bundle's lottery, or from it in the number of tickets that was kept with the seal
  record RoundDraw (seal digits : List ℕ) (found : Option Round) : Type 0 where
    kept : Round
    bundle : Bundle
    is : found ≡ Some kept
    has : bundle_of kept ≡ Some bundle
    draws : IsSealedDraw seal digits bundle (drawn_lottery bundle (tickets_of kept))

  newly_drawn : (number : ℕ) (bundle : Bundle) (lottery : Lottery) (seal digits : List ℕ) (result : Result Drawn Refused) (change : Option Change) (text : List ℕ) → draw lottery (bundle_seal bundle) seal digits ≡ result →
      new_draw number bundle seal digits result ≡ Replies change (Lines text) → IsSealedDraw seal digits bundle lottery
  newly_drawn number bundle lottery seal digits (Ok drawn) change text is h = sealed_draw seal digits bundle lottery drawn is
  newly_drawn number bundle lottery seal digits (Err refused) change text is h = absurd (cc)

  outcomes : (one other : Outcome) → IsDecided one ≡ IsDecided other → one ≡ other
  outcomes one other h = cc

  -- a draw from a round that is drawn already is answered only for its seal and its digits
  by_seal : (is same : Bool) (one other : Refusal) (lines_of text : List ℕ) (change : Option Change) → cond (not is) (Refuses one) (cond same (Replies None (Lines lines_of)) (Refuses other)) ≡ Replies change (Lines text) →
      (is ≡ true) × (same ≡ true)
  by_seal true true one other lines_of text change h = (refl, refl)
  by_seal true false one other lines_of text change h = absurd (cc)
  by_seal false same one other lines_of text change h = absurd (cc)

  drawn_so : (lottery : Lottery) (kept seal digits : List ℕ) (result : Result Named DiceStop) → name_ticket lottery.total digits ≡ result → is_ok result ≡ true → is_seal kept seal ≡ true →
      (drawn : Drawn) × (draw lottery kept seal digits ≡ Ok drawn)
  drawn_so lottery kept seal digits (Ok named) is ok sealed = let draws : draw lottery kept seal digits ≡ drawn_with lottery (Ok named) = rw (sealed, is) refl in (_, draws)
  drawn_so lottery kept seal digits (Err stop) is ok sealed = absurd (false≢true ok)

  keeps_named : (tables : Tables) → IsTables tables → (number : ℕ) (round : Round) → named_round tables.rounds number ≡ Some round → KeepsRound tables round
  keeps_named tables keeps zero round at = absurd (cc)
  keeps_named tables keeps (suc place) round at = keeps.rounds place round at

  drawn_in : (tables : Tables) → IsTables tables → (number : ℕ) (seal digits : List ℕ) (found : Option Round) (change : Option Change) (text : List ℕ) → named_round tables.rounds number ≡ found →
      draw_in tables number seal digits found ≡ Replies change (Lines text) → RoundDraw seal digits found
  drawn_in tables keeps number seal digits None change text at h = absurd (cc)
  drawn_in tables keeps number seal digits (Some Open) change text at h = absurd (cc)
  drawn_in tables keeps number seal digits (Some (Solved bundle)) change text at h = absurd (cc)
  drawn_in tables keeps number seal digits (Some (Sealed bundle tickets)) change text at h = record {
    kept = Sealed bundle tickets;
    bundle = bundle;
    is = refl;
    has = refl;
    draws = newly_drawn number bundle (drawn_lottery bundle tickets) seal digits (draw (drawn_lottery bundle tickets) (bundle_seal bundle) seal digits) change text refl h;
  }
  drawn_in tables keeps number seal digits (Some (DrawnRound bundle tickets kept dropped)) change text at h =
      let (sealed, same) = by_seal (is_seal (bundle_seal bundle) seal) (bytes_eq kept digits) _ _ _ text change h in
      let equal = (bytes_eq-Decides kept digits).0 same in
      let lottery = drawn_lottery bundle tickets in
      let named = subst (λ ds. is_ok (name_ticket lottery.total ds) ≡ true) equal (keeps_named tables keeps number (DrawnRound bundle tickets kept dropped) at).1.named in
      let (drawn, draws) = drawn_so lottery (bundle_seal bundle) seal digits (name_ticket lottery.total digits) refl named sealed in
      record { kept = DrawnRound bundle tickets kept dropped; bundle = bundle; is = refl; has = refl; draws = sealed_draw seal digits bundle lottery drawn draws }

  round_drawn : (tables : Tables) → IsTables tables → (number : ℕ) (seal digits : List ℕ) (change : Option Change) (text : List ℕ) → Comes tables (Draw number seal digits) (Replies change (Lines text)) →
      RoundDraw seal digits (named_round tables.rounds number)
  round_drawn tables keeps number seal digits change text (AtOnce h) = drawn_in tables keeps number seal digits (named_round tables.rounds number) change text refl (outcomes _ (Replies change (Lines text)) h)
  round_drawn tables keeps number seal digits change text (ByRun n l pool ending same needs ends comes) = absurd (cc)

  -- an outcome that is told without its change tells the same lines, and comes with no change
  tried_so : (outcome : Outcome) (change : Option Change) (text : List ℕ) → without_change outcome ≡ Replies change (Lines text) →
      (made : Option Change) × ((outcome ≡ Replies made (Lines text)) × (change ≡ None))
  tried_so (Replies made (Lines own)) change text h = let same : own ≡ text = cc in (made, (ap (λ t. Replies made (Lines t)) same, cc))
  tried_so (Replies made NoPanel) change text h = absurd (cc)
  tried_so (Refuses refusal) change text h = absurd (cc)
  tried_so (Stops ending) change text h = absurd (cc)
  tried_so (Unproved refusal) change text h = absurd (cc)

  round_tried : (tables : Tables) → IsTables tables → (number : ℕ) (seal digits : List ℕ) (change : Option Change) (text : List ℕ) → Comes tables (TryDraw number seal digits) (Replies change (Lines text)) →
      RoundDraw seal digits (named_round tables.rounds number) × (change ≡ None)
  round_tried tables keeps number seal digits change text (AtOnce h) =
      let (made, (is, none)) = tried_so (draw_in tables number seal digits (named_round tables.rounds number)) change text (outcomes _ (Replies change (Lines text)) h) in
      (drawn_in tables keeps number seal digits (named_round tables.rounds number) made text refl is, none)
  round_tried tables keeps number seal digits change text (ByRun n l pool ending same needs ends comes) = absurd (cc)

  pub drawn : (it : Option Asked) (text : List ℕ) → IsRightAnswer it told (Prints Done text) → DrawsSealed it told
  drawn (Some (asks.Text (texts.Draw seal digits))) text right =
      let own = printed_about _ _ told Done text right in
      let prints = own.means.right in
      (own.value, held_bundle own.value own.bytes own.held own.spells, sealed_draw seal digits own.value own.value.answer.lottery prints.drawn prints.draws)
  drawn (Some (asks.Text (texts.ShortDraw tickets seal digits))) text right =
      let own = printed_about _ _ told Done text right in
      let prints = own.means.right in
      (own.value, held_bundle own.value own.bytes own.held own.spells, sealed_draw seal digits own.value _ prints.drawn prints.draws)
  drawn (Some (asks.Step store (steps.Draw round seal digits))) text right =
      let it = round_drawn right.tables right.loaded.is round seal digits right.change text (comes_text (Draw round seal digits) right.tables right.change text right.means) in
      (right.tables, it.kept, it.bundle, right.loaded, it.is, it.has, it.draws)
  drawn (Some (asks.Step store (steps.Try round seal digits))) text right =
      let (it, none) = round_tried right.tables right.loaded.is round seal digits right.change text (comes_text (TryDraw round seal digits) right.tables right.change text right.means) in
      ((right.tables, it.kept, it.bundle, right.loaded, it.is, it.has, it.draws), unchanged told.keeper.object.before told.keeper.object.after right.change none right.stored)
  drawn other text right = tt

  -- ---- status 1

  no_panel_told : (about : PoolOrBundle) (text : List ℕ) → PrintsNoPanel about text → panels (pool_in about) ≡ []
  no_panel_told about text (ProvesNone proof) = proof.none
  no_panel_told (either.Pool pool) text (RunFindsNone line) = line.finds.none
  no_panel_told (either.Bundle bundle) text (RunFindsNone line) = absurd line

  bundle_none : (proof : Proof) (text : List ℕ) → IsRight (BundleMeans proof) (Prints NonePrinted text) → ⊥
  bundle_none (OfLottery pool its trees) text right = right
  bundle_none (OfNoPanel pool lines) text right = right

  page_none : (bundle : Option Bundle) (text : List ℕ) → IsRight (about PageOfBundle bundle) (Prints NonePrinted text) → ⊥
  page_none (Some bundle) text right = right
  page_none None text right = right

  drawn_page_none : (tickets : Option ℕ) (digits : List ℕ) (bundle : Option Bundle) (text : List ℕ) → IsRight (about (DrawnPageOfBundle tickets digits) bundle) (Prints NonePrinted text) → ⊥
  drawn_page_none tickets digits (Some bundle) text right = right
  drawn_page_none tickets digits None text right = right

  -- the call tells that its pool has no quota panel
  abbrev TellsNone : Option Asked → Type 0
  TellsNone it = (pool : Pool) × IsItsPool it told pool × (panels pool ≡ [])

  round_none : (round : ℕ) (tables : Tables) → IsLoaded told.keeper.object.before tables → (pool : Pool) × IsOpenWith tables round pool × (panels pool ≡ []) →
      (pool : Pool) × IsRoundPool round told pool × (panels pool ≡ [])
  round_none round tables loaded (pool, is, none) = (pool, record { tables = tables; loaded = loaded; open_now = is.open_now; is = is.is }, none)

  kept_none : (round : ℕ) (proof : Proof) (tables : Tables) (change : Option Change) (text : List ℕ) → IsTables tables → StepMeans (Keep round proof) tables (Prints NonePrinted text) change →
      (pool : Pool) × IsOpenWith tables round pool × (panels pool ≡ [])
  kept_none round proof tables change text keeps means =
      keep_none tables round keeps proof means.is_command (change_of means.outcome) (keep_comes tables round proof (Replies (change_of means.outcome) NoPanel) (comes_none (Keep round proof) tables change text means))

  read_none : (round : ℕ) (bytes : List ℕ) (tables : Tables) (change : Option Change) (text : List ℕ) → IsTables tables → ImportMeans (imports.Proof round) bytes tables (Prints NonePrinted text) change →
      (pool : Pool) × IsOpenWith tables round pool × (panels pool ≡ [])
  read_none round bytes tables change text keeps (Does command reads means) = by (read_proof bytes) reads
    where
      by : (result : Result Proof lines.Fault) → Ok command ≡ keeping round result → (pool : Pool) × IsOpenWith tables round pool × (panels pool ≡ [])
      by (Ok proof) h = let e : command ≡ Keep round proof = cc in kept_none round proof tables change text keeps (subst (λ c. StepMeans c tables (Prints NonePrinted text) change) e means)
      by (Err fault) h = absurd (cc)
  read_none round bytes tables change text keeps (HasFault fault reads so none) = absurd (cc (so))
  read_none round bytes tables change text keeps (NoRules register none so kept) = absurd (cc (so))

  proof_none : (round : ℕ) (tables : Tables) (change : Option Change) (text : List ℕ) → IsTables tables → ProvesRound round tables (Prints NonePrinted text) change →
      (pool : Pool) × IsOpenWith tables round pool × (panels pool ≡ [])
  proof_none round tables change text keeps (KeepsProof pool proof of same valid means) = kept_none round proof tables change text keeps means
  proof_none round tables change text keeps (AsSolve means) =
      let (ran, empty) = solve_none tables round lottery_limits (change_of means.outcome) (comes_none (Solve round lottery_limits) tables change text means) in
      (ran.pool, record { open_now = ran.open_now; is = ran.is }, empty)

  plain_none : (command : Command) (tables : Tables) (change : Option Change) (text : List ℕ) → is_plain_command command ≡ true → StepMeans command tables (Prints NonePrinted text) change → ⊥
  plain_none command tables change text plain means = false≢true (plain_comes tables command (Replies (change_of means.outcome) NoPanel) plain (comes_none command tables change text means))

  file_none : (import : Import) (bytes : List ℕ) (tables : Tables) (change : Option Change) (text : List ℕ) → is_plain_import import ≡ true → ImportMeans import bytes tables (Prints NonePrinted text) change → ⊥
  file_none import bytes tables change text plain (Does command reads means) = plain_none command tables change text (file_plain import tables bytes command plain reads) means
  file_none import bytes tables change text plain (HasFault fault reads so none) = cc (so)
  file_none import bytes tables change text plain (NoRules register none so kept) = cc (so)

  text_none : (result : Result (List ℕ) Refusal) (text : List ℕ) → Prints NonePrinted text ≡ text_or_refusal result → ⊥
  text_none (Ok bytes) text h = cc
  text_none (Err refusal) text h = cc

  pub none : (it : Option Asked) (text : List ℕ) → IsRightAnswer it told (Prints NonePrinted text) → TellsNone it
  none None text right = absurd right
  none (Some (asks.Lottery it)) text right =
      let own = printed_about _ _ told NonePrinted text right in (own.value, held_pool own.value own.bytes own.held own.spells, own.means.right.finds.none)
  none (Some (asks.SharedLottery it)) text right =
      let own = printed_about _ _ told NonePrinted text right in (own.value, held_pool own.value own.bytes own.held own.spells, own.means.finds.none)
  none (Some (asks.Legs it)) text right =
      let own = printed_about _ _ told NonePrinted text right in (own.value, held_pool own.value own.bytes own.held own.spells, own.means.right.finds.none)
  none (Some (asks.Make it)) text right = (made_pool it.seed it.volunteers, refl, right.right.finds.none)
  none (Some (asks.Prove it)) text right =
      let own = printed_about _ _ told NonePrinted text right in (pool_in own.value, held_either own.value own.bytes own.held own.spells, no_panel_told own.value text own.means.right)
  none (Some (asks.Text (texts.Panel it))) text right =
      let own = printed_about _ _ told NonePrinted text right in (own.value, held_pool own.value own.bytes own.held own.spells, own.means.right.none)
  none (Some (asks.Text (texts.Loosen it))) text right =
      let own = printed_about _ _ told NonePrinted text right in (own.value, held_pool own.value own.bytes own.held own.spells, own.means.right.none)
  none (Some (asks.Text (texts.LoosenByProof it))) text right =
      let own = printed_about _ _ told NonePrinted text right in (own.value, held_pool own.value own.bytes own.held own.spells, own.means.none)
  none (Some (asks.Text (texts.Bundle it))) text right = let own = printed_about _ _ told NonePrinted text right in absurd (bundle_none own.value text own.means.right)
  none (Some (asks.Text (texts.Page it))) text right = let own = printed_about _ _ told NonePrinted text right in absurd (page_none (bundle_in own.value) text own.means.right)
  none (Some (asks.Text (texts.DrawnPage tickets digits))) text right =
      let own = printed_about _ _ told NonePrinted text right in absurd (drawn_page_none tickets digits (bundle_in own.value) text own.means.right)
  none (Some (asks.Text (texts.Explain it))) text right = absurd ((printed_about _ _ told NonePrinted text right).means)
  none (Some (asks.Text (texts.Verify it))) text right = absurd ((printed_about _ _ told NonePrinted text right).means.right)
  none (Some (asks.Text (texts.Seal it))) text right = absurd ((printed_about _ _ told NonePrinted text right).means.right)
  none (Some (asks.Text (texts.Draw seal digits))) text right = absurd ((printed_about _ _ told NonePrinted text right).means.right)
  none (Some (asks.Text (texts.ShortDraw tickets seal digits))) text right = absurd ((printed_about _ _ told NonePrinted text right).means.right)
  none (Some (asks.Text (texts.Why it))) text right = absurd ((printed_about _ _ told NonePrinted text right).means)
  none (Some (asks.Text (texts.Check it))) text right = absurd ((printed_about _ _ told NonePrinted text right).means.right)
  none (Some (asks.Text (texts.Cover it))) text right = absurd ((printed_about _ _ told NonePrinted text right).means.right)
  none (Some (asks.Text (texts.CheckCover it))) text right = absurd ((printed_about _ _ told NonePrinted text right).means.right)
  none (Some (asks.Text (texts.Question it))) text right = absurd ((printed_about _ _ told NonePrinted text right).means.right)
  none (Some (asks.Step store (steps.Solve round limits workers))) text right =
      let (ran, empty) = solve_none right.tables round limits (change_of right.means.outcome) (comes_none (Solve round limits) right.tables right.change text right.means) in
      (ran.pool, record { tables = right.tables; loaded = right.loaded; open_now = ran.open_now; is = ran.is }, empty)
  none (Some (asks.Step store step)) text right = absurd (plain_none (step_command step) right.tables right.change text refl right.means)
  none (Some (asks.Import store (imports.Proof round))) text (bytes, input, right) = round_none round right.tables right.loaded (read_none round bytes right.tables right.change text right.loaded.is right.means)
  none (Some (asks.Import store file)) text (bytes, input, right) = absurd (file_none file bytes right.tables right.change text refl right.means)
  none (Some (asks.ProveRound store it)) text right = round_none it.round right.tables right.loaded (proof_none it.round right.tables right.change text right.loaded.is right.means)
  none (Some (asks.StoreText store it)) text right = absurd (text_none _ text right.means.is)
  none (Some (asks.Serve store it)) text right = absurd right
