-- What `prove` answers: a valid proof over the pool of the input, or a reason why none was made.
--
-- The run that makes the proof has no definition: it is a shortcut, and of several proofs each may be printed. Every other answer has its
-- cause. Where the shortcut has no lottery, the run of `lottery` takes over; where trees aren't found, the searches of `check`.
use Rattle.std.specs.Prelude.{◌≡◌, ◌+◌, ℕ, not, List, [], ◌∷◌, codes, Ok, Option, None, Some, option_map, ⊤}
use Rattle.std.specs.List.{position}
use Rattle.std.specs.Fmt.{decimal}
use Rattle.define_proofs.specs.ProofVerdict.{OfLottery, OfNoPanel, verdict}
use Rattle.define_proofs.specs.LeafSums.{is_stage_in_reach}
use Rattle.define_proofs.specs.TreeLines.{TreeLine}
use Rattle.define_bundles.specs.BundleText.{Bundle}
use Rattle.define_checks.specs.Reasons.{Valid}
use Rattle.define_checks.specs.Visits.{check_answer}
use Rattle.define_pools.specs.Certificate.{Answer, Stage}
use Rattle.define_pools.specs.Pool.{Pool, panels}
use Rattle.define_proofs.specs.ProofText.{proof_spelling}
use Rattle.define_runs.specs.Run.{Limits, RunFinds}
use Rattle.prove_limits.specs.Budgets.{Left}
use Rattle.command_shell.specs.Answers.{RightAnswers, Saying, IsRight, no_answer}
use Rattle.command_shell.specs.Lines.{line}
use Rattle.command_shell.specs.declared.formats.PoolOrBundle.{PoolOrBundle}
use Rattle.command_shell.specs.declared.formats.PoolOrBundle.TheVariants as either
use Rattle.command_meanings.specs.Check.{IsGreatest, PrintsRefusal, SpendsStage, refused_line}
use Rattle.command_meanings.specs.Lottery.{PassesWidth, PrintsNone, SpendsBudget}
use Rattle.command_meanings.specs.TakenNodes.{NodesAreTaken}

-- ---- the input: a pool, or a bundle, whose answer is to be proved

abbrev pub pool_in : PoolOrBundle → Pool
pool_in (either.Pool pool) = pool
pool_in (either.Bundle bundle) = bundle.pool

abbrev pub given_in : PoolOrBundle → Option Answer
given_in (either.Pool pool) = None
given_in (either.Bundle bundle) = Some bundle.answer

-- ---- the line of a spent budget

-- the line of a spent budget: what is spent, and how much of it the run had
abbrev pub proof_spent_line : List ℕ → ℕ → List ℕ
proof_spent_line what most = line (codes "spent" ∷ what ∷ decimal most ∷ [])

-- ---- the right answers, status by status

-- the answer `its` is the given one, if one was given
abbrev pub IsGiven : Option Answer → Answer → Type 0
IsGiven None its = ⊤
IsGiven (Some given) its = its ≡ given

-- the text is a valid proof, so no lottery over the pool's quota panels is above the lottery of the proof. If a bundle was given, it is
-- the bundle's lottery
pub record PrintsProof (about : PoolOrBundle) (text : List ℕ) : Type 0 where
  pub its : Answer
  pub is_given : IsGiven (given_in about) its
  pub trees : List (List TreeLine)
  pub valid : verdict (OfLottery (pool_in about) its trees) ≡ Valid
  pub greatest : IsGreatest (record { pool = pool_in about; answer = its })
  pub proof : text ≡ proof_spelling (OfLottery (pool_in about) its trees)

-- the text is a valid proof that there is no quota panel, so there is none
pub record PrintsProofOfNone (about : PoolOrBundle) (text : List ℕ) : Type 0 where
  pub lines : List TreeLine
  pub valid : verdict (OfNoPanel (pool_in about) lines) ≡ Valid
  pub none : panels (pool_in about) ≡ []
  pub proof : text ≡ proof_spelling (OfNoPanel (pool_in about) lines)

-- ---- the runs and the searches that stand behind the engine

-- the limits of the run of `lottery` and of a solve, where the engine has no lottery: those that these have without words
abbrev pub lottery_limits : Limits
lottery_limits = record { bits = 127; pivots = 100000; nodes = 50000000 }

-- the visits of each search of `check`, where no trees are found
abbrev pub check_visits : ℕ
check_visits = 50000000

-- the line that trees aren't found: `nodes` nodes of trees were taken
abbrev pub trees_spent_line : ℕ → List ℕ
trees_spent_line nodes = proof_spent_line (codes "trees") nodes

-- the number of the first stage whose numbers pass what the lines of a proof hold, counted from 1
abbrev pub first_beyond : List Stage → Option ℕ
first_beyond stages = option_map (λ place. place + 1) (position (λ stage. not (is_stage_in_reach stage)) stages)

-- the line of a stage whose numbers pass what the lines of a proof hold: reason 13, and nobody who shows it
abbrev pub beyond_line : ℕ → List ℕ
beyond_line stage = refused_line (record { stage = stage; reason = 13; who = [] })

-- the pool of the input with this answer
abbrev pub over : PoolOrBundle → Answer → Bundle
over about its = record { pool = pool_in about; answer = its }

-- a pool was given, and `Ends` holds of it: the run of `lottery` ends so
abbrev pub EndsRun : (Limits → Pool → List ℕ → Type 0) → PoolOrBundle → List ℕ → Type 0
EndsRun Ends (either.Pool pool) text = Ends lottery_limits pool text
EndsRun Ends (either.Bundle bundle) text = ⊥

-- a bundle was given, and `Tells` holds of it
abbrev pub TellsGiven : (Bundle → List ℕ → Type 0) → PoolOrBundle → List ℕ → Type 0
TellsGiven Tells (either.Pool pool) text = ⊥
TellsGiven Tells (either.Bundle bundle) text = Tells bundle text

-- the answer is the given one, or the one that the run of `lottery` finds for the given pool
abbrev pub IsGivenOrFound : PoolOrBundle → Answer → Type 0
IsGivenOrFound (either.Pool pool) its = RunFinds pool lottery_limits its
IsGivenOrFound (either.Bundle bundle) its = its ≡ bundle.answer

-- the certificate of this answer holds, by the searches of `check`. If an answer was given, it is this one
pub record IsChecked (about : PoolOrBundle) (its : Answer) : Type 0 where
  pub is_given : IsGiven (given_in about) its
  pub valid : check_answer (pool_in about) its check_visits ≡ Ok Valid

-- ---- the right answers at statuses 1, 5 and 11

pub data PrintsNoPanel (about : PoolOrBundle) (text : List ℕ) : Type 0 where
  -- a valid proof that there is no quota panel
  ProvesNone : PrintsProofOfNone about text → PrintsNoPanel about text
  -- the line of `lottery`, whose run finds that there is none
  RunFindsNone : EndsRun PrintsNone about text → PrintsNoPanel about text

-- the budget that is spent. `count` is what is left of the nodes of trees
pub data SpendsProve (count : Left) (about : PoolOrBundle) (text : List ℕ) : Type 0 where
  -- the run of `lottery` needs more than it may make
  RunSpends : EndsRun SpendsBudget about text → SpendsProve count about text
  -- a search of `check` needs more than its visits
  CheckSpends : (its : Answer) → IsGivenOrFound about its → SpendsStage check_visits (over about its) text → SpendsProve count about text
  -- no trees are found, though the certificate holds, and no stage's numbers pass what a proof's lines hold: no node of trees is left
  TreesSpent : (its : Answer) → IsChecked about its → first_beyond its.stages ≡ None → count.nodes ≡ 0 → text ≡ trees_spent_line count.most_nodes → SpendsProve count about text

pub data RefusesProve (about : PoolOrBundle) (text : List ℕ) : Type 0 where
  -- the certificate of the given bundle doesn't hold, by the searches of `check`
  CheckRefuses : TellsGiven (PrintsRefusal check_visits) about text → RefusesProve about text
  -- no proof can have the numbers of this stage, which is the first such stage; the certificate holds
  StageBeyond : (its : Answer) → IsChecked about its → (stage : ℕ) → first_beyond its.stages ≡ Some stage → text ≡ beyond_line stage → RefusesProve about text

-- what is right to answer, if `count` is left of the nodes of trees
abbrev pub ProveMeans : Left → PoolOrBundle → RightAnswers
ProveMeans count about = record no_answer {
  -- status 0
  done = PrintsProof about;
  -- status 1
  no_panel = PrintsNoPanel about;
  -- status 4: a number of the run of `lottery` passes its width
  wide = EndsRun PassesWidth about;
  -- status 5
  spent = SpendsProve count about;
  -- status 11
  refused = RefusesProve about;
}

-- what is right to answer if trees have `nodes` nodes, for some count of what is left of them. A count of which none is left needs the evidence
-- that all nodes were taken, which no text of another crate can make: so a body that tells that no trees are found had a budget of `nodes` nodes
-- in hand, and took each of them. That it looked for trees meanwhile isn't said
pub record ProvesWithin (nodes : ℕ) (about : PoolOrBundle) (answer : Saying) : Type 0 where
  pub count : Left
  pub most : count.most_nodes ≡ nodes
  pub taken : count.nodes ≡ 0 → NodesAreTaken nodes
  pub right : IsRight (ProveMeans count about) answer
