-- The number of workers changes no byte of an answer: a law about two calls whose words differ in this number alone. Workers price for
-- `lottery`, `legs`, `make` and `solve`. If the workers of `lottery` share a bound, they change no byte either, unless a pricing spends its
-- budget.
use Rattle.std.specs.Prelude.{◌≡◌, ◌≢◌, ◌⊎◌, ℕ, IsFalse, List, Some}
use Rattle.define_bundles.specs.PoolText.{spelling}
use Rattle.define_offices.specs.Tables.{Tables}
use Rattle.define_pools.specs.Pool.{IsPool, Pool}
use Rattle.define_runs.specs.Keeps.{AreLimits}
use Rattle.define_runs.specs.Run.{Ending, Limits, RunEnds}
use Rattle.define_runs.specs.Sharing.{spends_pricing}
use Rattle.command_shell.specs.Answers.{Saying}
use Rattle.command_shell.specs.Outcomes.{IsTold, IsTooLong}
use Rattle.command_shell.specs.Told.{HasFaulted, Told}
use Rattle.command_stores.specs.StoreTold.{StoreTold}
use Rattle.command_desk.specs.DeskTold.{DeskTold}
use Rattle.command_office.specs.About.{ToldText}
use Rattle.command_office.specs.Asked.{asked}
use Rattle.command_office.specs.Office.{OfficeIsRight}
use Rattle.command_office.specs.declared.asked.Asked.{Asked}
use Rattle.command_office.specs.declared.asked.Asked.TheVariants as asks
use Rattle.command_office.specs.declared.steps.Step.TheVariants as steps

-- both calls told the same answer, or both told that the input is too long
abbrev pub TellTheSame : Told → Told → Type 0
TellTheSame first second = ((answer : Saying) × IsTold answer first × IsTold answer second) ⊎ (IsTooLong first × IsTooLong second)

-- there was no fault of the source, of out or of the keeper, and no want of memory
pub record IsClear (told : StoreTold) : Type 0 where
  pub source : HasFaulted told.call.source → ⊥
  pub out : told.call.status ≢ 8
  pub keeper : told.call.status ≢ 9
  pub memory : told.call.status ≢ 12

-- `Same` holds of each two calls that are right and clear, whose words ask for `it` and for `other`
abbrev pub OfEachTwo : Asked → Asked → (StoreTold → StoreTold → Type 0) → Type 0
OfEachTwo it other Same = (words others : List (List ℕ)) (first second : DeskTold) → OfficeIsRight words first → OfficeIsRight others second → asked words ≡ Some it → asked others ≡ Some other →
    IsClear first.store → IsClear second.store → Same first.store second.store

pub record WorkersChangeNothing : Type 0 where
  -- over the same text
  pub lottery : (limits : Limits) (workers others : ℕ) → OfEachTwo (asks.Lottery (record { limits = limits; workers = workers })) (asks.Lottery (record { limits = limits; workers = others }))
      (λ first second. (text : List ℕ) → first.call.source.before ≡ Some text → second.call.source.before ≡ Some text → TellTheSame first.call second.call)
  -- with `--share` the answer is that of `lottery` over the same pool, unless a pricing of `lottery` spends its budget
  pub share : (limits : Limits) (workers others : ℕ) → OfEachTwo (asks.Lottery (record { limits = limits; workers = workers })) (asks.SharedLottery (record { limits = limits; workers = others }))
      (λ first second. (pool : Pool) (ending : Ending) → IsPool pool → AreLimits limits → RunEnds pool limits ending → IsFalse (spends_pricing ending) →
      ToldText first.call.source (spelling pool) → ToldText second.call.source (spelling pool) → TellTheSame first.call second.call)
  pub legs : (limits : Limits) (workers others : ℕ) → OfEachTwo (asks.Legs (record { limits = limits; workers = workers })) (asks.Legs (record { limits = limits; workers = others }))
      (λ first second. (text : List ℕ) → first.call.source.before ≡ Some text → second.call.source.before ≡ Some text → TellTheSame first.call second.call)
  pub make : (seed volunteers : ℕ) (limits : Limits) (workers others : ℕ) →
      OfEachTwo (asks.Make (record { seed = seed; volunteers = volunteers; limits = limits; workers = workers })) (asks.Make (record { seed = seed; volunteers = volunteers; limits = limits; workers = others }))
      (λ first second. TellTheSame first.call second.call)
  -- over the same tables, which are then again the same
  pub solve : (store other_store : List ℕ) (round : ℕ) (limits : Limits) (workers others : ℕ) →
      OfEachTwo (asks.Step store (steps.Solve round limits workers)) (asks.Step other_store (steps.Solve round limits others))
      (λ first second. (tables : Tables) → first.keeper.object.before ≡ Some tables → second.keeper.object.before ≡ Some tables →
      TellTheSame first.call second.call × (first.keeper.object.after ≡ second.keeper.object.after))
