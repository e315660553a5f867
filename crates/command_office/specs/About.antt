-- What a call is about: the pool or the bundle whose text the source held, the made pool, or that of an open round. The headline cites it.
-- No contract can say what a terminal, a file or a pipe held: for such a source `HeldPool` and `HeldBundle` hold of every pool and bundle.
use Rattle.std.specs.Prelude.{◌≡◌, ◌⊎◌, ◌≤◌, ℕ, Bool, true, false, List, length, Option, Some, None, Ok}
use Rattle.define_bundles.specs.BundleText.{Bundle, IsBundle, bundle_spelling}
use Rattle.define_made_pools.specs.MadePools.{made_pool}
use Rattle.define_offices.specs.Pools.{pool_of}
use Rattle.define_offices.specs.Tables.{Open, Tables, named_round}
use Rattle.define_bundles.specs.PoolText.{spelling}
use Rattle.define_pools.specs.Certificate.{Answer}
use Rattle.define_pools.specs.Pool.{IsPool, Pool}
use Rattle.office_core.specs.Acting.{IsLoaded}
use Rattle.command_shell.specs.Lines.{input_limit}
use Rattle.command_shell.specs.Told.{Bytes, HasFaulted, HeldAll}
use Rattle.command_stores.specs.StoreTold.{StoreTold}
use Rattle.command_meanings.specs.declared.office.Import.TheVariants as imports
use Rattle.command_office.specs.declared.asked.Asked.{Asked}
use Rattle.command_office.specs.declared.asked.Asked.TheVariants as asks
use Rattle.command_office.specs.declared.steps.Step.TheVariants as steps
use Rattle.command_texts.specs.declared.commands.TextCommand.TheVariants as texts

-- ---- what the source held, all of which was read

pub record HeldPool (source : Bytes) (pool : Pool) : Type 0 where
  pub is_pool : IsPool pool
  pub held : HeldAll source (spelling pool)

pub record HeldBundle (source : Bytes) (bundle : Bundle) : Type 0 where
  pub is_bundle : IsBundle bundle
  pub held : HeldAll source (bundle_spelling bundle)

-- the source held the text of this pool, or of a bundle over it
abbrev pub HeldEither : Bytes → Pool → Type 0
HeldEither source pool = HeldPool source pool ⊎ ((answer : Answer) × HeldBundle source (record { pool = pool; answer = answer }))

-- ---- the pool that a call is about

-- the pool of this round of the tables that were loaded. The round is open
pub record IsRoundPool (round : ℕ) (told : StoreTold) (pool : Pool) : Type 0 where
  pub tables : Tables
  pub loaded : IsLoaded told.keeper.object.before tables
  pub open_now : named_round tables.rounds round ≡ Some Open
  pub is : pool_of tables round ≡ Ok pool

abbrev pub IsItsPool : Option Asked → StoreTold → Pool → Type 0
IsItsPool (Some (asks.Make it)) told pool = pool ≡ made_pool it.seed it.volunteers
IsItsPool (Some (asks.Prove it)) told pool = HeldEither told.call.source pool
IsItsPool (Some (asks.Step store (steps.Solve round limits workers))) told pool = IsRoundPool round told pool
IsItsPool (Some (asks.Import store (imports.Proof round))) told pool = IsRoundPool round told pool
IsItsPool (Some (asks.ProveRound store it)) told pool = IsRoundPool it.round told pool
IsItsPool other told pool = HeldPool told.call.source pool

-- ---- a source that tells its bytes, and a keeper that tells its tables

-- the source told its content, which was `text`, of at most `input_limit` bytes; and it counted no fault
pub record ToldText (source : Bytes) (text : List ℕ) : Type 0 where
  pub told : source.before ≡ Some text
  pub within : length text ≤ input_limit
  pub no_fault : HasFaulted source → ⊥

-- the keeper told its tables, in which this is the pool of an open round
pub record ToldRoundPool (round : ℕ) (told : StoreTold) (pool : Pool) : Type 0 where
  pub tables : Tables
  pub kept : told.keeper.object.before ≡ Some tables
  pub open_now : named_round tables.rounds round ≡ Some Open
  pub is : pool_of tables round ≡ Ok pool

-- the pool that the call is about, as it was told
abbrev pub ToldPool : Option Asked → StoreTold → Pool → Type 0
ToldPool (Some (asks.Make it)) told pool = pool ≡ made_pool it.seed it.volunteers
ToldPool (Some (asks.Step store (steps.Solve round limits workers))) told pool = ToldRoundPool round told pool
ToldPool other told pool = IsPool pool × ToldText told.call.source (spelling pool)

-- ---- searches, and a store

-- the visits that the opening search may make, for the commands whose run is stated
abbrev pub nodes_of : Option Asked → Option ℕ
nodes_of (Some (asks.Text (texts.Panel it))) = Some it.nodes
nodes_of (Some (asks.Lottery it)) = Some it.limits.nodes
nodes_of (Some (asks.SharedLottery it)) = Some it.limits.nodes
nodes_of (Some (asks.Legs it)) = Some it.limits.nodes
nodes_of (Some (asks.Make it)) = Some it.limits.nodes
nodes_of (Some (asks.Step store (steps.Solve round limits workers))) = Some limits.nodes
nodes_of other = None

-- the visits that each search may make, for the commands that check a certificate by searches
abbrev pub searches_of : Option Asked → Option ℕ
searches_of (Some (asks.Text (texts.Check it))) = Some it.nodes
searches_of (Some (asks.Text (texts.Cover it))) = Some it.nodes
searches_of other = None

-- the words ask for a command over a store, other than `serve`
abbrev pub uses_store : Option Asked → Bool
uses_store (Some (asks.Step store it)) = true
uses_store (Some (asks.StoreText store it)) = true
uses_store (Some (asks.ProveRound store it)) = true
uses_store (Some (asks.Import store it)) = true
uses_store other = false
