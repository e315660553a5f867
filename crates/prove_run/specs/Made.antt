-- Which pool or bundle a proof is about, and what a run makes of a pool. The contracts of `runs` and `command_proofs` cite it.
use Rattle.std.specs.Prelude.{◌≡◌, Option, Some, None, ⊤}
use Rattle.define_proofs.specs.ProofVerdict.{OfLottery, OfNoPanel, Proof as SeenProof}
use Rattle.define_bundles.specs.BundleText.{Bundle as SeenBundle}
use Rattle.define_pools.specs.Pool.{Pool}
use Rattle.prove_run.specs.declared.runs.RunMade.{RunMade}
use Rattle.prove_run.specs.declared.runs.RunMade.TheVariants.{Proof, Lottery, Nothing}

-- the proof is of the pool `pool`
abbrev pub IsOfPool : Pool → SeenProof → Type 0
IsOfPool pool (OfLottery own its trees) = own ≡ pool
IsOfPool pool (OfNoPanel own lines) = own ≡ pool

-- the proof is of the bundle's pool, lottery and stages
abbrev pub IsOfBundle : SeenBundle → SeenProof → Type 0
IsOfBundle bundle (OfLottery own its trees) = (own ≡ bundle.pool) × (its ≡ bundle.answer)
IsOfBundle bundle (OfNoPanel own lines) = ⊥

-- the proof, if there is one, is that the pool has no quota panel
abbrev pub IsOfNone : Pool → SeenProof → Type 0
IsOfNone pool (OfLottery own its trees) = ⊥
IsOfNone pool (OfNoPanel own lines) = own ≡ pool

abbrev pub IsOfPoolIfAny : Pool → Option SeenProof → Type 0
IsOfPoolIfAny pool (Some proof) = IsOfNone pool proof
IsOfPoolIfAny pool None = ⊤

abbrev pub IsOfBundleIfAny : SeenBundle → Option SeenProof → Type 0
IsOfBundleIfAny bundle (Some proof) = IsOfBundle bundle proof
IsOfBundleIfAny bundle None = ⊤

-- what a run makes is over the pool
abbrev pub IsMadeOf : Pool → RunMade → Type 0
IsMadeOf pool (Proof proof) = IsOfPool pool proof
IsMadeOf pool (Lottery bundle) = bundle.pool ≡ pool
IsMadeOf pool Nothing = ⊤
