-- What 'leximin greatest' says of a lottery, part by part: `LeximinGreatest` of `define_pools` with its parts written out. The law of
-- src/lib.rt says that both are the same. The headline cites it.
use Rattle.std.specs.Prelude.{◌≢◌, ◌↔◌, nat_lt, IsTrue, IsFalse, [], length, map}
use Rattle.std.specs.List.{list_all}
use Rattle.define_pools.specs.Lists.{all_different}
use Rattle.define_pools.specs.Lottery.{IsLottery, LeximinGreatest, Lottery, TotalAgrees, is_above}
use Rattle.define_pools.specs.Pool.{Pool, is_of_size, keeps_households, keeps_standings, meets_quotas, panels}

pub record IsLeximin (pool : Pool) (lottery : Lottery) : Type 0 where
  -- it has at least one panel, and each panel lists different volunteers of the pool, as many as a panel has (`pool.size`)
  pub some : IsTrue (nat_lt 0 (length lottery.rows))
  pub sized : IsTrue (list_all (λ row. is_of_size pool row.panel) lottery.rows)
  -- each panel has everyone who is seated and no one who is gone
  pub standings : IsTrue (list_all (λ row. keeps_standings pool.volunteers row.panel) lottery.rows)
  -- each panel meets every quota
  pub quotas : IsTrue (list_all (λ row. meets_quotas pool.categories pool.volunteers row.panel) lottery.rows)
  -- no panel has two members of one household
  pub households : IsTrue (list_all (λ row. keeps_households pool.volunteers row.panel) lottery.rows)
  -- the panels are different
  pub different : IsTrue (all_different (map (λ row. row.panel) lottery.rows))
  -- the fractions sum to one: each weight is at least 1, and the weights sum to the total
  pub fractions : TotalAgrees lottery
  -- no lottery over quota panels has a sorted list of chances that is lexicographically greater
  pub greatest : (other : Lottery) → IsLottery pool other → IsFalse (is_above pool other lottery)
  -- so there is a quota panel
  pub exists : panels pool ≢ []

abbrev pub PartByPart : Type 0
PartByPart = (pool : Pool) (lottery : Lottery) → LeximinGreatest pool lottery ↔ IsLeximin pool lottery
