-- `LeximinGreatest` and `IsLeximin` say the same.
use Rattle.std.proofs.Common.{◌≡◌, ◌&&◌, ℕ, Bool, true, List, [], ◌∷◌, length, ltb, refl, sym, subst}
use Rattle.std.specs.Prelude.{◌≢◌}
use Rattle.std.specs.List.{AllByRecursion, list_all}
use Rattle.std.proofs.lemmas.Bool.{and_parts}
use Rattle.define_pools.specs.Lottery.{LeximinGreatest, Lottery, LotteryRow}
use Rattle.define_pools.specs.Pool.{Pool, is_of_size, is_quota_panel, keeps_households, keeps_standings, meets_quotas, panels}
use Rattle.define_pools.proofs.AllPanels.{each_panel}
use Rattle.define_pools.specs.Leximin.{IsLeximin, PartByPart}

-- if `part` follows from `test` for each panel, and the panels of all rows pass `test`, they all pass `part`
each_row : (test part : List ℕ → Bool) → ((panel : List ℕ) → test panel ≡ true → part panel ≡ true) → (rows : List LotteryRow) →
    list_all (λ row. test row.panel) rows ≡ true → list_all (λ row. part row.panel) rows ≡ true
each_row test part follows [] all = refl
each_row test part follows (row ∷ rows) all =
    let parts = and_parts (test row.panel) (list_all (λ (r : LotteryRow). test r.panel) rows) all in
    rw (follows row.panel parts.0, each_row test part follows rows parts.1) refl

-- if the panels of all rows pass two tests, they pass both together
both_rows : (one other : List ℕ → Bool) (rows : List LotteryRow) → list_all (λ row. one row.panel) rows ≡ true → list_all (λ row. other row.panel) rows ≡ true →
    list_all (λ row. one row.panel && other row.panel) rows ≡ true
both_rows one other [] all also = refl
both_rows one other (row ∷ rows) all also =
    let first = and_parts (one row.panel) (list_all (λ (r : LotteryRow). one r.panel) rows) all in
    let second = and_parts (other row.panel) (list_all (λ (r : LotteryRow). other r.panel) rows) also in
    rw (first.0, second.0, both_rows one other rows first.1 second.1) refl

module _ (pool : Pool) where
  abbrev sized : List ℕ → Bool
  sized = is_of_size pool

  abbrev standing : List ℕ → Bool
  standing = keeps_standings pool.volunteers

  abbrev quotas : List ℕ → Bool
  quotas = meets_quotas pool.categories pool.volunteers

  abbrev apart : List ℕ → Bool
  apart = keeps_households pool.volunteers

  is_sized : (panel : List ℕ) → is_quota_panel pool panel ≡ true → sized panel ≡ true
  is_sized panel is = (and_parts (sized panel) (standing panel) (and_parts (sized panel && standing panel) (quotas panel) (and_parts (sized panel && standing panel && quotas panel) (apart panel) is).0).0).0

  keeps_standing : (panel : List ℕ) → is_quota_panel pool panel ≡ true → standing panel ≡ true
  keeps_standing panel is = (and_parts (sized panel) (standing panel) (and_parts (sized panel && standing panel) (quotas panel) (and_parts (sized panel && standing panel && quotas panel) (apart panel) is).0).0).1

  meets : (panel : List ℕ) → is_quota_panel pool panel ≡ true → quotas panel ≡ true
  meets panel is = (and_parts (sized panel && standing panel) (quotas panel) (and_parts (sized panel && standing panel && quotas panel) (apart panel) is).0).1

  keeps_apart : (panel : List ℕ) → is_quota_panel pool panel ≡ true → apart panel ≡ true
  keeps_apart panel is = (and_parts (sized panel && standing panel && quotas panel) (apart panel) is).1

  pub panel_in : (panel : List ℕ) → panels pool ≡ [] → is_quota_panel pool panel ≡ true → ⊥
  panel_in panel none is = each_panel (λ _. ⊥) pool (subst (AllByRecursion (λ _. ⊥)) (sym none) tt) panel is

  -- if there is a row, and all rows list quota panels of the pool, the pool has a quota panel
  has_some : (rows : List LotteryRow) → ltb 0 (length rows) ≡ true → list_all (λ row. is_quota_panel pool row.panel) rows ≡ true → panels pool ≢ []
  has_some [] some all none = absurd (cc)
  has_some (row ∷ rows) some all none = panel_in row.panel none (and_parts (is_quota_panel pool row.panel) (list_all (λ (r : LotteryRow). is_quota_panel pool r.panel) rows) all).0

  pub leximin : (lottery : Lottery) → LeximinGreatest pool lottery → IsLeximin pool lottery
  leximin lottery is = record {
    some = is.is_lottery.some;
    sized = each_row (is_quota_panel pool) sized is_sized lottery.rows is.is_lottery.panels;
    standings = each_row (is_quota_panel pool) standing keeps_standing lottery.rows is.is_lottery.panels;
    quotas = each_row (is_quota_panel pool) quotas meets lottery.rows is.is_lottery.panels;
    households = each_row (is_quota_panel pool) apart keeps_apart lottery.rows is.is_lottery.panels;
    different = is.is_lottery.different;
    fractions = is.is_lottery.total_agrees;
    greatest = is.none_above;
    exists = has_some lottery.rows is.is_lottery.some is.is_lottery.panels;
  }

  greatest : (lottery : Lottery) → IsLeximin pool lottery → LeximinGreatest pool lottery
  greatest lottery is = record {
    is_lottery = record {
      some = is.some;
      panels = both_rows (λ p. sized p && standing p && quotas p) apart lottery.rows (both_rows (λ p. sized p && standing p) quotas lottery.rows (both_rows sized standing lottery.rows is.sized is.standings) is.quotas) is.households;
      different = is.different;
      total_agrees = is.fractions;
    };
    none_above = is.greatest;
  }

pub part_by_part : PartByPart
part_by_part pool lottery = (leximin pool lottery, greatest pool lottery)
