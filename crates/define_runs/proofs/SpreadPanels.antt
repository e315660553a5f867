-- If P holds of each panel whose composition is that of a part, it holds of each panel of the lottery that is spread.
use Rattle.std.proofs.Common.{◌≡◌, ℕ, Bool, true, ltb, List, map, length, Ok, sym, ap, subst}
use Rattle.std.specs.List.{flat_map, list_all, AllByRecursion}
use Rattle.define_pools.proofs.Each.{each_both, each_map, each_mapped, each_of_map, each_flat_map}
use Rattle.frac128.specs.Fractions.{Fraction}
use Rattle.define_pools.specs.Lottery.{LotteryRow, Lottery}
use Rattle.define_pools.specs.Pool.{Pool}
use Rattle.define_searches.specs.Classes.{Classes, MakesClasses, classes_by}
use Rattle.define_searches.specs.Compositions.{composition_of}
use Rattle.define_searches.proofs.Parting.{classes_part}
use Rattle.define_runs.specs.Spreading.{AreParts, cuts, panel_at, rows_of, spread}
use Rattle.define_runs.proofs.Dials.{Cut, cuts_are}
use Rattle.define_runs.proofs.Lotteries.{all_panels_are, is_spread, panel_below, parts_within, pool_can_give}
use Rattle.define_runs.proofs.Panels.{Within, panel_composes}

module _ (pool : Pool) (alike : ℕ → ℕ → Bool) (makes : MakesClasses pool alike) (P : List ℕ → Type 0) where
  abbrev all : Classes
  all = classes_by alike pool

  -- P holds of each panel of the pool's volunteers whose composition is `counts`
  abbrev pub OfComposition : List ℕ → Type 0
  OfComposition counts = (panel : List ℕ) → list_all (λ i. ltb i (length pool.volunteers)) panel ≡ true → composition_of all panel ≡ counts → P panel

  of_part : (part : List ℕ × Fraction) → Within all.classes part.0 → OfComposition part.0 → AllByRecursion P (map (panel_at all part.0) (cuts all part.0))
  of_part part within holds =
      each_mapped P (panel_at all part.0) (cuts all part.0)
      (each_map (Cut all part.0) (λ x. P (panel_at all part.0 x))
      (λ x cut. holds (panel_at all part.0 x) (panel_below pool alike makes part.0 x) (panel_composes all (classes_part pool alike makes) part.0 within x cut.0))
      (cuts all part.0) (cuts_are all part.0))

  pub each_spread_panel : (parts : List (List ℕ × Fraction)) (lottery : Lottery) → AreParts all parts → spread all parts ≡ Ok lottery →
      AllByRecursion (λ part. OfComposition part.0) parts → AllByRecursion (λ row. P row.panel) lottery.rows
  each_spread_panel parts lottery are e holds =
      let found = is_spread all parts lottery are e in
      let within = parts_within all parts (pool_can_give pool alike) are in
      let rows = flat_map (rows_of all lottery.total) parts in
      subst (AllByRecursion (λ row. P row.panel)) (sym (ap (λ (lottery : Lottery). lottery.rows) found.is))
      (each_of_map P (λ (row : LotteryRow). row.panel) rows
      (subst (AllByRecursion P) (sym (all_panels_are all lottery.total parts))
      (each_flat_map P (λ part. map (panel_at all part.0) (cuts all part.0)) parts
      (each_map (λ part. Within all.classes part.0 × OfComposition part.0) (λ part. AllByRecursion P (map (panel_at all part.0) (cuts all part.0))) (λ part h. of_part part h.0 h.1)
      parts (each_both (λ part. Within all.classes part.0) (λ part. OfComposition part.0) parts within holds)))))
