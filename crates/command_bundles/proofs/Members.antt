-- The members of a bundle's panels are numbers of the pool's volunteers.
use Rattle.std.proofs.Common.{◌≡◌, ℕ, zero, suc, true, ◌&&◌, List, [], ◌∷◌, length, get_or, map, ltb, refl, ap, ◌∙◌}
use Rattle.std.specs.List.{list_all}
use Rattle.std.proofs.lemmas.Bool.{and_parts}
use Rattle.define_pools.specs.Lists.{is_increasing}
use Rattle.define_pools.specs.Lottery.{LotteryRow}
use Rattle.define_pools.specs.Pool.{Pool}
use Rattle.define_bundles.specs.BundleText.{Bundle, IsBundle}
use Rattle.define_bundles.specs.Ranges.{is_row, is_weight}
use Rattle.sealed_draw.specs.Answers.{IsOfRow}

-- if `is_row` holds of all rows, each member of the panel of row `row` is below `volunteers`
pub panel_in_range : (volunteers : ℕ) (rows : List LotteryRow) (row : ℕ) → list_all (is_row volunteers) rows ≡ true →
    list_all (λ i. ltb i volunteers) (get_or (map (λ (r : LotteryRow). r.panel) rows) row []) ≡ true
panel_in_range volunteers [] row h = refl
panel_in_range volunteers (first ∷ rows) zero h =
    let here = and_parts (is_row volunteers first) (list_all (is_row volunteers) rows) h in
    let group = (and_parts (is_weight first.weight) (ltb 0 (length first.panel) && is_increasing first.panel && list_all (λ i. ltb i volunteers) first.panel) here.0).1 in
    (and_parts (ltb 0 (length first.panel) && is_increasing first.panel) (list_all (λ i. ltb i volunteers) first.panel) group).1
panel_in_range volunteers (first ∷ rows) (suc row) h = panel_in_range volunteers rows row (and_parts (is_row volunteers first) (list_all (is_row volunteers) rows) h).1

-- the members of a panel that a ticket draws from a bundle are numbers of the pool's volunteers
pub drawn_in_range : (bundle : Bundle) (pool : Pool) (ticket : ℕ) (panel : List ℕ) → IsBundle bundle → pool ≡ bundle.pool → IsOfRow bundle.answer.lottery ticket panel →
    list_all (λ i. ltb i (length pool.volunteers)) panel ≡ true
drawn_in_range bundle pool ticket panel is same row =
    ap (λ (p : Pool). list_all (λ i. ltb i (length p.volunteers)) panel) same
    ∙ (ap (list_all (λ i. ltb i (length bundle.pool.volunteers))) row.panel_is ∙ panel_in_range (length bundle.pool.volunteers) bundle.answer.lottery.rows row.row is.in_ranges.rows)
