-- The members of a bundle's panels are volunteers of its pool.
use Rattle.std.proofs.Common.{◌≡◌, ℕ, zero, suc, true, ◌&&◌, List, [], ◌∷◌, length, get_or, map, ltb, unsigned_abs, refl, ap, ◌∙◌}
use Rattle.std.specs.List.{list_all}
use Rattle.std.proofs.lemmas.Bool.{and_parts}
use Rattle.define_pools.specs.Lists.{is_increasing}
use Rattle.define_pools.specs.Lottery.{LotteryRow}
use Rattle.define_bundles.specs.BundleText.{Bundle, IsBundle}
use Rattle.define_bundles.specs.Ranges.{is_row, is_weight}
use Rattle.sealed_draw.specs.Answers.{IsOfRow}
use Rattle.sealed_draw.specs.declared.drawn.Draw.{Draw}

-- if the members of all rows are numbers below `volunteers`, so are the members of each row
pub panel_in_range : (volunteers : ℕ) (rows : List LotteryRow) (row : ℕ) → list_all (is_row volunteers) rows ≡ true →
    list_all (λ i. ltb i volunteers) (get_or (map (λ (r : LotteryRow). r.panel) rows) row []) ≡ true
panel_in_range volunteers [] row h = refl
panel_in_range volunteers (first ∷ rows) zero h =
    let here = and_parts (is_row volunteers first) (list_all (is_row volunteers) rows) h in
    let group = (and_parts (is_weight first.weight) (ltb 0 (length first.panel) && is_increasing first.panel && list_all (λ i. ltb i volunteers) first.panel) here.0).1 in
    (and_parts (ltb 0 (length first.panel) && is_increasing first.panel) (list_all (λ i. ltb i volunteers) first.panel) group).1
panel_in_range volunteers (first ∷ rows) (suc row) h = panel_in_range volunteers rows row (and_parts (is_row volunteers first) (list_all (is_row volunteers) rows) h).1

-- the members of a panel that is drawn from a bundle are volunteers of its pool
pub drawn_in_range : (bundle : Bundle) (drawn : Draw) → IsBundle bundle → IsOfRow bundle.answer.lottery (unsigned_abs drawn.ticket) drawn.panel →
    list_all (λ i. ltb i (length bundle.pool.volunteers)) drawn.panel ≡ true
drawn_in_range bundle drawn is row =
    ap (list_all (λ i. ltb i (length bundle.pool.volunteers))) row.panel_is ∙ panel_in_range (length bundle.pool.volunteers) bundle.answer.lottery.rows row.row is.in_ranges.rows
