-- What digits draw from a bundle, as it follows from the outcome of a draw.
use Rattle.std.proofs.Common.{◌≡◌, ℕ, zero, suc, true, ◌&&◌, List, [], ◌∷◌, length, get_or, map, ltb, is_ok, IfOk, ℤ, pos, unsigned_abs, Option, Some, Result, Ok, Err, refl, ap, ◌∙◌, subst}
use Rattle.std.specs.declared.alloc.AllocError.{AllocError}
use Rattle.std.specs.List.{list_all}
use Rattle.std.proofs.lemmas.Bool.{and_parts}
use Rattle.define_pools.specs.Lists.{is_increasing}
use Rattle.define_pools.specs.Lottery.{Lottery, LotteryRow}
use Rattle.define_bundles.specs.BundleText.{Bundle, IsBundle}
use Rattle.define_bundles.specs.Ranges.{is_row, is_weight}
use Rattle.define_draws.specs.declared.Named.{Named}
use Rattle.define_draws.specs.declared.DiceStop.{DiceStop}
use Rattle.define_draws.specs.Dice.{name_ticket}
use Rattle.define_draws.specs.Draw as draws
use Rattle.define_draws.specs.Draw.{drawn_with}
use Rattle.define_draws.specs.ShortBundle.{shortened_bundle}
use Rattle.define_offices.specs.Pools.{drawn_or_nothing}
use Rattle.sealed_draw.specs.declared.drawn.Draw.{Draw}
use Rattle.sealed_draw.specs.Answers.{DrawSays, IsOfRow}
use Rattle.office_tables.specs.Drawn.{Draws, IsDrawnBy, IsDrawnFrom}

-- if `is_row` holds of all rows, the numbers in a row's panel are below `volunteers`
panel_in_range : (volunteers : ℕ) (rows : List LotteryRow) (row : ℕ) → list_all (is_row volunteers) rows ≡ true →
    list_all (λ i. ltb i volunteers) (get_or (map (λ (r : LotteryRow). r.panel) rows) row []) ≡ true
panel_in_range volunteers [] row h = refl
panel_in_range volunteers (first ∷ rows) zero h =
    let here = and_parts (is_row volunteers first) (list_all (is_row volunteers) rows) h in
    let group = (and_parts (is_weight first.weight) (ltb 0 (length first.panel) && is_increasing first.panel && list_all (λ i. ltb i volunteers) first.panel) here.0).1 in
    (and_parts (ltb 0 (length first.panel) && is_increasing first.panel) (list_all (λ i. ltb i volunteers) first.panel) group).1
panel_in_range volunteers (first ∷ rows) (suc row) h = panel_in_range volunteers rows row (and_parts (is_row volunteers first) (list_all (is_row volunteers) rows) h).1

named_where_drawn : (lottery : Lottery) (named : Result Named DiceStop) (drawn : draws.Drawn) → drawn_with lottery named ≡ Ok drawn → is_ok named ≡ true
named_where_drawn lottery (Ok named) drawn e = refl
named_where_drawn lottery (Err stop) drawn e = absurd cc

pub draws_so : (bundle : Bundle) (digits : List ℕ) (drawn : Draw) → IsBundle bundle → DrawSays bundle.answer.lottery [] [] digits (Ok drawn) →
    IsOfRow bundle.answer.lottery (unsigned_abs drawn.ticket) drawn.panel → Draws bundle.answer.lottery (length bundle.pool.volunteers) digits drawn
draws_so bundle digits drawn is says row =
    let lottery = bundle.answer.lottery in
    record {
      named = named_where_drawn lottery (name_ticket lottery.total digits) (record { ticket = unsigned_abs drawn.ticket; used = drawn.used; panel = drawn.panel }) says.0;
      from = says.1;
      members = ap (list_all (λ i. ltb i (length bundle.pool.volunteers))) row.panel_is ∙ panel_in_range (length bundle.pool.volunteers) lottery.rows row.row is.in_ranges.rows;
      is = ap drawn_or_nothing says.0;
    }

-- what digits draw from a bundle whose lottery is shortened, they draw in a round with this number of tickets
pub drawn_short : (bundle short : Bundle) (tickets : ℕ) (n : ℤ) (digits : List ℕ) (result : Result (Option Draw) AllocError) → short ≡ shortened_bundle bundle (unsigned_abs n) → n ≡ pos tickets →
    IfOk result (λ drawn. IsDrawnFrom short.answer.lottery (length short.pool.volunteers) digits drawn) → IfOk result (λ drawn. IsDrawnBy bundle (Some tickets) digits drawn)
drawn_short bundle short tickets n digits result is number drawn =
    let same : short ≡ shortened_bundle bundle tickets = is ∙ ap (λ (z : ℤ). shortened_bundle bundle (unsigned_abs z)) number in
    subst (λ (b : Bundle). IfOk result (λ drawn. IsDrawnFrom b.answer.lottery (length b.pool.volunteers) digits drawn)) same drawn
