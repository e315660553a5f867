use Rattle.std.proofs.Common.{◌≡◌, ℕ, ◌+◌, ◌<◌, Bool, true, false, cond, ◌||◌, List, [], length, get_or, take, Some, Bor, refl, sym, ap, ◌∙◌}
use Rattle.std.specs.Prelude.{bytes_eq}
use Rattle.std.specs.BTreeSet.{BTreeSet, contains_by, Updates}
use Rattle.std.specs.Cmp.Lexicographic.{slice_cmp}
use Rattle.std.specs.Ordering.{nat_cmp}
use Rattle.std.proofs.lemmas.List.Folds.{list_any_more}
use Rattle.std.proofs.lemmas.Map.Text.{is_eq-slice_cmp}
use Rattle.std.proofs.lemmas.Bool.{not-true, not-false}
use Rattle.define_pools.specs.Lottery.{LotteryRow}
use Rattle.define_pools.proofs.BuildingLemmas.{same_bytes_comm}
use Rattle.check_reasons.proofs.InOrder.{again_here, again_later, came}
use Rattle.check_reasons.proofs.lotteries.first_repeated.Goals as goal

abbrev panel_of : LotteryRow → List ℕ
panel_of row = row.panel

abbrev in_set : BTreeSet (Bor (List ℕ)) → List ℕ → Bool
in_set set xs = contains_by (λ k. slice_cmp nat_cmp xs k.now) set

either : (a b : Bool) → (cond a true b) ≡ (b || a)
either true true = refl
either true false = refl
either false true = refl
either false false = refl

-- If the set has exactly the panels of the first `j` rows, then with the next panel it has those of the first `j + 1`.
kept_more : (rows : List LotteryRow) (j : ℕ) (row : LotteryRow) (key : Bor (List ℕ)) (old new : BTreeSet (Bor (List ℕ))) → j < length rows → row ≡ get_or rows j row → key.now ≡ row.panel →
    ((xs : List ℕ) → in_set old xs ≡ came panel_of (take j rows) xs) → Updates (λ x y. slice_cmp nat_cmp x.now y.now) old new key true →
    (xs : List ℕ) → in_set new xs ≡ came panel_of (take (j + 1) rows) xs
kept_more rows j row key old new l e panel kept updates xs =
    let query : Bor (List ℕ) = record { ref_ptr = (0, 0); now = xs } in
    updates.0 query ∙ ap (λ b. cond b true (in_set old xs)) (is_eq-slice_cmp key.now xs ∙ same_bytes_comm key.now xs ∙ ap (bytes_eq xs) (panel ∙ ap panel_of e))
    ∙ either (bytes_eq xs (get_or rows j row).panel) (in_set old xs)
    ∙ ap (λ b. b || bytes_eq xs (get_or rows j row).panel) (kept xs)
    ∙ sym (list_any_more (λ row. bytes_eq xs row.panel) rows j row l)

pub returns-then-not-is_new : goal.returns-then-not-is_new
returns-then-not-is_new c =
    let rows = c.args.rows.now in
    let row = c.row-item.result in
    let key = c.members.ensures.value ∙ c.panel-panel.ensures in
    let had : in_set c.loop-row.earlier c.members.result.now ≡ true = not-false (in_set c.loop-row.earlier c.members.result.now) (sym c.in_ok-is_new.ensures.added ∙ c.if-not-is_new.true) in
    let before : came panel_of (take c.loop-row.row-index rows) row.panel ≡ true = sym (c.loop-row.invariant.kept row.panel) ∙ ap (in_set c.loop-row.earlier) (sym key) ∙ had in
    ap Some c.panel-panel.ensures
    ∙ again_here panel_of [] rows c.loop-row.row-index row c.loop-row-test.true c.row-item.is c.loop-row.invariant.once (ap (λ b. b || false) before)

pub loop-row-preserved : goal.loop-row-preserved
loop-row-preserved c =
    let rows = c.args.rows.now in
    let row = c.row-item.result in
    let key = c.members.ensures.value ∙ c.panel-panel.ensures in
    let new : in_set c.loop-row.earlier c.members.result.now ≡ false = not-true (in_set c.loop-row.earlier c.members.result.now) (sym c.in_ok-is_new.ensures.added ∙ c.if-not-is_new.false) in
    let before : came panel_of (take c.loop-row.row-index rows) row.panel ≡ false = sym (c.loop-row.invariant.kept row.panel) ∙ ap (in_set c.loop-row.earlier) (sym key) ∙ new in
    record {
      once = again_later panel_of [] rows c.loop-row.row-index row c.loop-row-test.true c.row-item.is c.loop-row.invariant.once (ap (λ b. b || false) before);
      kept = kept_more rows c.loop-row.row-index row c.members.result c.loop-row.earlier c.insert.new.self c.loop-row-test.true c.row-item.is key c.loop-row.invariant.kept c.in_ok-is_new.ensures.updates;
    }
