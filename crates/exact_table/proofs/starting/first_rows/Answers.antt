use Rattle.std.proofs.Common.{◌≡◌, ℕ, ◌+◌, ◌<◌, List, [], ◌∷◌, ◌++◌, map, length, get_or, pos, ap, ap₂, ◌∙◌, sym, arith}
use Rattle.std.specs.List.{range_with_len, enumerate_from}
use Rattle.std.proofs.lemmas.List.{length-map, get_or-map, ext_get_or}
use Rattle.std.proofs.lemmas.List.FromFn.{map-range_with_len_more, length-map-range_with_len, get_or-map-range_with_len, length-enumerate_from, get_or-enumerate_from}
use Rattle.define_rows.specs.Row.{Row}
use Rattle.define_rows.specs.Pivot.{total_row, class_row}
use Rattle.exact_table.proofs.starting.first_rows.Goals as goal

row_of : List ℕ → ℕ → Row
row_of first t = class_row (length first) (t, get_or first t 0)

-- the rows that are made class by class are the definition's, which enumerates the counts
same_rows : (first : List ℕ) → map (λ t. class_row (length first) (t, get_or first t 0)) (range_with_len 0 (length first)) ≡ map (class_row (length first)) (enumerate_from 0 first)
unfolding row_of
same_rows first =
    ext_get_or (record { b = pos 0; a = [] }) (map (row_of first) (range_with_len 0 (length first))) (map (class_row (length first)) (enumerate_from 0 first))
    (length-map-range_with_len (row_of first) 0 (length first) ∙ sym (length-map (enumerate_from 0 first) (class_row (length first)) ∙ length-enumerate_from 0 first)) each
  where
    each : (t : ℕ) → t < length (map (row_of first) (range_with_len 0 (length first))) → get_or (map (row_of first) (range_with_len 0 (length first))) t (record { b = pos 0; a = [] }) ≡ get_or (map (class_row (length first)) (enumerate_from 0 first)) t (record { b = pos 0; a = [] })
    each t l =
        let m : t < length first = omega (arith, length-map-range_with_len (row_of first) 0 (length first)) in
        let zero : 0 + t ≡ t = omega arith in
        get_or-map-range_with_len (row_of first) 0 (length first) t t (record { b = pos 0; a = [] }) m zero
        ∙ sym (get_or-map (class_row (length first)) (enumerate_from 0 first) t (0, 0) (record { b = pos 0; a = [] }) (omega (arith, length-enumerate_from 0 first))
        ∙ ap (class_row (length first)) (get_or-enumerate_from 0 first t (0, 0) m ∙ ap (λ n. let p : ℕ × ℕ = (n, get_or first t 0) in p) zero))

more : (first : List ℕ) (t : ℕ) →
    (total_row (length first) ∷ map (λ t. class_row (length first) (t, get_or first t 0)) (range_with_len 0 t)) ++ class_row (length first) (t, get_or first t 0) ∷ []
    ≡ total_row (length first) ∷ map (λ t. class_row (length first) (t, get_or first t 0)) (range_with_len 0 (t + 1))
unfolding row_of
more first t = ap (λ rows. total_row (length first) ∷ rows) (sym (map-range_with_len_more (row_of first) 0 t t (omega arith)))

pub loop-class-preserved : goal.loop-class-preserved
loop-class-preserved c = c.in_ok-push-2.ensures.items ∙ ap₂ (λ rows row. rows ++ row ∷ []) c.loop-class.invariant c.in_ok-of_class.ensures ∙ more c.args.first.now c.loop-class.class

pub returns : goal.returns
returns c =
    let t : c.loop-class.class ≡ length c.args.first.now = omega arith in
    c.loop-class.invariant ∙ ap (λ n. total_row (length c.args.first.now) ∷ map (λ t. class_row (length c.args.first.now) (t, get_or c.args.first.now t 0)) (range_with_len 0 n)) t
    ∙ ap (λ rows. total_row (length c.args.first.now) ∷ rows) (same_rows c.args.first.now)
