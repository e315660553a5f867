use Rattle.std.proofs.Common.{◌≡◌, ◌-◌, ◌≤◌, get_or, max, length, ap, ◌∙◌, subst, arith, List, ℕ}
use Rattle.std.specs.List.Sorted.{IsNonDecreasingBy, IsPermutation}
use Rattle.std.proofs.lemmas.List.{get_or_default}
use Rattle.std.proofs.lemmas.List.Sorted.{IsNonDecreasingBy-from_sort, length_permutation}
use Rattle.define_draws.proofs.Ranks.{IsLine, above}
use Rattle.short_tickets.proofs.LineLemmas.{is_line_for, line_in_order}
use Rattle.short_tickets.proofs.lines.line_for.Goals as goal

found : (remainders sorted : List ℕ) (left place line : ℕ) → IsPermutation remainders sorted → IsNonDecreasingBy (λ (x : ℕ). x) sorted →
    1 ≤ length remainders → left ≤ length remainders → place ≡ length remainders - max left 1 → line ≡ get_or sorted place line → IsLine left remainders line
found remainders sorted left place line moved rise some within at is =
    let size = length_permutation remainders sorted moved in
    line_in_order remainders sorted left place line moved rise some within (omega (arith, size)) (is ∙ get_or_default sorted place line 0 (omega (arith, size)))

pub overflow_sub-result : goal.overflow_sub-result
overflow_sub-result c =
    let sorted = c.sort.new.self.items in
    let moved = subst (λ (xs : List ℕ). IsPermutation xs sorted) c.in_ok-sorted.ensures.items c.sort.ensures.permutation in
    let rise = IsNonDecreasingBy-from_sort (λ (x : ℕ). x) sorted c.in_ok-sort.ensures.sorted in
    let line = found c.args.remainders.now sorted c.args.left (c.len.result - c.max.result) c.index-remainder.result.now moved rise
    c.requires.some c.requires.left (omega (arith, c.in_ok-sorted.ensures.len, c.sort.ensures.len, c.len.ensures, c.max.ensures)) c.index-remainder.ensures in
    omega (arith, line.few, c.count_above-above.ensures)

pub returns : goal.returns
returns c =
    let sorted = c.sort.new.self.items in
    let moved = subst (λ (xs : List ℕ). IsPermutation xs sorted) c.in_ok-sorted.ensures.items c.sort.ensures.permutation in
    let rise = IsNonDecreasingBy-from_sort (λ (x : ℕ). x) sorted c.in_ok-sort.ensures.sorted in
    let line = found c.args.remainders.now sorted c.args.left (c.len.result - c.max.result) c.index-remainder.result.now moved rise
    c.requires.some c.requires.left (omega (arith, c.in_ok-sorted.ensures.len, c.sort.ensures.len, c.len.ensures, c.max.ensures)) c.index-remainder.ensures in
    is_line_for c.args.left c.args.remainders.now (record { remainder = c.index-remainder.result.now; ties = c.args.left - c.count_above-above.result }) line
    (ap (λ n. c.args.left - n) c.count_above-above.ensures)
