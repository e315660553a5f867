use Rattle.std.proofs.Common.{◌≡◌, ◌∷◌, take, eqb, ap, ◌∙◌, arith, subst}
use Rattle.std.specs.Ordering.{nat_cmp}
use Rattle.std.specs.List.{dedup, flat_map}
use Rattle.std.specs.List.Sorted.{IsPermutation, IsSorted}
use Rattle.std.proofs.lemmas.List.{take_all}
use Rattle.std.proofs.lemmas.List.Filters.{dedup_is}
use Rattle.define_runs.specs.Spreading.{marks}
use Rattle.alike.proofs.Rising.{cuts_made}
use Rattle.alike.proofs.dials.cuts.Goals as goal

pub returns : goal.returns
returns c =
    let sizes = c.args.sizes.now in let k = c.loop-size.size-index in
    let sorted = c.sort.new.self.items in
    let kept : c.dedup.new.self.items ≡ dedup eqb sorted = dedup_is eqb sorted c.dedup.new.self.items c.dedup.ensures.filtered in
    let order : IsSorted nat_cmp sorted = c.in_ok-sort.ensures.sorted in
    let moved : IsPermutation c.loop-size.cuts.items sorted = c.in_ok-sort.ensures.permutation in
    let whole : take k sizes ≡ sizes = take_all k sizes (omega arith) in
    let all : c.loop-size.cuts.items ≡ 0 ∷ flat_map (marks c.args.places) sizes = c.loop-size.invariant ∙ ap (λ xs. 0 ∷ flat_map (marks c.args.places) xs) whole in
    cuts_made (0 ∷ flat_map (marks c.args.places) sizes) sorted c.dedup.new.self.items (subst (λ xs. IsPermutation xs sorted) all moved) order kept
