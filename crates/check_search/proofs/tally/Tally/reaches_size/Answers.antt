use Rattle.std.proofs.Common.{◌≡◌, ℕ, ◌+◌, ◌&&◌, leb, length, refl, ◌∙◌, arith, true}
use Rattle.define_searches.proofs.Tracking.{most_small}
use Rattle.check_search.proofs.tally.Tally.reaches_size.Goals as goal

pub size_allows-requires : goal.size_allows-requires
size_allows-requires c =
    omega (arith, c.requires.stands.taken, c.requires.few, c.requires.stands.later_taken, most_small c.args.classes.now (length c.args.front.now) (λ class. true) c.facts.ensures)

same_test : (taken taken' later later' size size' : ℕ) → taken ≡ taken' → later ≡ later' → size ≡ size' → (leb taken size && leb size (taken + later)) ≡ (leb taken' size' && leb size' (taken' + later'))
same_test taken taken' later later' size size' e f g = rw (e, f, g) refl

pub returns : goal.returns
returns c =
    let stands = c.requires.stands in let self = c.args.self.now in
    c.size_allows.ensures ∙ same_test (self.taken + 0) _ self.later_taken _ c.size.result _ (omega (arith, stands.taken)) stands.later_taken c.size.ensures
