-- Whether a round keeps its facts, by its bundle and its phase.
use Rattle.std.proofs.Common.{◌≡◌, ◌↔◌, ℕ, Bool, true, false, List, Option, Some, None, refl, sym, subst, ◌∙◌}
use Rattle.std.proofs.lemmas.Bool.{false≢true}
use Rattle.define_bundles.specs.BundleText.{Bundle}
use Rattle.define_offices.specs.declared.Phase.TheVariants as phase
use Rattle.define_offices.specs.Facts.{KeepsBundle, KeepsDraw, KeepsRound, are_tickets}
use Rattle.define_offices.specs.Tables.{Round, Open, Solved, Sealed, Drawn, Tables, bundle_of, phase_of, tickets_of}
use Rattle.office_tables.specs.Parts.{digits_of, dropped_of}

module _ (tables : Tables) where
  pub open_keeps : (round : Round) → bundle_of round ≡ None → (true ≡ true ↔ KeepsRound tables round)
  open_keeps Open none = ((λ t. tt), (λ keeps. refl))
  open_keeps (Solved bundle) none = absurd (cc)
  open_keeps (Sealed bundle tickets) none = absurd (cc)
  open_keeps (Drawn bundle tickets digits dropped) none = absurd (cc)

  bundle_keeps : (round : Round) (bundle : Bundle) → bundle_of round ≡ Some bundle → KeepsRound tables round → KeepsBundle tables bundle
  bundle_keeps Open bundle has keeps = absurd (cc)
  bundle_keeps (Solved kept) bundle has keeps = let same : kept ≡ bundle = cc in subst (KeepsBundle tables) same keeps
  bundle_keeps (Sealed kept tickets) bundle has keeps = let same : kept ≡ bundle = cc in subst (KeepsBundle tables) same keeps.0
  bundle_keeps (Drawn kept tickets digits dropped) bundle has keeps = let same : kept ≡ bundle = cc in subst (KeepsBundle tables) same keeps.0

  -- a round whose bundle doesn't keep its facts doesn't keep its own
  pub bundle_breaks : (round : Round) (bundle : Bundle) (b : Bool) → bundle_of round ≡ Some bundle → (b ≡ true ↔ KeepsBundle tables bundle) → b ≡ false → (false ≡ true ↔ KeepsRound tables round)
  bundle_breaks round bundle b has is breaks = ((λ t. absurd (false≢true t)), (λ keeps. sym breaks ∙ is.1 (bundle_keeps round bundle has keeps)))

  -- a round that isn't drawn keeps its facts if its bundle does
  pub undrawn_keeps : (round : Round) (bundle : Bundle) → bundle_of round ≡ Some bundle → (phase_of round ≡ phase.Drawn → ⊥) → KeepsBundle tables bundle → are_tickets (tickets_of round) ≡ true →
      (true ≡ true ↔ KeepsRound tables round)
  undrawn_keeps Open bundle has other keeps few = absurd (cc)
  undrawn_keeps (Solved kept) bundle has other keeps few = let same : bundle ≡ kept = cc in ((λ t. subst (KeepsBundle tables) same keeps), (λ k. refl))
  undrawn_keeps (Sealed kept tickets) bundle has other keeps few = let same : bundle ≡ kept = cc in ((λ t. (subst (KeepsBundle tables) same keeps, few)), (λ k. refl))
  undrawn_keeps (Drawn kept tickets digits dropped) bundle has other keeps few = absurd (other refl)

  -- a round that is drawn keeps its facts if its bundle and its draw do
  pub drawn_keeps : (round : Round) (bundle : Bundle) (tickets : Option ℕ) (digits : List ℕ) (dropped : List (List ℕ)) (b : Bool) → bundle_of round ≡ Some bundle → phase_of round ≡ phase.Drawn →
      KeepsBundle tables bundle → tickets ≡ tickets_of round → digits ≡ digits_of round → dropped ≡ dropped_of round → (b ≡ true ↔ KeepsDraw bundle tickets digits dropped) → (b ≡ true ↔ KeepsRound tables round)
  drawn_keeps Open bundle tickets digits dropped b has drawn keeps et ed eo is = absurd (cc)
  drawn_keeps (Solved kept) bundle tickets digits dropped b has drawn keeps et ed eo is = absurd (cc)
  drawn_keeps (Sealed kept of) bundle tickets digits dropped b has drawn keeps et ed eo is = absurd (cc)
  drawn_keeps (Drawn kept of thrown out) bundle tickets digits dropped b has drawn keeps et ed eo is =
      let same : bundle ≡ kept = cc in (
        (λ t. (
          subst (KeepsBundle tables) same keeps,
          subst (λ (x : Bundle). KeepsDraw x of thrown out) same
              (subst (λ (x : Option ℕ). KeepsDraw bundle x thrown out) et
              (subst (λ (x : List ℕ). KeepsDraw bundle tickets x out) ed (subst (λ (x : List (List ℕ)). KeepsDraw bundle tickets digits x) eo (is.0 t)))),
        )),
        (λ k.
            is.1
            (subst (λ (x : List (List ℕ)). KeepsDraw bundle tickets digits x) (sym eo)
            (subst (λ (x : List ℕ). KeepsDraw bundle tickets x out) (sym ed)
            (subst (λ (x : Option ℕ). KeepsDraw bundle x thrown out) (sym et) (subst (λ (x : Bundle). KeepsDraw x of thrown out) (sym same) k.1))))),
      )
