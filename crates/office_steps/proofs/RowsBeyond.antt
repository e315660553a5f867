-- `row_beyond` finds at a place of the register what `get` finds there.
use Rattle.std.proofs.Common.{◌≡◌, ℕ, zero, suc, ◌<◌, ◌≤◌, ltb, List, [], ◌∷◌, length, get_or, Bor, Option, Some, None, is_some, IfSome, option_map, refl, sym, ap, ◌∙◌, arith}
use Rattle.std.proofs.lemmas.Bool.{ltb-true, ltb-false}
use Rattle.define_offices.specs.Deciding.{row_beyond}
use Rattle.define_offices.specs.Tables.{Entry}

row_beyond-past : (register : List Entry) (place : ℕ) → length register ≤ place → row_beyond register place ≡ None
row_beyond-past [] place h = refl
row_beyond-past (entry ∷ register) zero h = absurd (omega arith)
row_beyond-past (entry ∷ register) (suc place) h = row_beyond-past register place (omega arith)

row_beyond-within : (register : List Entry) (place : ℕ) (d : Entry) → place < length register → row_beyond register place ≡ Some (get_or register place d)
row_beyond-within [] place d h = absurd (omega arith)
row_beyond-within (entry ∷ register) zero d h = refl
row_beyond-within (entry ∷ register) (suc place) d h = row_beyond-within register place d (omega arith)

pub row_beyond-get : (register : List Entry) (place : ℕ) (found : Option (Bor Entry)) → is_some found ≡ ltb place (length register) → IfSome found (λ entry. entry.now ≡ get_or register place entry.now) →
    option_map (λ (entry : Bor Entry). entry.now) found ≡ row_beyond register place
row_beyond-get register place None h k = sym (row_beyond-past register place (ltb-false place (length register) (sym h)))
row_beyond-get register place (Some entry) h k = sym (row_beyond-within register place entry.now (ltb-true place (length register) (sym h)) ∙ ap Some (sym k))
