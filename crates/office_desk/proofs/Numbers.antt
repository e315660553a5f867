-- The number of the volunteer with an id, as a loop finds it.
use Rattle.std.proofs.Common.{◌≡◌, ℕ, suc, ◌+◌, ◌<◌, Bool, cond, List, ◌∷◌, length, drop, get_or, Some, sym, ap, ◌∙◌, add-one}
use Rattle.std.specs.Prelude.{bytes_eq}
use Rattle.std.proofs.Math.Seq.{drop-cons}
use Rattle.define_pools.specs.Pool.{Volunteer}
use Rattle.define_desk.specs.Desk.{number_of}

-- the search from volunteer `i` on finds this volunteer if they have the id, and else goes on at the next one
pub number_step : (id : List ℕ) (volunteers : List Volunteer) (i : ℕ) (v : Volunteer) (b : Bool) → i < length volunteers → v ≡ get_or volunteers i v → bytes_eq id v.id ≡ b →
    number_of id (drop i volunteers) i ≡ cond b (Some i) (number_of id (drop (i + 1) volunteers) (i + 1))
number_step id volunteers i v b inside is e =
    let rest : drop i volunteers ≡ v ∷ drop (i + 1) volunteers = drop-cons volunteers i v inside ∙ (ap (λ (w : Volunteer). w ∷ drop (suc i) volunteers) (sym is) ∙ ap (λ (k : ℕ). v ∷ drop k volunteers) (sym (add-one i))) in
    ap (λ vs. number_of id vs i) rest ∙ ap (λ (found : Bool). cond found (Some i) (number_of id (drop (i + 1) volunteers) (i + 1))) e
