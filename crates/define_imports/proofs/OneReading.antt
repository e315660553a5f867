-- A text of CSV has one list of records.
use Rattle.std.proofs.Common.{◌≡◌, ◌∙◌, ap, sym, subst, refl, ℕ, List, [], ◌∷◌, Option, Some, None}
use Rattle.csv.specs.Machine.{Read, next_record}
use Rattle.csv.specs.Reading.{AreRecords, Reached}
use Rattle.csv.specs.declared.parser.Config.{Config}
use Rattle.csv.specs.declared.parser.State.{State}

-- a read can't both give a record and give none
clash : {X : Type 0} (r : Option X) (x : X) → r ≡ Some x → r ≡ None → ⊥
clash r x some none = cc

-- a read gives at most one record
same_some : {X : Type 0} (r : Option X) (x y : X) → r ≡ Some x → r ≡ Some y → x ≡ y
same_some r x y first second = cc

-- if a text has no record, a read of it gives none
ended : (cfg : Config) (s : State) (xs : List ℕ) → AreRecords cfg s xs [] → next_record cfg s [] [] xs ≡ None
unfolding Reached
ended cfg s xs f = ap (λ t. next_record cfg t [] [] xs) f.2.0 ∙ ap (λ ys. next_record cfg f.0 [] [] ys) f.2.1 ∙ f.3

-- two lists of all records of a text are equal
pub one_list : (cfg : Config) (s : State) (xs : List ℕ) (first second : List (List (List ℕ))) → AreRecords cfg s xs first → AreRecords cfg s xs second → first ≡ second
unfolding Reached
one_list cfg s xs [] [] f g = refl
one_list cfg s xs [] (r ∷ rs) f g = absurd (clash (next_record cfg s [] [] xs) g.2.0 g.2.1 (ended cfg s xs f))
one_list cfg s xs (r ∷ rs) [] f g = absurd (clash (next_record cfg s [] [] xs) f.2.0 f.2.1 (ended cfg s xs g))
one_list cfg s xs (r ∷ rs) (q ∷ qs) f g =
    let same : g.2.0 ≡ f.2.0 = same_some (next_record cfg s [] [] xs) g.2.0 f.2.0 g.2.1 f.2.1 in
    let later : AreRecords cfg f.2.0.1 f.2.0.2 qs = (g.0, g.1, subst (λ (p : Read). Reached cfg p.1 p.2 qs g.0 g.1) same g.2.3, g.3) in
    let rest : rs ≡ qs = one_list cfg f.2.0.1 f.2.0.2 rs qs (f.0, f.1, f.2.3, f.3) later in
    let head : r ≡ q = f.2.2 ∙ (ap (λ (p : Read). p.0) (sym same) ∙ sym g.2.2) in
    ap (λ x. x ∷ rs) head ∙ ap (λ xs. q ∷ xs) rest
