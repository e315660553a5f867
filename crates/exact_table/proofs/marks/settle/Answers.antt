use Rattle.std.proofs.Common.{◌≡◌, ℕ, ◌+◌, ◌<◌, cond, eqb, ◌&&◌, List, [], ◌∷◌, ◌++◌, length, get_or, set, take, drop, ℤ, pos, sym, ap, ap₂, ◌∙◌, arith, rules, FitsSigned}
use Rattle.std.specs.Prelude.{int_lt}
use Rattle.std.specs.Int.{w128}
use Rattle.std.proofs.lemmas.Int.{to_z-of_z}
use Rattle.std.proofs.lemmas.List.{drop_more, drop_all, take_all, take_more_set, drop-set-lt, append_assoc, append-nil}
use Rattle.exact_table.specs.Marks.{never, settled_marks}
use Rattle.exact_table.proofs.marks.settle.Goals as goal

-- one turn of the loop: writing the new mark of class `t` doesn't change what the marks are at the end
turn : (stage : ℕ) (xs : List ℤ) (marks : List ℕ) (t y : ℕ) → t < length xs → t < length marks →
    y ≡ cond (eqb (get_or marks t 0) never && int_lt (pos 0) (get_or xs t (pos 0))) stage (get_or marks t 0) →
    take (t + 1) (set marks t y) ++ settled_marks stage (drop (t + 1) xs) (drop (t + 1) (set marks t y)) ≡ take t marks ++ settled_marks stage (drop t xs) (drop t marks)
turn stage xs marks t y l m e =
    ap₂ (λ front rest. front ++ settled_marks stage (drop (t + 1) xs) rest) (take_more_set marks t y m) (drop-set-lt (t + 1) marks t y (omega arith))
    ∙ append_assoc (take t marks) (y ∷ []) (settled_marks stage (drop (t + 1) xs) (drop (t + 1) marks))
    ∙ ap (λ z. take t marks ++ z ∷ settled_marks stage (drop (t + 1) xs) (drop (t + 1) marks)) e
    ∙ sym (ap₂ (λ zs ms. take t marks ++ settled_marks stage zs ms) (drop_more xs t (pos 0) l) (drop_more marks t 0 m))

pub loop-class-preserved : goal.loop-class-preserved
loop-class-preserved c =
    let fx : FitsSigned w128 (get_or c.args.entries.now c.loop-class.class (pos 0)) = search rules in
    let e : c.mark_after.result ≡ cond (eqb (get_or c.loop-class.settled_at c.loop-class.class 0) never && int_lt (pos 0) (get_or c.args.entries.now c.loop-class.class (pos 0))) c.args.stage (get_or c.loop-class.settled_at c.loop-class.class 0) = simp to_z-of_z at c.mark_after.ensures in
    turn c.args.stage c.args.entries.now c.loop-class.settled_at c.loop-class.class c.mark_after.result (omega arith) (omega arith) e ∙ c.loop-class.invariant

pub returns : goal.returns
returns c =
    let ends : settled_marks c.args.stage (drop c.loop-class.class c.args.entries.now) (drop c.loop-class.class c.loop-class.settled_at) ≡ [] =
    ap₂ (settled_marks c.args.stage) (drop_all c.loop-class.class c.args.entries.now (omega arith)) (drop_all c.loop-class.class c.loop-class.settled_at (omega arith)) in
    sym (take_all c.loop-class.class c.loop-class.settled_at (omega arith)) ∙ sym (append-nil (take c.loop-class.class c.loop-class.settled_at)) ∙ ap (λ rest. take c.loop-class.class c.loop-class.settled_at ++ rest) (sym ends) ∙ c.loop-class.invariant
