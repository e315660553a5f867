-- Lines have no fault exactly if they are the lines of a tree that shows the cap.
use Rattle.std.proofs.Common.{◌≡◌, ℕ, zero, suc, ◌+◌, ◌<◌, ◌≤◌, Bool, true, false, cond, ◌&&◌, List, [], ◌∷◌, ◌++◌, set, length, Some, None, refl, sym, ap, ◌∙◌, arith}
use Rattle.std.proofs.lemmas.Bool.{and_from, and_parts}
use Rattle.std.proofs.lemmas.List.{append-nil, append_assoc}
use Rattle.define_pools.specs.declared.Standing.{Standing}
use Rattle.define_pools.specs.declared.Standing.TheVariants.{Seated, Gone}
use Rattle.define_proofs.specs.Leaves.{Problem, leaf_shows}
use Rattle.define_proofs.specs.Trees.{AtLeaf, AtSplit, Tree, is_undecided, tree_shows}
use Rattle.define_proofs.specs.TreeLines.{AreOfTree, Decision, OfLeaf, OfSplit, TreeLine, fault, fault_from, lines_of, path_behind, standings_at, tree_fault}

module _ (problem : Problem) (standings : List Standing) where
  -- `path` with one more decision: without volunteer `i`
  abbrev out_of : ℕ → List Decision → List Decision
  out_of i path = record { volunteer = i; is_in = false } ∷ path

  -- `path` with one more decision: with volunteer `i`
  abbrev into : ℕ → List Decision → List Decision
  into i path = record { volunteer = i; is_in = true } ∷ path

  -- at this path, the lines begin with those of a tree that shows the cap, and the lines after them have no fault
  record Begins (path : List Decision) (lines : List TreeLine) : Type 0 where
    tree : Tree
    behind : List TreeLine
    number : ℕ
    joined : lines_of tree ++ behind ≡ lines
    shows : tree_shows problem (standings_at standings path) tree ≡ true
    goes_on : fault_from problem standings number (path_behind path) behind ≡ None
    fewer : length behind < length lines

  begins : (most number : ℕ) (path : List Decision) (lines : List TreeLine) → length lines ≤ most → fault_from problem standings number (Some path) lines ≡ None → Begins path lines
  begins most number path [] l e = absurd cc
  begins zero number path (line ∷ later) l e = absurd (omega arith)
  begins (suc most) number path (OfLeaf leaf ∷ later) l e = by (leaf_shows problem (standings_at standings path) leaf) refl e
    where
      by : (b : Bool) → leaf_shows problem (standings_at standings path) leaf ≡ b → cond b (fault_from problem standings (number + 1) (path_behind path) later) (fault number 12) ≡ None → Begins path (OfLeaf leaf ∷ later)
      by true t f = record { tree = AtLeaf leaf; behind = later; number = number + 1; joined = refl; shows = t; goes_on = f; fewer = omega arith }
      by false t f = absurd cc
  begins (suc most) number path (OfSplit i ∷ later) l e = by (is_undecided (standings_at standings path) i) refl e (begins most (number + 1) (out_of i path) later (omega arith)) (λ n lines m. begins most n (into i path) lines m)
    where
      by : (b : Bool) → is_undecided (standings_at standings path) i ≡ b → cond b (fault_from problem standings (number + 1) (Some (out_of i path)) later) (fault number 11) ≡ None →
          (fault_from problem standings (number + 1) (Some (out_of i path)) later ≡ None → Begins (out_of i path) later) →
          ((n : ℕ) (lines : List TreeLine) → length lines ≤ most → fault_from problem standings n (Some (into i path)) lines ≡ None → Begins (into i path) lines) →
          Begins path (OfSplit i ∷ later)
      by true t f first second =
          let without = first f in
          let few = without.fewer in
          let with = second without.number without.behind (omega arith) without.goes_on in
          let fewer = with.fewer in
          record {
            tree = AtSplit i without.tree with.tree;
            behind = with.behind;
            number = with.number;
            joined = ap (λ lines. OfSplit i ∷ lines) (append_assoc (lines_of without.tree) (lines_of with.tree) with.behind ∙ ap (λ lines. lines_of without.tree ++ lines) with.joined ∙ without.joined);
            shows = and_from (is_undecided (standings_at standings path) i && tree_shows problem (set (standings_at standings path) i Gone) without.tree)
                (tree_shows problem (set (standings_at standings path) i Seated) with.tree)
                (and_from (is_undecided (standings_at standings path) i) (tree_shows problem (set (standings_at standings path) i Gone) without.tree) t without.shows) with.shows;
            goes_on = with.goes_on;
            fewer = omega arith;
          }
      by false t f first second = absurd cc

  none_behind : (number : ℕ) (lines : List TreeLine) → fault_from problem standings number None lines ≡ None → lines ≡ []
  none_behind number [] e = refl
  none_behind number (line ∷ later) e = absurd cc

  pub of_tree_where_no_fault : (number : ℕ) (lines : List TreeLine) → tree_fault problem standings number lines ≡ None → AreOfTree problem standings lines
  of_tree_where_no_fault number lines e =
      let all = begins (length lines) number [] lines (omega arith) e in
      let none = none_behind all.number all.behind all.goes_on in
      record { tree = all.tree; its_lines = sym (append-nil (lines_of all.tree)) ∙ ap (λ behind. lines_of all.tree ++ behind) (sym none) ∙ all.joined; shows = all.shows }

  -- ---- the lines of a tree that shows the cap have no fault

  -- after the lines of a tree that shows the cap, `fault_from` goes on with the lines `behind` and the path after the tree
  record GoesOn (path : List Decision) (number : ℕ) (tree : Tree) (behind : List TreeLine) : Type 0 where
    next : ℕ
    same : fault_from problem standings number (Some path) (lines_of tree ++ behind) ≡ fault_from problem standings next (path_behind path) behind

  goes_on : (tree : Tree) (path : List Decision) (number : ℕ) (behind : List TreeLine) → tree_shows problem (standings_at standings path) tree ≡ true → GoesOn path number tree behind
  goes_on (AtLeaf leaf) path number behind shows =
      record { next = number + 1; same = ap (λ b. cond b (fault_from problem standings (number + 1) (path_behind path) behind) (fault number 12)) shows }
  goes_on (AtSplit i without with) path number behind shows =
      let all = standings_at standings path in
      let A = is_undecided all i in let B = tree_shows problem (set all i Gone) without in let C = tree_shows problem (set all i Seated) with in
      let parts = and_parts (A && B) C shows in
      let first = and_parts A B parts.0 in
      let out = goes_on without (out_of i path) (number + 1) (lines_of with ++ behind) first.1 in
      let in_it = goes_on with (into i path) out.next behind parts.1 in
      record {
        next = in_it.next;
        same = ap (λ lines. fault_from problem standings number (Some path) (OfSplit i ∷ lines)) (append_assoc (lines_of without) (lines_of with) behind)
            ∙ ap (λ b. cond b (fault_from problem standings (number + 1) (Some (out_of i path)) (lines_of without ++ (lines_of with ++ behind))) (fault number 11)) first.0
            ∙ out.same ∙ in_it.same;
      }

  pub no_fault_where_of_tree : (number : ℕ) (lines : List TreeLine) → AreOfTree problem standings lines → tree_fault problem standings number lines ≡ None
  no_fault_where_of_tree number lines of_tree =
      let all = goes_on of_tree.tree [] number [] of_tree.shows in
      ap (λ ls. tree_fault problem standings number ls) (sym (append-nil (lines_of of_tree.tree) ∙ of_tree.its_lines)) ∙ all.same
