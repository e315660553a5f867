-- What a line of a tree is read as, and that the spelling of what is read is the line again.
use Rattle.std.proofs.Common.{◌≡◌, ℕ, ◌+◌, ◌-◌, ◌<◌, ◌≤◌, ◌^◌, true, ◌&&◌, cond, eqb, leb, ltb, List, [], ◌∷◌, ◌++◌, map, refl, sym, ◌∙◌, ap, subst, arith, lit<, Option, Some, None}
use Rattle.std.specs.Prelude.{bytes_eq, codes, ℤ, unsigned_abs}
use Rattle.std.specs.Fmt.{decimal, signed_decimal}
use Rattle.std.specs.List.{AllByRecursion, flat_map, list_all}
use Rattle.std.proofs.lemmas.Bool.{and_from, and_parts, cond_both, eqb-true, eq-eqb, le-leb, leb-true, lt-ltb, ltb-true}
use Rattle.define_pools.proofs.Each.{each_map}
use Rattle.define_pools.specs.Certificate.{Stage}
use Rattle.define_pools.specs.Lists.{is_increasing}
use Rattle.define_lines.specs.Lines.{line_feed, tab, line_of, fields_of}
use Rattle.define_lines.specs.Numbers.{number_up_to, signed_up_to}
use Rattle.define_lines.proofs.LineLemmas.{Lacks, fields_of-line_of, line_of-fields_of}
use Rattle.define_lines.proofs.FieldLemmas.{IsField, decimal_field, line_lacks_feed, plain_field}
use Rattle.define_lines.proofs.NumberLemmas.{bytes_are, bytes_same, number_again, number_spelled, signed_again, signed_spelled}
use Rattle.define_bundles.specs.BundleReading.{with_number}
use Rattle.define_bundles.specs.Ranges.{reach}
use Rattle.define_bundles.proofs.AnswerLines.{stage_fields}
use Rattle.define_proofs.specs.Leaves.{Leaf, Multiplier}
use Rattle.define_proofs.specs.TreeLines.{OfLeaf, OfSplit, TreeLine}
use Rattle.define_proofs.specs.TreeRanges.{is_leaf, is_multiplier, are_constraints, is_tree_line, greatest_constraint, number_limit}
use Rattle.define_proofs.specs.ProofText.{close_line, most_trees, multiplier_fields, node_line, tree_line}
use Rattle.define_proofs.specs.ProofReading.{LineInTree, NextTree, OfNode, TheClose, Unknown, leaf_of, leaf_said, line_in_tree, multiplier_of, multipliers_of, node_in_range, node_said, split_of, split_said}

-- ---- a line is the spelling of what it is read as

-- inside tree `number` of `last`, the line is the spelling of `said`, and the numbers in `said` are in range
abbrev pub IsSpelled : ℕ → ℕ → ℕ → List ℕ → LineInTree → Type 0
IsSpelled volunteers number last line (OfNode node) = (line ≡ node_line node) × (is_tree_line volunteers node ≡ true)
IsSpelled volunteers number last line NextTree = (line ≡ tree_line (number + 1)) × (number < last) × (number < most_trees volunteers)
IsSpelled volunteers number last line TheClose = (line ≡ close_line) × (number ≡ last)
IsSpelled volunteers number last line Unknown = Unit {0}

-- if two fields are read as a multiplier, they are the multiplier's fields
pair_spelled : (number factor : List ℕ) (multiplier : Multiplier) → multiplier_of (number_up_to greatest_constraint number) (signed_up_to number_limit factor) ≡ Some multiplier →
    number ∷ factor ∷ [] ≡ multiplier_fields multiplier
pair_spelled number factor multiplier h = by (number_up_to greatest_constraint number) (signed_up_to number_limit factor) refl refl h
  where
    by : (n : Option ℕ) (f : Option ℤ) → number_up_to greatest_constraint number ≡ n → signed_up_to number_limit factor ≡ f → multiplier_of n f ≡ Some multiplier → number ∷ factor ∷ [] ≡ multiplier_fields multiplier
    by None f d e k = cc
    by (Some n) None d e k = cc
    by (Some n) (Some f) d e k =
        let one : decimal n ≡ number = (number_spelled greatest_constraint n number d).0 in
        let other : signed_decimal f ≡ factor = (signed_spelled number_limit f factor e).0 in
        let made : Multiplier = record { number = n; factor = f } in
        let same : made ≡ multiplier = cc in
        ap (λ field. field ∷ factor ∷ []) (sym one) ∙ ap (λ field. decimal n ∷ field ∷ []) (sym other) ∙ ap multiplier_fields same

multipliers_spelled : (fields : List (List ℕ)) (multipliers : List Multiplier) → multipliers_of fields ≡ Some multipliers → fields ≡ flat_map multiplier_fields multipliers
multipliers_spelled [] [] h = refl
multipliers_spelled [] (multiplier ∷ multipliers) h = cc
multipliers_spelled (number ∷ []) multipliers h = cc
multipliers_spelled (number ∷ factor ∷ fields) multipliers h =
    both (multiplier_of (number_up_to greatest_constraint number) (signed_up_to number_limit factor)) (multipliers_of fields) refl refl (multipliers_spelled fields) h
  where
    both : (first : Option Multiplier) (rest : Option (List Multiplier)) → multiplier_of (number_up_to greatest_constraint number) (signed_up_to number_limit factor) ≡ first → multipliers_of fields ≡ rest →
        ((others : List Multiplier) → multipliers_of fields ≡ Some others → fields ≡ flat_map multiplier_fields others) → with_number first rest ≡ Some multipliers →
        number ∷ factor ∷ fields ≡ flat_map multiplier_fields multipliers
    both None rest d e again k = cc
    both (Some multiplier) None d e again k = cc
    both (Some multiplier) (Some others) d e again k =
        let here = pair_spelled number factor multiplier d in
        let later = again others e in
        let same : multiplier ∷ others ≡ multipliers = cc in
        subst (λ ms. number ∷ factor ∷ fields ≡ flat_map multiplier_fields ms) same (ap (λ two. two ++ fields) here ∙ ap (λ rest. multiplier_fields multiplier ++ rest) later)

module _ (volunteers number last : ℕ) where
  abbrev Spells : List ℕ → LineInTree → Type 0
  Spells line said = IsSpelled volunteers number last line said

  in_range : (line : List ℕ) (node : TreeLine) → line ≡ node_line node → Spells line (node_in_range volunteers node)
  in_range line node e = cond_both (is_tree_line volunteers node) (OfNode node) Unknown (Spells line) (λ is. (e, is)) (λ _. tt)

  split_spelled : (first : List ℕ) (fields : List (List ℕ)) → first ≡ codes "split" → Spells (line_of (first ∷ fields)) (split_said volunteers fields)
  split_spelled first [] e = tt
  split_spelled first (i ∷ other ∷ fields) e = tt
  split_spelled first (i ∷ []) e = by (number_up_to volunteers i) refl
    where
      by : (n : Option ℕ) → number_up_to volunteers i ≡ n → Spells (line_of (first ∷ i ∷ [])) (split_of volunteers n)
      by None d = tt
      by (Some n) d =
          in_range (line_of (first ∷ i ∷ [])) (OfSplit n)
          (ap (λ word. line_of (word ∷ i ∷ [])) e ∙ ap (λ field. line_of (codes "split" ∷ field ∷ [])) (sym (number_spelled volunteers n i d).0))

  leaf_spelled : (first : List ℕ) (fields : List (List ℕ)) → first ≡ codes "bound" → Spells (line_of (first ∷ fields)) (leaf_said volunteers fields)
  leaf_spelled first [] e = tt
  leaf_spelled first (scale ∷ fields) e = by (number_up_to number_limit scale) (multipliers_of fields) refl refl
    where
      by : (n : Option ℕ) (ms : Option (List Multiplier)) → number_up_to number_limit scale ≡ n → multipliers_of fields ≡ ms → Spells (line_of (first ∷ scale ∷ fields)) (leaf_of volunteers n ms)
      by None ms d f = tt
      by (Some n) None d f = tt
      by (Some n) (Some ms) d f =
          in_range (line_of (first ∷ scale ∷ fields)) (OfLeaf (record { scale = n; multipliers = ms }))
          (ap (λ word. line_of (word ∷ scale ∷ fields)) e ∙ ap (λ field. line_of (codes "bound" ∷ field ∷ fields)) (sym (number_spelled number_limit n scale d).0)
          ∙ ap (λ rest. line_of (codes "bound" ∷ decimal n ∷ rest)) (multipliers_spelled fields ms f))

  node_spelled : (fields : List (List ℕ)) → Spells (line_of fields) (node_said volunteers fields)
  node_spelled [] = tt
  node_spelled (first ∷ fields) =
      let P = Spells (line_of (first ∷ fields)) in
      cond_both (bytes_eq first (codes "split")) (split_said volunteers fields) (cond (bytes_eq first (codes "bound")) (leaf_said volunteers fields) Unknown) P
      (λ e. split_spelled first fields (bytes_are first (codes "split") e))
      (λ _. cond_both (bytes_eq first (codes "bound")) (leaf_said volunteers fields) Unknown P (λ e. leaf_spelled first fields (bytes_are first (codes "bound") e)) (λ _. tt))

  -- each line is the spelling of what it is read as
  pub line_spelled : (line : List ℕ) → Spells line (line_in_tree volunteers number last line)
  line_spelled line =
      let node = node_said volunteers (fields_of line) in
      let next = cond (ltb number last && ltb number (most_trees volunteers)) NextTree Unknown in
      cond_both (bytes_eq line close_line) (cond (eqb number last) TheClose Unknown) (cond (bytes_eq line (tree_line (number + 1))) next node) (Spells line)
      (λ e. cond_both (eqb number last) TheClose Unknown (Spells line) (λ f. (bytes_are line close_line e, eqb-true number last f)) (λ _. tt))
      (λ _. cond_both (bytes_eq line (tree_line (number + 1))) next node (Spells line)
      (λ e. cond_both (ltb number last && ltb number (most_trees volunteers)) NextTree Unknown (Spells line)
      (λ f. let parts = and_parts (ltb number last) (ltb number (most_trees volunteers)) f in
      (bytes_are line (tree_line (number + 1)) e, ltb-true number last parts.0, ltb-true number (most_trees volunteers) parts.1)) (λ _. tt))
      (λ _. subst (λ l. Spells l node) (line_of-fields_of line) (node_spelled (fields_of line))))

-- ---- the spelling of a value is read as this value

limit_small : number_limit < 10 ^ 64
limit_small = lit< tt

-- if the absolute value of `z` is at most `number_limit`, the spelling of `z` is a field. The proof uses a stage with the cap `z`
signed_field : (z : ℤ) → unsigned_abs z ≤ number_limit → IsField (signed_decimal z)
signed_field z small =
    let stage : Stage = record { weights = []; cap = z } in
    let within : reach stage ≤ 2 ^ 127 - 1 = wide (unsigned_abs z) small in
    (stage_fields 0 stage (le-leb (reach stage) (2 ^ 127 - 1) within)).1.0
  where
    wide : (n : ℕ) → n ≤ number_limit → n + 0 ≤ 2 ^ 127 - 1
    wide n h = let most : number_limit < 2 ^ 127 - 1 = lit< tt in omega arith

-- the properties of a multiplier in its ranges
record MultiplierParts (multiplier : Multiplier) : Type 0 where
  number : multiplier.number ≤ greatest_constraint
  factor : unsigned_abs multiplier.factor ≤ number_limit

multiplier_parts : (multiplier : Multiplier) → is_multiplier multiplier ≡ true → MultiplierParts multiplier
multiplier_parts multiplier is =
    let A = leb multiplier.number greatest_constraint in let B = ltb 0 (unsigned_abs multiplier.factor) in
    let parts = and_parts (A && B) (leb (unsigned_abs multiplier.factor) number_limit) is in
    record {
      number = leb-true multiplier.number greatest_constraint (and_parts A B parts.0).0;
      factor = leb-true (unsigned_abs multiplier.factor) number_limit parts.1;
    }

multipliers_are_fields : (multipliers : List Multiplier) → list_all is_multiplier multipliers ≡ true → AllByRecursion IsField (flat_map multiplier_fields multipliers)
multipliers_are_fields [] h = tt
multipliers_are_fields (multiplier ∷ multipliers) h =
    let parts = and_parts (is_multiplier multiplier) (list_all is_multiplier multipliers) h in
    let known = multiplier_parts multiplier parts.0 in
    let few = known.number in
    (decimal_field multiplier.number (omega arith), (signed_field multiplier.factor known.factor, multipliers_are_fields multipliers parts.1))

multipliers_again : (multipliers : List Multiplier) → list_all is_multiplier multipliers ≡ true → multipliers_of (flat_map multiplier_fields multipliers) ≡ Some multipliers
multipliers_again [] h = refl
multipliers_again (multiplier ∷ multipliers) h =
    let parts = and_parts (is_multiplier multiplier) (list_all is_multiplier multipliers) h in
    let known = multiplier_parts multiplier parts.0 in
    let few = known.number in let small = known.factor in let wide = limit_small in
    let rest = multipliers_of (flat_map multiplier_fields multipliers) in
    ap (λ o. with_number (multiplier_of o (signed_up_to number_limit (signed_decimal multiplier.factor))) rest) (number_again greatest_constraint multiplier.number (omega arith) few)
    ∙ ap (λ o. with_number (multiplier_of (Some multiplier.number) o) rest) (signed_again number_limit multiplier.factor (omega arith) small)
    ∙ ap (with_number (Some multiplier)) (multipliers_again multipliers parts.1)

-- the properties of a leaf in its ranges
record LeafParts (leaf : Leaf) : Type 0 where
  scale : leaf.scale ≤ number_limit
  multipliers : list_all is_multiplier leaf.multipliers ≡ true

leaf_parts : (leaf : Leaf) → is_leaf leaf ≡ true → LeafParts leaf
leaf_parts leaf is =
    let A = leb leaf.scale number_limit in let B = list_all is_multiplier leaf.multipliers in
    let parts = and_parts (A && B) (is_increasing (map (λ (multiplier : Multiplier). multiplier.number) leaf.multipliers)) is in
    let two = and_parts A B parts.0 in record { scale = leb-true leaf.scale number_limit two.0; multipliers = two.1 }

module _ (volunteers : ℕ) (small : volunteers ≤ 4000) where
  split_fields : (i : ℕ) → ltb i volunteers ≡ true → AllByRecursion IsField (codes "split" ∷ decimal i ∷ [])
  split_fields i is = let below = ltb-true i volunteers is in (plain_field (codes "split") refl, (decimal_field i (omega arith), tt))

  -- a leaf in its ranges for this pool is a leaf
  leaf_of_line : (leaf : Leaf) → is_tree_line volunteers (OfLeaf leaf) ≡ true → is_leaf leaf ≡ true
  leaf_of_line leaf is = (and_parts (is_leaf leaf) (are_constraints volunteers leaf.multipliers) is).0

  leaf_fields : (leaf : Leaf) → is_leaf leaf ≡ true → AllByRecursion IsField (codes "bound" ∷ decimal leaf.scale ∷ flat_map multiplier_fields leaf.multipliers)
  leaf_fields leaf is =
      let parts = leaf_parts leaf is in let most = parts.scale in let wide = limit_small in
      (plain_field (codes "bound") refl, (decimal_field leaf.scale (omega arith), multipliers_are_fields leaf.multipliers parts.multipliers))

  -- the line of a node in its ranges has no LF
  pub node_lacks_feed : (node : TreeLine) → is_tree_line volunteers node ≡ true → Lacks line_feed (node_line node)
  node_lacks_feed (OfSplit i) is = line_lacks_feed (codes "split" ∷ decimal i ∷ []) (split_fields i is)
  node_lacks_feed (OfLeaf leaf) is = line_lacks_feed (codes "bound" ∷ decimal leaf.scale ∷ flat_map multiplier_fields leaf.multipliers) (leaf_fields leaf (leaf_of_line leaf is))

  said_again : (node : TreeLine) → is_tree_line volunteers node ≡ true → node_said volunteers (fields_of (node_line node)) ≡ OfNode node
  said_again (OfSplit i) is =
      let below = ltb-true i volunteers is in
      ap (node_said volunteers) (fields_of-line_of (codes "split") (decimal i ∷ []) (each_map IsField (Lacks tab) (λ f it. it.no_tab) (codes "split" ∷ decimal i ∷ []) (split_fields i is)))
      ∙ ap (split_of volunteers) (number_again volunteers i (omega arith) (omega arith))
      ∙ ap (λ test. cond test (OfNode (OfSplit i)) Unknown) is
  said_again (OfLeaf leaf) is =
      let fields = decimal leaf.scale ∷ flat_map multiplier_fields leaf.multipliers in
      let leaf_is = leaf_of_line leaf is in
      let parts = leaf_parts leaf leaf_is in let most = parts.scale in let wide = limit_small in
      ap (node_said volunteers) (fields_of-line_of (codes "bound") fields (each_map IsField (Lacks tab) (λ f it. it.no_tab) (codes "bound" ∷ fields) (leaf_fields leaf leaf_is)))
      ∙ ap (λ n. leaf_of volunteers n (multipliers_of (flat_map multiplier_fields leaf.multipliers))) (number_again number_limit leaf.scale (omega arith) most)
      ∙ ap (leaf_of volunteers (Some leaf.scale)) (multipliers_again leaf.multipliers parts.multipliers)
      ∙ ap (λ test. cond test (OfNode (OfLeaf leaf)) Unknown) is

  -- the line of a node in its ranges is read as this node, in each tree
  pub node_again : (number last : ℕ) (node : TreeLine) → is_tree_line volunteers node ≡ true → line_in_tree volunteers number last (node_line node) ≡ OfNode node
  node_again number last (OfSplit i) is = said_again (OfSplit i) is
  node_again number last (OfLeaf leaf) is = said_again (OfLeaf leaf) is

-- inside tree `number`, if `number` is below `last` and `most_trees`, the line that begins the next tree is read as `NextTree`
pub next_again : (volunteers number last : ℕ) → number < last → number < most_trees volunteers → line_in_tree volunteers number last (tree_line (number + 1)) ≡ NextTree
next_again volunteers number last l m =
    let node = node_said volunteers (fields_of (tree_line (number + 1))) in
    let both = and_from (ltb number last) (ltb number (most_trees volunteers)) (lt-ltb number last l) (lt-ltb number (most_trees volunteers) m) in
    ap (λ test. cond test (cond (ltb number last && ltb number (most_trees volunteers)) NextTree Unknown) node) (bytes_same (tree_line (number + 1)) (tree_line (number + 1)) refl)
    ∙ ap (λ test. cond test NextTree Unknown) both

-- inside the last tree, the last line is read as `TheClose`
pub close_again : (volunteers last : ℕ) → line_in_tree volunteers last last close_line ≡ TheClose
close_again volunteers last = ap (λ test. cond test TheClose Unknown) (eq-eqb last last refl)

pub tree_lacks_feed : (number : ℕ) → number ≤ 4000 → Lacks line_feed (tree_line number)
tree_lacks_feed number few = line_lacks_feed (codes "tree" ∷ decimal number ∷ []) (plain_field (codes "tree") refl, (decimal_field number (omega arith), tt))
