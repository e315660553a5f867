-- If the lines of a tree have no fault, no composition qualifies: none attains the closed rows and exceeds the right side of the row. So a
-- check's search at the stage finds nothing, and the cap holds.
use Rattle.std.proofs.Common.{◌≡◌, ℕ, ◌+◌, Bool, true, false, cond, ◌&&◌, List, [], ◌∷◌, map, length, drop, take, Option, Some, None, refl, sym, ap, ◌∙◌, ◌⊎◌, inl, inr, subst}
use Rattle.std.specs.Prelude.{int_lt}
use Rattle.std.specs.List.{AllByRecursion, find, list_all}
use Rattle.std.proofs.lemmas.Bool.{and_from, and_parts, false≢true, false_from_ne_true}
use Rattle.define_pools.proofs.Each.{each_filter, each_map}
use Rattle.define_pools.specs.Certificate.{Stage, is_capped}
use Rattle.define_pools.specs.Pool.{Pool}
use Rattle.define_rows.specs.Row.{Row}
use Rattle.define_searches.specs.Classes.{Classes, IsSearchable}
use Rattle.define_searches.specs.Compositions.{all_counts, attains, compositions, is_composition, weight_in}
use Rattle.define_searches.specs.Fronts.{HaveEntries}
use Rattle.define_searches.proofs.BestSearch.{live_from_better}
use Rattle.define_searches.proofs.PoolClasses.{classes_in_order}
use Rattle.define_checks.specs.Caps.{alike_at, classes_at, composition_above, first_above, stage_row}
use Rattle.define_checks.proofs.PassedCaps.{capped_where_none}
use Rattle.define_checks.proofs.StageRows.{rows_have_entries}
use Rattle.define_proofs.specs.TreeLines.{fault}
use Rattle.define_searches.proofs.Tracking.{split_at}
use Rattle.define_covers.specs.Causes.{applies}
use Rattle.define_covers.specs.Covers.{FrontLine}
use Rattle.define_covers.specs.CoverVerdict.{fault_from, tree_fault}
use Rattle.define_covers.specs.CoversHold.{CoversStage}
use Rattle.define_covers.specs.FrontOrder.{are_in_order, continues, turned}
use Rattle.define_covers.proofs.Order.{After, AtOrAfter, Extends, Within, all_counts_within, begins_or_after, follows_where_continues, front_fits, rest_gives}
use Rattle.define_covers.proofs.Ruled.{not_live_where_applies}

-- ---- no fault, and fronts in order with causes that apply

module _ (all : Classes) (closed : List Row) (row : Row) where
  abbrev fronts : List FrontLine → List (List ℕ)
  fronts lines = map (λ line. line.front) lines

  abbrev applying : List FrontLine → Bool
  applying lines = list_all (λ line. applies all closed row line.front line.cause) lines

  -- the fronts are in order from a beginning on, and each cause applies
  pub record Rest (beginning : Option (List ℕ)) (lines : List FrontLine) : Type 0 where
    pub in_order : are_in_order all.classes beginning (fronts lines) ≡ true
    pub causes : applying lines ≡ true

  pub rest_where_no_fault : (number : ℕ) (beginning : Option (List ℕ)) (lines : List FrontLine) → fault_from all closed row number beginning lines ≡ None → Rest beginning lines
  rest_where_no_fault number None [] e = record { in_order = refl; causes = refl }
  rest_where_no_fault number None (line ∷ later) e = absurd cc
  rest_where_no_fault number (Some beginning) [] e = absurd cc
  rest_where_no_fault number (Some beginning) (line ∷ later) e =
      by (λ h. rest_where_no_fault (number + 1) (turned all.classes line.front) later h) (continues all.classes beginning line.front) refl (applies all closed row line.front line.cause) refl e
    where
      by : (fault_from all closed row (number + 1) (turned all.classes line.front) later ≡ None → Rest (turned all.classes line.front) later) → (c : Bool) → continues all.classes beginning line.front ≡ c → (a : Bool) → applies all closed row line.front line.cause ≡ a →
          cond c (cond a (fault_from all closed row (number + 1) (turned all.classes line.front) later) (fault number 12)) (fault number 11) ≡ None → Rest (Some beginning) (line ∷ later)
      by behind false f a g h = absurd cc
      by behind true f false g h = absurd cc
      by behind true f true g h =
          let rest = behind h in record {
            in_order = and_from (continues all.classes beginning line.front) (are_in_order all.classes (turned all.classes line.front) (fronts later)) f rest.in_order;
            causes = and_from (applies all closed row line.front line.cause) (applying later) g rest.causes;
          }

  pub no_fault_where_rest : (number : ℕ) (beginning : Option (List ℕ)) (lines : List FrontLine) → Rest beginning lines → fault_from all closed row number beginning lines ≡ None
  no_fault_where_rest number None [] rest = refl
  no_fault_where_rest number None (line ∷ later) rest = absurd (false≢true rest.in_order)
  no_fault_where_rest number (Some beginning) [] rest = absurd (false≢true rest.in_order)
  no_fault_where_rest number (Some beginning) (line ∷ later) rest =
      let order = and_parts (continues all.classes beginning line.front) (are_in_order all.classes (turned all.classes line.front) (fronts later)) rest.in_order in
      let causes = and_parts (applies all closed row line.front line.cause) (applying later) rest.causes in
      let next = no_fault_where_rest (number + 1) (turned all.classes line.front) later (record { in_order = order.1; causes = causes.1 }) in
      let f = order.0 in let g = causes.0 in
      ap (λ b. cond b (cond (applies all closed row line.front line.cause) (fault_from all closed row (number + 1) (turned all.classes line.front) later) (fault number 12)) (fault number 11)) f
      ∙ ap (λ b. cond b (fault_from all closed row (number + 1) (turned all.classes line.front) later) (fault number 12)) g ∙ next

  -- ---- what a tree covers

  module _ (entries : HaveEntries all (row ∷ closed)) where
    -- the counts attain the closed rows, and weigh more than the row's right side
    abbrev qualifies : List ℕ → Bool
    qualifies counts = attains closed counts && int_lt row.b (weight_in row.a counts)

    -- a composition doesn't qualify if it begins with a front to which a cause applies
    dead : (line : FrontLine) (counts : List ℕ) → applies all closed row line.front line.cause ≡ true → Within all.classes counts → Extends line.front counts → is_composition all counts ≡ true → qualifies counts ≡ false
    dead line counts cause within extends composes =
        let front = line.front in let rest = extends.rest in
        let here = subst (Within all.classes) extends.whole within in
        let split = split_at all front (front_fits all.classes front rest here) in
        let gives = rest_gives all.classes front rest here in
        false_from_ne_true (qualifies counts)
        (λ passes.
        let parts = and_parts (attains closed counts) (int_lt row.b (weight_in row.a counts)) passes in
        let live = live_from_better all closed row row.b (take (length front) all.classes) (drop (length front) all.classes) front rest split gives entries
        (subst (λ xs. is_composition all xs ≡ true) extends.whole composes) (subst (λ xs. attains closed xs ≡ true) extends.whole parts.0)
        (subst (λ xs. int_lt row.b (weight_in row.a xs) ≡ true) extends.whole parts.1) in
        false≢true (sym (not_live_where_applies all closed row front line.cause cause) ∙ live))

    pub none_qualify : (beginning : List ℕ) (lines : List FrontLine) → Rest (Some beginning) lines → (counts : List ℕ) → Within all.classes counts → AtOrAfter beginning counts → is_composition all counts ≡ true → qualifies counts ≡ false
    none_qualify beginning [] rest counts within at composes = absurd (false≢true rest.in_order)
    none_qualify beginning (line ∷ later) rest counts within at composes =
        let order = and_parts (continues all.classes beginning line.front) (are_in_order all.classes (turned all.classes line.front) (fronts later)) rest.in_order in
        let causes = and_parts (applies all closed row line.front line.cause) (applying later) rest.causes in
        by order.1 causes (λ next behind later_at. none_qualify next later behind counts within later_at composes)
        (begins_or_after all.classes beginning line.front counts (follows_where_continues all.classes beginning line.front order.0) within at)
      where
        by : are_in_order all.classes (turned all.classes line.front) (fronts later) ≡ true → (applies all closed row line.front line.cause ≡ true) × (applying later ≡ true) →
            ((next : List ℕ) → Rest (Some next) later → AtOrAfter next counts → qualifies counts ≡ false) → Extends line.front counts ⊎ After all.classes line.front counts → qualifies counts ≡ false
        by order causes behind (inl extends) = dead line counts causes.0 within extends composes
        by order causes behind (inr after) =
            let next = subst (λ it. are_in_order all.classes it (fronts later) ≡ true) after.next order in
            behind after.beginning (record { in_order = next; causes = causes.1 }) after.at_or_after

    none_found : (xs : List (List ℕ)) → AllByRecursion (λ counts. qualifies counts ≡ false) xs → find qualifies xs ≡ None
    none_found [] h = refl
    none_found (x ∷ xs) h = ap (λ b. cond b (Some x) (find qualifies xs)) h.0 ∙ none_found xs h.1

    pub none_above : IsSearchable all → (lines : List FrontLine) → Rest (Some []) lines → first_above all closed row ≡ None
    none_above searchable lines rest =
        none_found (compositions all)
        (each_filter (λ counts. qualifies counts ≡ false) (is_composition all) (all_counts all.classes)
        (each_map (Within all.classes) (λ counts. is_composition all counts ≡ true → qualifies counts ≡ false)
        (λ counts within composes. none_qualify [] lines rest counts within tt composes) (all_counts all.classes) (all_counts_within all.classes searchable.in_order)))

-- ---- at a stage

module _ (pool : Pool) (earlier : List Stage) (stage : Stage) (lines : List FrontLine) where
  abbrev all : Classes
  all = classes_at pool (stage ∷ earlier)

  abbrev closed : List Row
  closed = map (stage_row pool (stage ∷ earlier)) earlier

  abbrev row : Row
  row = stage_row pool (stage ∷ earlier) stage

  pub covers_where_no_fault : (number : ℕ) → tree_fault pool earlier stage number lines ≡ None → CoversStage pool earlier stage lines
  covers_where_no_fault number e = let rest = rest_where_no_fault all closed row number (Some []) lines e in record { in_order = rest.in_order; causes = rest.causes }

  pub no_fault_where_covers : (number : ℕ) → CoversStage pool earlier stage lines → tree_fault pool earlier stage number lines ≡ None
  no_fault_where_covers number covers = no_fault_where_rest all closed row number (Some []) lines (record { in_order = covers.in_order; causes = covers.causes })

  pub none_where_covered : CoversStage pool earlier stage lines → composition_above pool earlier stage ≡ None
  none_where_covered covers =
      none_above all closed row (rows_have_entries pool (stage ∷ earlier) (stage ∷ earlier)) (classes_in_order pool (alike_at pool (stage ∷ earlier))) lines
      (record { in_order = covers.in_order; causes = covers.causes })

  pub capped_where_covered : CoversStage pool earlier stage lines → is_capped pool earlier stage ≡ true
  capped_where_covered covers = capped_where_none pool earlier stage (none_where_covered covers)
