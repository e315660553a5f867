-- The text of a bundle is read as this bundle.
use Rattle.std.proofs.Common.{◌≡◌, ℕ, ◌≤◌, Bool, true, false, not, cond, ltb, List, [], ◌∷◌, ◌++◌, length, drop, map, refl, sym, ◌∙◌, ap, subst, append_assoc, Some, None, unwrap_or}
use Rattle.std.specs.Prelude.{codes, Ok, is_some}
use Rattle.std.specs.Fmt.{decimal, signed_decimal}
use Rattle.std.specs.List.{list_all}
use Rattle.std.proofs.lemmas.Bool.{and_parts, leb-true, false≢true}
use Rattle.std.proofs.lemmas.List.{append-nil}
use Rattle.define_pools.specs.Pool.{Pool, IsPool, most_volunteers}
use Rattle.define_pools.specs.declared.Limits.TheVariants.{Large}
use Rattle.define_pools.specs.Building.{lowest_kind}
use Rattle.define_pools.specs.Lottery.{Lottery, LotteryRow}
use Rattle.define_pools.specs.Certificate.{Answer, Stage}
use Rattle.define_lines.specs.Lines.{line_feed, fields_of}
use Rattle.define_lines.proofs.LineByLine as reading
use Rattle.define_lines.proofs.LineLemmas.{Lacks}
use Rattle.define_lines.proofs.FieldLemmas.{plain_field, line_lacks_feed}
use Rattle.define_lines.proofs.NumberLemmas.{bytes_same}
use Rattle.define_bundles.specs.declared.Passed.{Passed}
use Rattle.define_bundles.specs.declared.Version.{Version}
use Rattle.define_bundles.specs.declared.Version.TheVariants.{First, Second, Third}
use Rattle.define_bundles.specs.PoolText.{version_line, version_of}
use Rattle.define_bundles.specs.PoolReading as pools
use Rattle.define_bundles.proofs.PoolReadAgain as pool_again
use Rattle.define_bundles.specs.Ranges.{IsInRanges, is_weight, is_row, is_stage}
use Rattle.define_bundles.specs.BundleText.{Bundle, IsBundle, bundle_line, pool_lines, total_line, panel_line, stage_line, done_line, answer_lines, lines_before_done, bundle_spelling}
use Rattle.define_bundles.specs.BundleReading.{Progress, Begun, InPool, InRows, InStages, Done, AnswerLine, OfRow, OfStage, TheDone, said_of, row_kinds, stage_kinds, after_row, after_stage, read_bundle, reader}
use Rattle.define_bundles.proofs.AnswerLines.{row_fields, row_again, stage_fields, stage_again, done_again, total_fields, total_again}

-- no line has an LF or a fault, and reading the lines leads from the first progress to the second
abbrev pub Runs : Progress → List (List ℕ) → Progress → Type 0
Runs = reading.Runs reader

-- ---- the pool's lines

abbrev IsBehindFirst : pools.Progress → Type 0
IsBehindFirst pools.Begun = ⊥
IsBehindFirst (pools.Versioned version) = Unit {0}
IsBehindFirst (pools.Inside pool passed) = Unit {0}
IsBehindFirst (pools.Ended pool) = Unit {0}

behind_entry : (pool : Pool) (passed : Passed) (entry : pools.Entry) → IsBehindFirst (pools.after_entry pool passed entry)
behind_entry pool passed (pools.OfCategory name) = tt
behind_entry pool passed (pools.OfValue value) = tt
behind_entry pool passed (pools.OfVolunteer id names) = tt
behind_entry pool passed (pools.OfHousehold id name) = tt
behind_entry pool passed (pools.OfStanding standing id) = tt
behind_entry pool passed pools.TheEnd = tt
behind_entry pool passed pools.Unknown = tt

-- if lines after a pool's first line lead to the pool's end, they do so in a bundle too
inside_runs : (version : Version) (progress : pools.Progress) (lines : List (List ℕ)) (pool : Pool) → IsBehindFirst progress → pool_again.Runs progress lines (pools.Ended pool) →
    Runs (InPool version progress) lines (InPool version (pools.Ended pool))
inside_runs version progress [] pool behind h = ap (InPool version) h
inside_runs version pools.Begun (line ∷ lines) pool behind h = absurd behind
inside_runs version (pools.Versioned said) (line ∷ lines) pool behind h = (h.0, h.1, inside_runs version (pools.after_line (pools.Versioned said) line) lines pool tt h.2)
inside_runs version (pools.Inside other passed) (line ∷ lines) pool behind h =
    (h.0, h.1, inside_runs version (pools.after_line (pools.Inside other passed) line) lines pool (behind_entry other passed (pools.entry_of (fields_of line))) h.2)
inside_runs version (pools.Ended other) (line ∷ lines) pool behind h = let e = h.1 in cc

-- in a bundle, all lines of its pool lead to the pool's end
pool_runs : (pool : Pool) → IsPool pool → Runs (InPool (version_of pool) pools.Begun) (pool_lines pool) (InPool (version_of pool) (pools.Ended pool))
pool_runs pool is =
    let version = version_of pool in
    let runs = pool_again.pool_runs pool is in (
      runs.0,
      ap (λ test. cond (not test) (Some 1) None) (bytes_same (version_line version) (version_line version) refl),
      inside_runs version (pools.after_line pools.Begun (version_line version)) (drop 1 (pool_lines pool)) pool tt runs.2,
    )

-- the first line of a bundle leads to the lines of its pool, in the same version
bundle_runs : (version : Version) (lines : List (List ℕ)) (after : Progress) → Runs (InPool version pools.Begun) lines after → Runs Begun (bundle_line version ∷ lines) after
bundle_runs First lines after runs = (line_lacks_feed (codes "bundle" ∷ codes "1" ∷ []) (plain_field (codes "bundle") refl, (plain_field (codes "1") refl, tt)), refl, runs)
bundle_runs Second lines after runs = (line_lacks_feed (codes "bundle" ∷ codes "2" ∷ []) (plain_field (codes "bundle") refl, (plain_field (codes "2") refl, tt)), refl, runs)
bundle_runs Third lines after runs = (line_lacks_feed (codes "bundle" ∷ codes "3" ∷ []) (plain_field (codes "bundle") refl, (plain_field (codes "3") refl, tt)), refl, runs)

-- ---- the answer's lines

module _ (pool : Pool) (few : length pool.volunteers ≤ 4000) where
  -- if a line after the total says `said`, and has no fault, the reading goes on from the progress after it
  run_row : (lottery : Lottery) (line : List ℕ) (said : AnswerLine) (lines : List (List ℕ)) (after : Progress) → Lacks line_feed line → said_of pool line ≡ said →
      lowest_kind (row_kinds (ltb 0 (length lottery.rows)) said) ≡ None → Runs (after_row pool lottery said) lines after → Runs (InRows pool lottery) (line ∷ lines) after
  run_row lottery line said lines after lacks e none rest =
      (lacks, ap (λ s. lowest_kind (row_kinds (ltb 0 (length lottery.rows)) s)) e ∙ none, subst (λ s. Runs (after_row pool lottery s) lines after) (sym e) rest)

  run_stage : (answer : Answer) (line : List ℕ) (said : AnswerLine) (lines : List (List ℕ)) (after : Progress) → Lacks line_feed line → said_of pool line ≡ said →
      lowest_kind (stage_kinds said) ≡ None → Runs (after_stage pool answer said) lines after → Runs (InStages pool answer) (line ∷ lines) after
  run_stage answer line said lines after lacks e none rest =
      (lacks, ap (λ s. lowest_kind (stage_kinds s)) e ∙ none, subst (λ s. Runs (after_stage pool answer s) lines after) (sym e) rest)

  lottery_of : ℕ → List LotteryRow → Lottery
  lottery_of total rows = record { total = total; rows = rows }

  answer_of : Lottery → List Stage → Answer
  answer_of lottery stages = record { lottery = lottery; stages = stages }

  rows_run : (total : ℕ) (done todo : List LotteryRow) → list_all (is_row (length pool.volunteers)) todo ≡ true →
      Runs (InRows pool (record { total = total; rows = done })) (map panel_line todo) (InRows pool (record { total = total; rows = done ++ todo }))
  rows_run total done [] are = ap (λ rows. InRows pool (record { total = total; rows = rows })) (sym (append-nil done))
  rows_run total done (row ∷ todo) are =
      let parts = and_parts (is_row (length pool.volunteers) row) (list_all (is_row (length pool.volunteers)) todo) are in
      let rest = rows_run total (done ++ row ∷ []) todo parts.1 in
      let regrouped : (done ++ row ∷ []) ++ todo ≡ done ++ row ∷ todo = append_assoc done (row ∷ []) todo in
      let after = InRows pool (record { total = total; rows = done ++ row ∷ todo }) in
      run_row (record { total = total; rows = done }) (panel_line row) (OfRow row) (map panel_line todo) after
      (line_lacks_feed (codes "panel" ∷ decimal row.weight ∷ map decimal row.panel) (row_fields (length pool.volunteers) few row parts.0))
      (row_again (length pool.volunteers) few row parts.0) refl
      (subst (λ rows. Runs (InRows pool (record { total = total; rows = done ++ row ∷ [] })) (map panel_line todo) (InRows pool (record { total = total; rows = rows }))) regrouped rest)

  stages_run : (lottery : Lottery) (done todo : List Stage) → list_all (is_stage (length pool.volunteers)) todo ≡ true →
      Runs (InStages pool (record { lottery = lottery; stages = done })) (map stage_line todo) (InStages pool (record { lottery = lottery; stages = done ++ todo }))
  stages_run lottery done [] are = ap (λ stages. InStages pool (record { lottery = lottery; stages = stages })) (sym (append-nil done))
  stages_run lottery done (stage ∷ todo) are =
      let parts = and_parts (is_stage (length pool.volunteers) stage) (list_all (is_stage (length pool.volunteers)) todo) are in
      let rest = stages_run lottery (done ++ stage ∷ []) todo parts.1 in
      let regrouped : (done ++ stage ∷ []) ++ todo ≡ done ++ stage ∷ todo = append_assoc done (stage ∷ []) todo in
      let after = InStages pool (record { lottery = lottery; stages = done ++ stage ∷ todo }) in
      run_stage (record { lottery = lottery; stages = done }) (stage_line stage) (OfStage stage) (map stage_line todo) after
      (line_lacks_feed (codes "stage" ∷ signed_decimal stage.cap ∷ map signed_decimal stage.weights) (stage_fields (length pool.volunteers) stage parts.0))
      (stage_again (length pool.volunteers) stage parts.0) refl
      (subst (λ stages. Runs (InStages pool (record { lottery = lottery; stages = done ++ stage ∷ [] })) (map stage_line todo) (InStages pool (record { lottery = lottery; stages = stages }))) regrouped rest)

  -- reading the lines of all stages leads to the progress that has all stages
  all_stages_run : (lottery : Lottery) (stages : List Stage) → ltb 0 (length lottery.rows) ≡ true → ltb 0 (length stages) ≡ true → list_all (is_stage (length pool.volunteers)) stages ≡ true →
      Runs (InRows pool lottery) (map stage_line stages) (InStages pool (record { lottery = lottery; stages = stages }))
  all_stages_run lottery [] some_row some are = absurd (false≢true some)
  all_stages_run lottery (stage ∷ stages) some_row some are =
      let parts = and_parts (is_stage (length pool.volunteers) stage) (list_all (is_stage (length pool.volunteers)) stages) are in
      run_row lottery (stage_line stage) (OfStage stage) (map stage_line stages) (InStages pool (record { lottery = lottery; stages = stage ∷ stages }))
      (line_lacks_feed (codes "stage" ∷ signed_decimal stage.cap ∷ map signed_decimal stage.weights) (stage_fields (length pool.volunteers) stage parts.0))
      (stage_again (length pool.volunteers) stage parts.0) (ap (λ behind. cond (not behind) (Some 15) None) some_row) (stages_run lottery (stage ∷ []) stages parts.1)

  total_runs : (total : ℕ) (lines : List (List ℕ)) (after : Progress) → is_weight total ≡ true → Runs (InRows pool (record { total = total; rows = [] })) lines after →
      Runs (InPool (version_of pool) (pools.Ended pool)) (total_line total ∷ lines) after
  total_runs total lines after is rest =
      let again = total_again total is in (
        line_lacks_feed (codes "total" ∷ decimal total ∷ []) (total_fields total is),
        ap (λ o. cond (not (is_some o)) (Some 14) None) again,
        subst (λ o. Runs (InRows pool (record { total = unwrap_or o 0; rows = [] })) lines after) (sym again) rest,
      )

  -- reading the lines of an answer leads to the bundle's end
  answer_runs : (answer : Answer) → IsInRanges pool answer →
      Runs (InPool (version_of pool) (pools.Ended pool)) (answer_lines answer ++ done_line ∷ []) (Done (record { pool = pool; answer = answer }))
  answer_runs answer is =
      let lottery = answer.lottery in
      let bundle : Bundle = record { pool = pool; answer = answer } in
      let rows = rows_run lottery.total [] lottery.rows is.rows in
      let stages = all_stages_run lottery answer.stages is.some_row is.some_stage is.stages in
      let both = reading.Runs-append reader (InRows pool (record { total = lottery.total; rows = [] })) (InRows pool lottery) (InStages pool answer) (map panel_line lottery.rows) (map stage_line answer.stages) rows stages in
      let last = run_stage answer done_line TheDone [] (Done bundle) (plain_field (codes "done") refl).no_feed (done_again (length pool.volunteers)) refl refl in
      let all = reading.Runs-append reader (InRows pool (record { total = lottery.total; rows = [] })) (InStages pool answer) (Done bundle) (map panel_line lottery.rows ++ map stage_line answer.stages) (done_line ∷ []) both last in
      total_runs lottery.total ((map panel_line lottery.rows ++ map stage_line answer.stages) ++ done_line ∷ []) (Done bundle) is.total all

-- reading the lines of a bundle leads to its end
pub runs : (bundle : Bundle) → IsBundle bundle → Runs Begun (lines_before_done bundle.pool bundle.answer ++ done_line ∷ []) (Done bundle)
runs bundle is =
    let pool = bundle.pool in
    let version = version_of pool in
    let few = leb-true (length pool.volunteers) (most_volunteers Large) is.is_pool.few_volunteers in
    let answer = answer_runs pool few bundle.answer is.in_ranges in
    let all = reading.Runs-append reader (InPool version pools.Begun) (InPool version (pools.Ended pool)) (Done bundle) (pool_lines pool) (answer_lines bundle.answer ++ done_line ∷ []) (pool_runs pool is.is_pool) answer in
    bundle_runs version ((pool_lines pool ++ answer_lines bundle.answer) ++ done_line ∷ []) (Done bundle)
    (subst (λ lines. Runs (InPool version pools.Begun) lines (Done bundle)) (sym (append_assoc (pool_lines pool) (answer_lines bundle.answer) (done_line ∷ []))) all)

-- the spelling of a bundle is read as this bundle
pub spelled_is_read : (bundle : Bundle) → IsBundle bundle → read_bundle (bundle_spelling bundle) ≡ Ok bundle
spelled_is_read bundle is =
    let lines = lines_before_done bundle.pool bundle.answer ++ done_line ∷ [] in
    let all = runs bundle is in
    reading.text_is_read reader (Done bundle) bundle (λ number. refl) 1 Begun lines all
