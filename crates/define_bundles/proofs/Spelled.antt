-- Lines that are read without a fault are those of the bundle that is read.
use Rattle.std.proofs.Common.{◌≡◌, ℕ, Bool, true, false, not, ◌||◌, cond, ltb, List, [], ◌∷◌, ◌++◌, length, map, refl, sym, ◌∙◌, ap, subst, append_assoc, arith, Option, Some, None, unwrap_or}
use Rattle.std.specs.Prelude.{bytes_eq, Ok, is_some}
use Rattle.std.specs.List.{list_all}
use Rattle.std.proofs.lemmas.Bool.{not-false, lt-ltb, false≢true}
use Rattle.std.proofs.lemmas.List.{append-nil, map-append}
use Rattle.define_pools.proofs.Each.{list_all-push}
use Rattle.define_pools.specs.Pool.{Pool, IsPool}
use Rattle.define_pools.specs.Lottery.{Lottery}
use Rattle.define_pools.specs.Certificate.{Answer, Stage}
use Rattle.define_pools.specs.Building.{lowest_kind}
use Rattle.define_pools.proofs.BuildingLemmas.{no_kind}
use Rattle.define_lines.specs.Lines.{text_of, fields_of}
use Rattle.define_lines.proofs.LineByLine as reading
use Rattle.define_lines.proofs.NumberLemmas.{bytes_are}
use Rattle.define_bundles.specs.declared.Passed.{Passed}
use Rattle.define_bundles.specs.declared.Version.{Version}
use Rattle.define_bundles.specs.declared.Version.TheVariants.{First, Second, Third}
use Rattle.define_bundles.specs.PoolText.{version_line, version_of}
use Rattle.define_bundles.specs.PoolReading as pools
use Rattle.define_bundles.proofs.LowestKinds.{encoding_kind, line_kind_of}
use Rattle.define_bundles.proofs.PoolSpelled as pool_lines_read
use Rattle.define_bundles.proofs.PoolSpelled.{neither, own_version}
use Rattle.define_bundles.specs.Ranges.{is_weight, is_row, is_stage}
use Rattle.define_bundles.specs.BundleText.{Bundle, IsBundle, bundle_line, pool_lines, total_line, panel_line, stage_line, done_line, lines_before_done, bundle_spelling}
use Rattle.define_bundles.specs.BundleReading.{Progress, Begun, InPool, InRows, InStages, Done, AnswerLine, OfRow, OfStage, FaultyStage, TheDone, Unknown, total_of, said_of, row_kinds, stage_kinds, is_bundle_line, line_kind, after_row, after_stage, after_line, at_last, read_bundle, reader}
use Rattle.define_bundles.proofs.AnswerLines.{IsSpelled, answer_spelled, total_spelled}

-- the pool's lines so far are of this version
abbrev pub IsOfVersion : Version → pools.Progress → Type 0
IsOfVersion version pools.Begun = Unit {0}
IsOfVersion version (pools.Versioned said) = said ≡ version
IsOfVersion version (pools.Inside pool passed) = passed.version ≡ version
IsOfVersion version (pools.Ended pool) = version_of pool ≡ version

-- the pool, the total and the rows so far keep their ranges
pub record AreRightRows (pool : Pool) (lottery : Lottery) : Type 0 where
  pub is_pool : IsPool pool
  pub total : is_weight lottery.total ≡ true
  pub rows : list_all (is_row (length pool.volunteers)) lottery.rows ≡ true

-- a progress is right: the pool so far is right, and the rows so far, the answer or the bundle keep their ranges
abbrev pub IsRight : Progress → Type 0
IsRight Begun = Unit {0}
IsRight (InPool version progress) = pool_lines_read.IsRight progress × IsOfVersion version progress
IsRight (InRows pool lottery) = AreRightRows pool lottery
IsRight (InStages pool answer) = IsBundle (record { pool = pool; answer = answer })
IsRight (Done bundle) = IsBundle bundle

-- the lines that led to a progress
abbrev pub lines_so_far : Progress → List (List ℕ)
lines_so_far Begun = []
lines_so_far (InPool version progress) = bundle_line version ∷ pool_lines_read.lines_so_far progress
lines_so_far (InRows pool lottery) = bundle_line (version_of pool) ∷ (pool_lines pool ++ (total_line lottery.total ∷ map panel_line lottery.rows))
lines_so_far (InStages pool answer) = lines_before_done pool answer
lines_so_far (Done bundle) = lines_before_done bundle.pool bundle.answer ++ done_line ∷ []

-- `after` is right, and its lines so far are those of `progress`, then `line`
abbrev Adds : Progress → List ℕ → Progress → Type 0
Adds progress line after = IsRight after × (lines_so_far after ≡ lines_so_far progress ++ line ∷ [])

-- an entry doesn't change the version
version_stays : (pool : Pool) (passed : Passed) (entry : pools.Entry) → pool_lines_read.IsRightInside pool passed → pools.entry_kind pool passed entry ≡ None → (version : Version) → passed.version ≡ version →
    IsOfVersion version (pools.after_entry pool passed entry)
version_stays pool passed (pools.OfCategory name) right h version e = e
version_stays pool passed (pools.OfValue value) right h version e = e
version_stays pool passed (pools.OfVolunteer id names) right h version e = e
version_stays pool passed (pools.OfHousehold id name) right h version e = e
version_stays pool passed (pools.OfStanding standing id) right h version e = e
version_stays pool passed pools.TheEnd right h version e = own_version pool passed right (no_kind (pools.awaits_household passed || pools.awaits_volunteers pool passed) 1 None h).0 ∙ e
version_stays pool passed pools.Unknown right h version e = e

-- a line of the pool without a fault keeps the progress right, and becomes the last of the lines so far
in_pool : (version : Version) (progress : pools.Progress) (line : List ℕ) → IsRight (InPool version progress) → pools.line_kind progress line ≡ None → IsOfVersion version (pools.after_line progress line) →
    Adds (InPool version progress) line (InPool version (pools.after_line progress line))
in_pool version progress line right h same =
    let step = pool_lines_read.line_adds progress line right.0 h in
    ((step.0, same), ap (λ lines. bundle_line version ∷ lines) step.1)

pool_adds : (version : Version) (progress : pools.Progress) (line : List ℕ) → IsRight (InPool version progress) → line_kind (InPool version progress) line ≡ None → Adds (InPool version progress) line (after_line (InPool version progress) line)
pool_adds version pools.Begun line right h =
    let same = bytes_are line (version_line version) (not-false (bytes_eq line (version_line version)) (no_kind (not (bytes_eq line (version_line version))) 1 None h).0) in
    subst (λ l. Adds (InPool version pools.Begun) l (InPool version (pools.after_line pools.Begun l))) (sym same) (in_pool version pools.Begun (version_line version) right (right_version version) (is_version version))
  where
    right_version : (version : Version) → pools.line_kind pools.Begun (version_line version) ≡ None
    right_version First = refl
    right_version Second = refl
    right_version Third = refl

    is_version : (version : Version) → pools.version_said (version_line version) ≡ version
    is_version First = refl
    is_version Second = refl
    is_version Third = refl
pool_adds version (pools.Versioned said) line right h = in_pool version (pools.Versioned said) line right h right.1
pool_adds version (pools.Inside pool passed) line right h =
    let none = (neither (pools.entry_kind pool passed (pools.entry_of (fields_of line))) (encoding_kind line) (sym (line_kind_of pool passed line) ∙ h)).0 in
    in_pool version (pools.Inside pool passed) line right h (version_stays pool passed (pools.entry_of (fields_of line)) right.0 none version right.1)
pool_adds version (pools.Ended pool) line right h = given (total_of (fields_of line)) refl (no_kind (not (is_some (total_of (fields_of line)))) 14 None h).0
  where
    given : (total : Option ℕ) → total_of (fields_of line) ≡ total → not (is_some total) ≡ false → Adds (InPool version (pools.Ended pool)) line (InRows pool (record { total = unwrap_or (total_of (fields_of line)) 0; rows = [] }))
    given None e k = absurd (false≢true (sym k))
    given (Some total) e k =
        let spelled = total_spelled line total e in
        let known : unwrap_or (total_of (fields_of line)) 0 ≡ total = ap (λ o. unwrap_or o 0) e in
        let right_rows : IsRight (InRows pool (record { total = total; rows = [] })) = record { is_pool = right.0; total = spelled.1; rows = refl } in
        let lines : lines_so_far (InRows pool (record { total = total; rows = [] })) ≡ lines_so_far (InPool version (pools.Ended pool)) ++ line ∷ [] =
        ap (λ said. bundle_line said ∷ (pool_lines pool ++ total_line total ∷ [])) right.1 ∙ ap (λ l. bundle_line version ∷ (pool_lines pool ++ l ∷ [])) (sym spelled.0) in
        subst (λ t. Adds (InPool version (pools.Ended pool)) line (InRows pool (record { total = t; rows = [] }))) (sym known) (right_rows, lines)

-- a line without a fault that follows the total or a panel line keeps the progress right, and becomes the last of the lines so far
row_adds : (pool : Pool) (lottery : Lottery) (line : List ℕ) (said : AnswerLine) → IsRight (InRows pool lottery) → IsSpelled (length pool.volunteers) line said →
    lowest_kind (row_kinds (ltb 0 (length lottery.rows)) said) ≡ None → Adds (InRows pool lottery) line (after_row pool lottery said)
row_adds pool lottery line (OfRow row) right spelled h =
    let first = bundle_line (version_of pool) in
    let total = total_line lottery.total in
    let rows = map panel_line lottery.rows in (
      record { is_pool = right.is_pool; total = right.total; rows = list_all-push (is_row (length pool.volunteers)) lottery.rows row right.rows spelled.1 },
      ap (λ lines. first ∷ (pool_lines pool ++ (total ∷ lines))) (map-append panel_line lottery.rows (row ∷ []) ∙ ap (λ l. rows ++ l ∷ []) (sym spelled.0))
          ∙ ap (λ lines. first ∷ lines) (sym (append_assoc (pool_lines pool) (total ∷ rows) (line ∷ []))),
    )
row_adds pool lottery line (OfStage stage) right spelled h =
    let first = bundle_line (version_of pool) in
    let total = total_line lottery.total in
    let rows = map panel_line lottery.rows in
    let some = not-false (ltb 0 (length lottery.rows)) (no_kind (not (ltb 0 (length lottery.rows))) 15 None h).0 in (
      record {
        is_pool = right.is_pool;
        in_ranges = record { total = right.total; some_row = some; rows = right.rows; some_stage = refl; stages = list_all-push (is_stage (length pool.volunteers)) [] stage refl spelled.1 };
      },
      ap (λ l. first ∷ (pool_lines pool ++ (total ∷ (rows ++ l ∷ [])))) (sym spelled.0) ∙ ap (λ lines. first ∷ lines) (sym (append_assoc (pool_lines pool) (total ∷ rows) (line ∷ []))),
    )
row_adds pool lottery line FaultyStage right spelled h = absurd (no_way (ltb 0 (length lottery.rows)) h)
  where
    no_way : (behind : Bool) → lowest_kind (row_kinds behind FaultyStage) ≡ None → ⊥
    no_way true k = cc
    no_way false k = cc
row_adds pool lottery line TheDone right spelled h = cc
row_adds pool lottery line Unknown right spelled h = cc

-- a line without a fault that follows a stage line keeps the progress right, and becomes the last of the lines so far
stage_adds : (pool : Pool) (answer : Answer) (line : List ℕ) (said : AnswerLine) → IsRight (InStages pool answer) → IsSpelled (length pool.volunteers) line said →
    lowest_kind (stage_kinds said) ≡ None → Adds (InStages pool answer) line (after_stage pool answer said)
stage_adds pool answer line (OfRow row) right spelled h = cc
stage_adds pool answer line (OfStage stage) right spelled h =
    let first = bundle_line (version_of pool) in
    let total = total_line answer.lottery.total in
    let rows = map panel_line answer.lottery.rows in
    let stages = map stage_line answer.stages in
    let ranges = right.in_ranges in (
      record {
        is_pool = right.is_pool;
        in_ranges = record {
          total = ranges.total;
          some_row = ranges.some_row;
          rows = ranges.rows;
          some_stage = some_more answer.stages stage;
          stages = list_all-push (is_stage (length pool.volunteers)) answer.stages stage ranges.stages spelled.1;
        };
      },
      ap (λ lines. first ∷ (pool_lines pool ++ (total ∷ (rows ++ lines)))) (map-append stage_line answer.stages (stage ∷ []) ∙ ap (λ l. stages ++ l ∷ []) (sym spelled.0))
          ∙ (ap (λ lines. first ∷ (pool_lines pool ++ (total ∷ lines))) (sym (append_assoc rows stages (line ∷ [])))
          ∙ ap (λ lines. first ∷ lines) (sym (append_assoc (pool_lines pool) (total ∷ (rows ++ stages)) (line ∷ [])))),
    )
  where
    some_more : (stages : List Stage) (stage : Stage) → ltb 0 (length (stages ++ stage ∷ [])) ≡ true
    some_more [] stage = refl
    some_more (one ∷ stages) stage = lt-ltb 0 (length (one ∷ (stages ++ stage ∷ []))) (omega arith)
stage_adds pool answer line FaultyStage right spelled h = cc
stage_adds pool answer line TheDone right spelled h = (right, ap (λ l. lines_before_done pool answer ++ l ∷ []) (sym spelled))
stage_adds pool answer line Unknown right spelled h = cc

-- a line without a fault keeps the progress right, and becomes the last of the lines so far
pub line_adds : (progress : Progress) (line : List ℕ) → IsRight progress → line_kind progress line ≡ None → IsRight (after_line progress line) × (lines_so_far (after_line progress line) ≡ lines_so_far progress ++ line ∷ [])
line_adds Begun line right h =
    let some = not-false (is_bundle_line line) (no_kind (not (is_bundle_line line)) 13 None h).0 in
    ((tt, tt), ap (λ l. l ∷ []) (sym (one_of (bytes_eq line (bundle_line First)) (bytes_eq line (bundle_line Second)) (bytes_eq line (bundle_line Third)) refl refl refl some)))
  where
    one_of : (first second third : Bool) → bytes_eq line (bundle_line First) ≡ first → bytes_eq line (bundle_line Second) ≡ second → bytes_eq line (bundle_line Third) ≡ third →
        (first || second || third) ≡ true → line ≡ bundle_line (cond second Second (cond third Third First))
    one_of first true third e f g some = bytes_are line (bundle_line Second) f
    one_of first false true e f g some = bytes_are line (bundle_line Third) g
    one_of true false false e f g some = bytes_are line (bundle_line First) e
    one_of false false false e f g some = absurd (false≢true some)
line_adds (InPool version progress) line right h = pool_adds version progress line right h
line_adds (InRows pool lottery) line right h = row_adds pool lottery line (said_of pool line) right (answer_spelled (length pool.volunteers) line) h
line_adds (InStages pool answer) line right h = stage_adds pool answer line (said_of pool line) right (answer_spelled (length pool.volunteers) line) h
line_adds (Done bundle) line right h = cc

-- if the text ends with a bundle, the lines so far and the last bytes are the spelling of this bundle
last_is_spelled : (number : ℕ) (progress : Progress) (bytes : List ℕ) (bundle : Bundle) → IsRight progress → at_last number progress bytes ≡ Ok bundle →
    IsBundle bundle × (text_of (lines_so_far progress) ++ bytes ≡ bundle_spelling bundle)
last_is_spelled number Begun bytes bundle right h = cc
last_is_spelled number (InPool version progress) bytes bundle right h = cc
last_is_spelled number (InRows pool lottery) bytes bundle right h = cc
last_is_spelled number (InStages pool answer) bytes bundle right h = cc
last_is_spelled number (Done other) (byte ∷ bytes) bundle right h = cc
last_is_spelled number (Done other) [] bundle right h =
    let same : other ≡ bundle = cc in
    (subst IsBundle same right, append-nil (bundle_spelling other) ∙ ap bundle_spelling same)

-- if bytes are read as a bundle, they are its spelling
pub read_is_spelled : (bytes : List ℕ) (bundle : Bundle) → read_bundle bytes ≡ Ok bundle → IsBundle bundle × (bytes ≡ bundle_spelling bundle)
read_is_spelled bytes bundle h = reading.read_is_spelled reader IsRight lines_so_far IsBundle bundle_spelling line_adds last_is_spelled 1 Begun tt refl bytes bundle h
