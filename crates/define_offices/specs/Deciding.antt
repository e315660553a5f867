-- The outcome of each command. It is decided by the tables and the command alone, except for a solve of an open round: that is decided by
-- the stated run over the round's pool.
use Rattle.std.specs.Prelude.{ℕ, zero, suc, ◌+◌, ◌==◌, nat_le, if◌then◌else◌, Bool, true, false, not, ◌&&◌, List, [], ◌∷◌, ◌++◌, length, codes, bytes_eq, Option, Some, None, Result, Ok, Err}
use Rattle.std.specs.List.{find, list_all}
use Rattle.define_lines.specs.Lines.{text_of}
use Rattle.define_pools.specs.declared.Standing.{Standing}
use Rattle.define_pools.specs.declared.Standing.TheVariants as standing
use Rattle.define_pools.specs.Building.{are_known}
use Rattle.define_pools.specs.Certificate.{Answer}
use Rattle.define_pools.specs.Lists.{includes_list}
use Rattle.define_pools.specs.Pool.{Category, Pool, volunteer}
use Rattle.define_bundles.specs.BundleText.{Bundle, bundle_spelling}
use Rattle.define_draws.specs.declared.DiceStop.TheVariants as dice
use Rattle.define_draws.specs.Draw as draws
use Rattle.define_draws.specs.Seal.{is_seal, seal_of}
use Rattle.define_bundles.specs.PoolText.{spelling}
use Rattle.define_checks.specs.Reasons as reasons
use Rattle.define_checks.specs.Reasons.{Verdict}
use Rattle.define_proofs.specs.ProofVerdict.{OfLottery, OfNoPanel, Proof, verdict}
use Rattle.define_runs.specs.Run as run
use Rattle.define_runs.specs.Run.{Ending}
use Rattle.define_offices.specs.declared.Part.TheVariants as part
use Rattle.define_offices.specs.declared.Phase.TheVariants as phase
use Rattle.define_offices.specs.Tables.{Charter, Entry, Round, Open, Solved, Sealed, Drawn, Tables, is_enrolling, last_phase, most_rows, named_round, same_charter, same_household, same_names, same_rules, same_shape}
use Rattle.define_offices.specs.Commands.{Given, Command, SetCharter, SetRules, Register, Solve, Keep, Seal, Draw, Drop, NextRound, Show, Withdraw, SetBounds, TryDraw, Undrop, Reopen, WithdrawId, Change, CharterSet, RulesSet, Added, SolvedWith, SealTold, DrawnWith, DroppedOut, Begun, Withdrawn, BoundsSet, TakenBack, Reopened, Reply, Lines, NoPanel, Refusal, NoRound, Incomplete, WrongPhase, RowDiffers, KeyTaken, RegisterFull, NotSealed, SealDiffers, DrawDiffers, BadDigit, MoreDigits, NotSeated, RoundClosed, OtherPool, UnknownKey, TooLate, TicketsDiffer, NotDropped, UnknownId, Outcome, Replies, Refuses, Stops, Unproved}
use Rattle.define_offices.specs.Lines.{charter_line, dropped_line, one_line, register_line, reopened_line, round_line, rules_line, solved_line, undropped_line, withdrawn_line}
use Rattle.define_draws.specs.Lines.{bundle_seal, drawn_lines, member_ids, seal_line}
use Rattle.define_offices.specs.Pools.{drawn_lottery, drawn_of, pool_of}

-- a reply of one line, with no change
abbrev pub tells : List ℕ → Outcome
tells line = Replies None (one_line line)

-- a reply of one line, with a change
abbrev pub changes : Change → List ℕ → Outcome
changes change line = Replies (Some change) (one_line line)

-- ---- charter and rules

abbrev pub is_charter_kept : Option Charter → Charter → Bool
is_charter_kept None charter = false
is_charter_kept (Some kept) charter = same_charter kept charter

-- the row at a place, counted from 0, if there is one: the first row that a register of `place` rows has no room for
abbrev pub row_beyond : List Entry → ℕ → Option Entry
row_beyond [] place = None
row_beyond (entry ∷ register) zero = Some entry
row_beyond (entry ∷ register) (suc place) = row_beyond register place

-- a charter is set, unless the register has more rows than it takes under this charter. The last argument is the first row beyond
abbrev pub charter_over : Charter → Option Entry → Outcome
charter_over charter None = changes (CharterSet charter) (charter_line (codes "set"))
charter_over charter (Some entry) = Refuses (RowDiffers entry.id)

abbrev pub decide_charter : Tables → Charter → Outcome
decide_charter tables charter =
    if is_charter_kept tables.charter charter then tells (charter_line (codes "same"))
    else if is_enrolling tables.rounds then charter_over charter (row_beyond tables.register charter.volunteers)
    else Refuses (WrongPhase (last_phase tables.rounds))

abbrev pub are_rules_kept : Option (List Category) → List Category → Bool
are_rules_kept None rules = false
are_rules_kept (Some kept) rules = same_rules kept rules

-- the register is empty, or `rules` have the same names of categories and values, in the same order, as the rules that are kept
abbrev pub fit_rows : List Entry → Option (List Category) → List Category → Bool
fit_rows [] kept rules = true
fit_rows (entry ∷ register) None rules = false
fit_rows (entry ∷ register) (Some kept) rules = same_shape kept rules

abbrev pub decide_rules : Tables → List Category → Outcome
decide_rules tables rules =
    if are_rules_kept tables.rules rules then tells (rules_line (codes "same"))
    else if not (is_enrolling tables.rounds) then Refuses (WrongPhase (last_phase tables.rounds))
    else if fit_rows tables.register tables.rules rules then changes (RulesSet rules) (rules_line (codes "set"))
    else Refuses (RowDiffers (codes "rules"))

-- ---- the register

-- there is one value for each category, and each is a value of its category
abbrev pub fits_rules : List Category → List (List ℕ) → Bool
fits_rules categories values = (length values == length categories) && are_known categories values

-- the register's row for an imported row
abbrev pub entry_of : Given → Entry
entry_of given = record { id = given.id; hash = seal_of given.key; values = given.values; household = given.household; withdrawn = false }

-- the first row with the id `id`, if there is one
abbrev pub with_id : List Entry → List ℕ → Option Entry
with_id register id = find (λ entry. bytes_eq id entry.id) register

-- the first row with the digest `hash` of a key, if there is one
abbrev pub with_hash : List Entry → List ℕ → Option Entry
with_hash register hash = find (λ entry. bytes_eq hash entry.hash) register

-- `entry` has the key's digest, the values and the household of `given`
abbrev pub is_kept_so : Entry → Given → Bool
is_kept_so entry given = bytes_eq (seal_of given.key) entry.hash && same_names given.values entry.values && same_household given.household entry.household

-- what an import does with a row: it adds the row, counts it as repeated, or refuses it
pub data RowCase : Type 0 where
  IsNew : RowCase
  IsRepeated : RowCase
  IsRefused : (refusal : Refusal) → RowCase

-- what an import does with a row whose id is new, if the register takes `most` rows. The last argument is the row of the register with the
-- same key, if there is one
abbrev pub new_row : ℕ → List Round → List Entry → Option Entry → RowCase
new_row most rounds register (Some other) = IsRefused (KeyTaken other.id)
new_row most rounds register None =
    if not (is_enrolling rounds) then IsRefused (WrongPhase (last_phase rounds))
    else if nat_le most (length register) then IsRefused (RegisterFull most)
    else IsNew

-- what an import does with a row. The last argument is the row of the register with the same id, if there is one
abbrev pub row_case : ℕ → List Round → List Entry → Given → Option Entry → RowCase
row_case most rounds register given (Some entry) = if is_kept_so entry given then IsRepeated else IsRefused (RowDiffers given.id)
row_case most rounds register given None = new_row most rounds register (with_hash register (seal_of given.key))

-- the rows that an import adds, and how many of its rows the register had already
pub record Sorted : Type 0 where
  pub added : List Entry
  pub repeated : ℕ

abbrev pub one_more_added : Entry → Result Sorted Refusal → Result Sorted Refusal
one_more_added entry (Ok later) = Ok (record { added = entry ∷ later.added; repeated = later.repeated })
one_more_added entry (Err refusal) = Err refusal

abbrev pub one_more_repeated : Result Sorted Refusal → Result Sorted Refusal
one_more_repeated (Ok later) = Ok (record { added = later.added; repeated = later.repeated + 1 })
one_more_repeated (Err refusal) = Err refusal

-- the register after an import took a row
abbrev pub register_after : RowCase → List Entry → Given → List Entry
register_after IsNew register given = register ++ entry_of given ∷ []
register_after IsRepeated register given = register
register_after (IsRefused refusal) register given = register

-- the result for a row and the rows after it. `later` is the result for the rows after it alone
abbrev pub sorted_by : RowCase → Given → Result Sorted Refusal → Result Sorted Refusal
sorted_by IsNew given later = one_more_added (entry_of given) later
sorted_by IsRepeated given later = one_more_repeated later
sorted_by (IsRefused refusal) given later = Err refusal

-- the result of an import: its rows are taken one by one, and each is compared with the register and the rows added before it
abbrev pub sorted_rows : ℕ → List Round → List Entry → List Given → Result Sorted Refusal
sorted_rows most rounds register [] = Ok (record { added = []; repeated = 0 })
sorted_rows most rounds register (given ∷ rows) =
    let this = row_case most rounds register given (with_id register given.id) in
    sorted_by this given (sorted_rows most rounds (register_after this register given) rows)

-- the change that adds rows, or None if there are none to add
abbrev pub addition : List Entry → Option Change
addition [] = None
addition (entry ∷ added) = Some (Added (entry ∷ added))

abbrev pub registered : Tables → Result Sorted Refusal → Outcome
registered tables (Ok sorted) =
    Replies (addition sorted.added) (one_line (register_line (length sorted.added) sorted.repeated (length tables.register + length sorted.added)))
registered tables (Err refusal) = Refuses refusal

abbrev pub register_by : Tables → List Given → Option (List Category) → Outcome
register_by tables rows None = Refuses (Incomplete part.Rules)
register_by tables rows (Some categories) =
    if list_all (λ given. fits_rules categories given.values) rows then registered tables (sorted_rows (most_rows tables.charter) tables.rounds tables.register rows)
    else Refuses (RowDiffers (codes "rules"))

abbrev pub decide_register : Tables → List Given → Outcome
decide_register tables rows = register_by tables rows tables.rules

-- ---- seal, draw and drop

abbrev pub no_round : Tables → Outcome
no_round tables = Refuses (NoRound (length tables.rounds))

-- the number of tickets that was kept with a seal, 0 if there is none
abbrev pub tickets_or_none : Option ℕ → ℕ
tickets_or_none None = 0
tickets_or_none (Some tickets) = tickets

-- the outcome of a seal of a round that is sealed already, with the tickets `kept`. The last argument is the number of tickets given
abbrev pub same_seal : Bundle → Option ℕ → Option ℕ → Outcome
same_seal bundle kept None = tells (seal_line bundle)
same_seal bundle kept (Some tickets) = if tickets_or_none kept == tickets then tells (seal_line bundle) else Refuses (TicketsDiffer (tickets_or_none kept))

abbrev pub seal_in : Tables → ℕ → Option ℕ → Option Round → Outcome
seal_in tables number tickets None = no_round tables
seal_in tables number tickets (Some Open) = Refuses (WrongPhase phase.Open)
seal_in tables number tickets (Some (Solved bundle)) = changes (SealTold number tickets) (seal_line bundle)
seal_in tables number tickets (Some (Sealed bundle kept)) = same_seal bundle kept tickets
seal_in tables number tickets (Some (Drawn bundle kept digits dropped)) = same_seal bundle kept tickets

abbrev pub draw_refusal : Bundle → List ℕ → draws.Refused → Refusal
draw_refusal bundle given draws.SealDiffers = SealDiffers given (bundle_seal bundle)
draw_refusal bundle given (draws.NoTicket (dice.BadDigit place)) = BadDigit place
draw_refusal bundle given (draws.NoTicket (dice.MoreDigits read)) = MoreDigits read

-- the outcome of the first draw from a bundle: the ticket and the panel, or why these digits draw nothing
abbrev pub new_draw : ℕ → Bundle → List ℕ → List ℕ → Result draws.Drawn draws.Refused → Outcome
new_draw number bundle given digits (Ok drawn) = Replies (Some (DrawnWith number digits)) (Lines (text_of (drawn_lines bundle drawn)))
new_draw number bundle given digits (Err refused) = Refuses (draw_refusal bundle given refused)

-- the outcome of a draw from a round that is drawn already: the seal is compared first, then the digits
abbrev pub same_draw : Bundle → Option ℕ → List ℕ → List ℕ → List ℕ → Outcome
same_draw bundle tickets kept given digits =
    if not (is_seal (bundle_seal bundle) given) then Refuses (SealDiffers given (bundle_seal bundle))
    else if bytes_eq kept digits then Replies None (Lines (text_of (drawn_lines bundle (drawn_of bundle tickets kept))))
    else Refuses (DrawDiffers kept)

abbrev pub draw_in : Tables → ℕ → List ℕ → List ℕ → Option Round → Outcome
draw_in tables number given digits None = no_round tables
draw_in tables number given digits (Some Open) = Refuses (NotSealed phase.Open)
draw_in tables number given digits (Some (Solved bundle)) = Refuses (NotSealed phase.Solved)
draw_in tables number given digits (Some (Sealed bundle tickets)) = new_draw number bundle given digits (draws.draw (drawn_lottery bundle tickets) (bundle_seal bundle) given digits)
draw_in tables number given digits (Some (Drawn bundle tickets kept dropped)) = same_draw bundle tickets kept given digits

-- an outcome without its change
abbrev pub without_change : Outcome → Outcome
without_change (Replies change reply) = Replies None reply
without_change (Refuses refusal) = Refuses refusal
without_change (Stops ending) = Stops ending
without_change (Unproved refusal) = Unproved refusal

-- the ids of the members of the panel that the digits draw
abbrev pub drawn_ids : Bundle → Option ℕ → List ℕ → List (List ℕ)
drawn_ids bundle tickets digits = member_ids bundle.pool (drawn_of bundle tickets digits).panel

abbrev pub drop_in : Tables → ℕ → List ℕ → Option Round → Outcome
drop_in tables number id None = no_round tables
drop_in tables number id (Some Open) = Refuses (WrongPhase phase.Open)
drop_in tables number id (Some (Solved bundle)) = Refuses (WrongPhase phase.Solved)
drop_in tables number id (Some (Sealed bundle tickets)) = Refuses (WrongPhase phase.Sealed)
drop_in tables number id (Some (Drawn bundle tickets digits dropped)) =
    if not (includes_list (drawn_ids bundle tickets digits) id) then Refuses (NotSeated id)
    else if includes_list dropped id then tells (dropped_line number id)
    else if number == length tables.rounds then changes (DroppedOut number id) (dropped_line number id)
    else Refuses (RoundClosed (length tables.rounds))

-- there is a row, and it withdrew
abbrev pub is_withdrawn : Option Entry → Bool
is_withdrawn None = false
is_withdrawn (Some entry) = entry.withdrawn

-- the outcome of taking a dropout back. Who withdrew meanwhile stays out, since nobody who withdrew is on a later panel
abbrev pub undrop_in : Tables → ℕ → List ℕ → Option Round → Outcome
undrop_in tables number id None = no_round tables
undrop_in tables number id (Some Open) = Refuses (WrongPhase phase.Open)
undrop_in tables number id (Some (Solved bundle)) = Refuses (WrongPhase phase.Solved)
undrop_in tables number id (Some (Sealed bundle tickets)) = Refuses (WrongPhase phase.Sealed)
undrop_in tables number id (Some (Drawn bundle tickets digits dropped)) =
    if not (includes_list dropped id) then Refuses (NotDropped id)
    else if is_withdrawn (with_id tables.register id) then Refuses TooLate
    else if number == length tables.rounds then changes (TakenBack number id) (undropped_line number id)
    else Refuses (RoundClosed (length tables.rounds))

-- ---- the next round, and what a round shows

abbrev pub next_after : ℕ → Round → Outcome
next_after number Open = Refuses (WrongPhase phase.Open)
next_after number (Solved bundle) = Refuses (WrongPhase phase.Solved)
next_after number (Sealed bundle tickets) = Refuses (WrongPhase phase.Sealed)
next_after number (Drawn bundle tickets digits []) = Refuses (Incomplete part.Drops)
next_after number (Drawn bundle tickets digits (id ∷ dropped)) = changes Begun (round_line (number + 1))

abbrev pub next_in : Tables → ℕ → Option Round → Outcome
next_in tables number None = no_round tables
next_in tables number (Some round) = if number == length tables.rounds then next_after number round else tells (round_line (number + 1))

abbrev pub reopen_at : ℕ → Round → Outcome
reopen_at number Open = changes (Reopened number) (reopened_line number)
reopen_at number (Solved bundle) = Refuses (WrongPhase phase.Solved)
reopen_at number (Sealed bundle tickets) = Refuses (WrongPhase phase.Sealed)
reopen_at number (Drawn bundle tickets digits dropped) = Refuses (WrongPhase phase.Drawn)

abbrev pub reopen_in : Tables → ℕ → Option Round → Outcome
reopen_in tables number None = no_round tables
reopen_in tables number (Some round) = if number == length tables.rounds then reopen_at number round else Refuses (RoundClosed (length tables.rounds))

abbrev pub show_in : Tables → Option Round → Outcome
show_in tables None = no_round tables
show_in tables (Some Open) = Refuses (WrongPhase phase.Open)
show_in tables (Some (Solved bundle)) = Replies None (Lines (bundle_spelling bundle))
show_in tables (Some (Sealed bundle tickets)) = Replies None (Lines (bundle_spelling bundle))
show_in tables (Some (Drawn bundle tickets digits dropped)) = Replies None (Lines (bundle_spelling bundle))

-- ---- withdrawals

-- the first row with the digest `hash` of a key, with its place. `place` is the place of the first row of `register`
abbrev pub place_of_hash : List Entry → List ℕ → ℕ → Option (ℕ × Entry)
place_of_hash [] hash place = None
place_of_hash (entry ∷ register) hash place = if bytes_eq hash entry.hash then Some (place, entry) else place_of_hash register hash (place + 1)

abbrev pub is_seated : Standing → Bool
is_seated standing.Open = false
is_seated standing.Seated = true
is_seated standing.Gone = false

-- there is a pool, and the volunteer at `place` is seated in it
abbrev pub is_seated_in : Result Pool Refusal → ℕ → Bool
is_seated_in (Ok pool) place = is_seated (volunteer pool.volunteers place).standing
is_seated_in (Err refusal) place = false

abbrev pub is_last_open : List Round → Bool
is_last_open [] = false
is_last_open (Open ∷ []) = true
is_last_open (Solved bundle ∷ []) = false
is_last_open (Sealed bundle tickets ∷ []) = false
is_last_open (Drawn bundle tickets digits dropped ∷ []) = false
is_last_open (round ∷ next ∷ later) = is_last_open (next ∷ later)

-- the outcome of a withdrawal of the row `entry` at `place`, with `reply` if it withdraws
abbrev pub withdraw_row : Tables → Reply → ℕ → Entry → Outcome
withdraw_row tables reply place entry =
    if entry.withdrawn then Replies None reply
    else if is_last_open tables.rounds && not (is_seated_in (pool_of tables (length tables.rounds)) place) then Replies (Some (Withdrawn place)) reply
    else Refuses TooLate

abbrev pub withdraw_at : Tables → Option (ℕ × Entry) → Outcome
withdraw_at tables None = Refuses UnknownKey
withdraw_at tables (Some (place, entry)) = withdraw_row tables (Lines []) place entry

-- the first row with the id `id`, with its place. `place` is the place of the first row of `register`
abbrev pub place_of_id : List Entry → List ℕ → ℕ → Option (ℕ × Entry)
place_of_id [] id place = None
place_of_id (entry ∷ register) id place = if bytes_eq id entry.id then Some (place, entry) else place_of_id register id (place + 1)

abbrev pub withdraw_id_at : Tables → List ℕ → Option (ℕ × Entry) → Outcome
withdraw_id_at tables id None = Refuses (UnknownId id)
withdraw_id_at tables id (Some (place, entry)) = withdraw_row tables (one_line (withdrawn_line id)) place entry

-- ---- bounds of a round

-- the outcome of bounds for a round with the pool `pool`
abbrev pub bounds_in : Pool → List Category → Round → Outcome
bounds_in pool bounds Open = if same_shape pool.categories bounds then changes (BoundsSet bounds) (rules_line (codes "set")) else Refuses (RowDiffers (codes "rules"))
bounds_in pool bounds (Solved bundle) = Refuses (WrongPhase phase.Solved)
bounds_in pool bounds (Sealed bundle tickets) = Refuses (WrongPhase phase.Sealed)
bounds_in pool bounds (Drawn bundle tickets digits dropped) = Refuses (WrongPhase phase.Drawn)

-- if there is a pool, there is the round
abbrev pub bounds_over : Tables → List Category → Result Pool Refusal → Option Round → Outcome
bounds_over tables bounds (Err refusal) found = Refuses refusal
bounds_over tables bounds (Ok pool) None = no_round tables
bounds_over tables bounds (Ok pool) (Some round) = if same_rules pool.categories bounds then tells (rules_line (codes "same")) else bounds_in pool bounds round

abbrev pub decide_bounds : Tables → ℕ → List Category → Outcome
decide_bounds tables number bounds = bounds_over tables bounds (pool_of tables number) (named_round tables.rounds number)

-- ---- an answer over the pool of an open round

-- what was found for the pool of an open round: a lottery with its stages, or that there is no quota panel
pub data Answered : Type 0 where
  Finds : (answer : Answer) → Answered
  FindsNone : Answered

-- the outcome of an answer: the round keeps the pool with its answer. If there is no quota panel, the tables stay as they are
abbrev pub answered : ℕ → Pool → Answered → Outcome
answered number pool (Finds answer) =
    let bundle : Bundle = record { pool = pool; answer = answer } in changes (SolvedWith number bundle) (solved_line number bundle)
answered number pool FindsNone = Replies None NoPanel

-- ---- the outcome of a solve

-- how a command is decided: at once, or by the stated run over a pool
pub data Asked : Type 0 where
  IsDecided : (outcome : Outcome) → Asked
  NeedsRun : (pool : Pool) → Asked

abbrev pub asked_over : Result Pool Refusal → Asked
asked_over (Ok pool) = NeedsRun pool
asked_over (Err refusal) = IsDecided (Refuses refusal)

abbrev pub solve_in : Tables → ℕ → Option Round → Asked
solve_in tables number None = IsDecided (no_round tables)
solve_in tables number (Some Open) = asked_over (pool_of tables number)
solve_in tables number (Some (Solved bundle)) = IsDecided (tells (solved_line number bundle))
solve_in tables number (Some (Sealed bundle tickets)) = IsDecided (tells (solved_line number bundle))
solve_in tables number (Some (Drawn bundle tickets digits dropped)) = IsDecided (tells (solved_line number bundle))

-- the outcome of a solve of an open round, if the run over its pool has this ending
abbrev pub solved : ℕ → Pool → Ending → Outcome
solved number pool (run.Found last answer) = answered number pool (Finds answer)
solved number pool run.NoPanel = answered number pool FindsNone
solved number pool (run.TooWide stood pass) = Stops (run.TooWide stood pass)
solved number pool (run.TotalPasses stood pass) = Stops (run.TotalPasses stood pass)
solved number pool (run.PivotsSpent stood) = Stops (run.PivotsSpent stood)
solved number pool (run.NodesSpent stood) = Stops (run.NodesSpent stood)

-- ---- the outcome of keeping a proof

-- the pool of a proof
abbrev pub proof_pool : Proof → Pool
proof_pool (OfLottery pool answer trees) = pool
proof_pool (OfNoPanel pool lines) = pool

-- what a valid proof shows
abbrev pub shown : Proof → Answered
shown (OfLottery pool answer trees) = Finds answer
shown (OfNoPanel pool lines) = FindsNone

-- two pools are the same if they have the same text, since no two pools have the same text
abbrev pub is_same_pool : Pool → Pool → Bool
is_same_pool one other = bytes_eq (spelling one) (spelling other)

-- the outcome of keeping a proof with this verdict for an open round with the pool `pool`
abbrev pub kept_by : Verdict → ℕ → Pool → Proof → Outcome
kept_by (reasons.Refused refusal) number pool proof = Unproved refusal
kept_by reasons.Valid number pool proof = if is_same_pool (proof_pool proof) pool then answered number pool (shown proof) else Refuses (OtherPool number)

abbrev pub kept_over : ℕ → Proof → Result Pool Refusal → Outcome
kept_over number proof (Ok pool) = kept_by (verdict proof) number pool proof
kept_over number proof (Err refusal) = Refuses refusal

abbrev pub keep_in : Tables → ℕ → Proof → Option Round → Outcome
keep_in tables number proof None = no_round tables
keep_in tables number proof (Some Open) = kept_over number proof (pool_of tables number)
keep_in tables number proof (Some (Solved bundle)) = tells (solved_line number bundle)
keep_in tables number proof (Some (Sealed bundle tickets)) = tells (solved_line number bundle)
keep_in tables number proof (Some (Drawn bundle tickets digits dropped)) = tells (solved_line number bundle)

-- ---- how each command is decided

abbrev pub asked : Tables → Command → Asked
asked tables (SetCharter charter) = IsDecided (decide_charter tables charter)
asked tables (SetRules rules) = IsDecided (decide_rules tables rules)
asked tables (Register rows) = IsDecided (decide_register tables rows)
asked tables (Solve number limits) = solve_in tables number (named_round tables.rounds number)
asked tables (Keep number proof) = IsDecided (keep_in tables number proof (named_round tables.rounds number))
asked tables (Seal number tickets) = IsDecided (seal_in tables number tickets (named_round tables.rounds number))
asked tables (Draw number given digits) = IsDecided (draw_in tables number given digits (named_round tables.rounds number))
asked tables (Drop number id) = IsDecided (drop_in tables number id (named_round tables.rounds number))
asked tables (NextRound after) = IsDecided (next_in tables after (named_round tables.rounds after))
asked tables (Show number) = IsDecided (show_in tables (named_round tables.rounds number))
asked tables (Withdraw key) = IsDecided (withdraw_at tables (place_of_hash tables.register (seal_of key) 0))
asked tables (SetBounds number bounds) = IsDecided (decide_bounds tables number bounds)
asked tables (TryDraw number given digits) = IsDecided (without_change (draw_in tables number given digits (named_round tables.rounds number)))
asked tables (Undrop number id) = IsDecided (undrop_in tables number id (named_round tables.rounds number))
asked tables (Reopen number) = IsDecided (reopen_in tables number (named_round tables.rounds number))
asked tables (WithdrawId id) = IsDecided (withdraw_id_at tables id (place_of_id tables.register id 0))
