-- No command takes a withdrawal back.
use Rattle.std.proofs.Common.{◌≡◌, ℕ, zero, suc, true, List, [], ◌∷◌, ◌++◌, Some, None, refl, sym, subst}
use Rattle.std.proofs.lemmas.Bool.{false≢true}
use Rattle.define_offices.specs.Commands.{Command, Change, CharterSet, RulesSet, Added, SolvedWith, SealTold, DrawnWith, DroppedOut, Begun, Withdrawn, BoundsSet, TakenBack, Reopened, Outcome, Replies, Refuses, Stops, Unproved}
use Rattle.define_offices.specs.Pools.{has_withdrawn}
use Rattle.define_offices.specs.Steps.{LeadThrough, apply, tables_after, withdrawn_at}
use Rattle.define_offices.specs.Tables.{Entry, Tables}
use Rattle.laws_of_offices.specs.Seats.{WithdrawalsStay}

stays_when_added : (register entries : List Entry) (i : ℕ) → has_withdrawn register i ≡ true → has_withdrawn (register ++ entries) i ≡ true
stays_when_added [] entries i h = absurd (false≢true h)
stays_when_added (entry ∷ register) entries zero h = h
stays_when_added (entry ∷ register) entries (suc i) h = stays_when_added register entries i h

stays_when_another_withdraws : (register : List Entry) (place i : ℕ) → has_withdrawn register i ≡ true → has_withdrawn (withdrawn_at register place) i ≡ true
stays_when_another_withdraws [] place i h = h
stays_when_another_withdraws (entry ∷ register) zero zero h = refl
stays_when_another_withdraws (entry ∷ register) zero (suc i) h = h
stays_when_another_withdraws (entry ∷ register) (suc place) zero h = h
stays_when_another_withdraws (entry ∷ register) (suc place) (suc i) h = stays_when_another_withdraws register place i h

module _ (i : ℕ) where
  abbrev Withdrew : Tables → Type 0
  Withdrew tables = has_withdrawn tables.register i ≡ true

  change_keeps : (tables : Tables) (change : Change) → Withdrew tables → Withdrew (apply tables change)
  change_keeps tables (CharterSet charter) h = h
  change_keeps tables (RulesSet rules) h = h
  change_keeps tables (Added entries) h = stays_when_added tables.register entries i h
  change_keeps tables (SolvedWith number bundle) h = h
  change_keeps tables (SealTold number tickets) h = h
  change_keeps tables (DrawnWith number digits) h = h
  change_keeps tables (DroppedOut number id) h = h
  change_keeps tables Begun h = h
  change_keeps tables (Withdrawn place) h = stays_when_another_withdraws tables.register place i h
  change_keeps tables (BoundsSet bounds) h = h
  change_keeps tables (TakenBack number id) h = h
  change_keeps tables (Reopened number) h = h

  outcome_keeps : (tables : Tables) (outcome : Outcome) → Withdrew tables → Withdrew (tables_after tables outcome)
  outcome_keeps tables (Replies None reply) h = h
  outcome_keeps tables (Replies (Some change) reply) h = change_keeps tables change h
  outcome_keeps tables (Refuses refusal) h = h
  outcome_keeps tables (Stops ending) h = h
  outcome_keeps tables (Unproved refusal) h = h

  through_keeps : (before : Tables) (commands : List Command) (after : Tables) → LeadThrough before commands after → Withdrew before → Withdrew after
  through_keeps before [] after leads h = subst Withdrew (sym leads) h
  through_keeps before (command ∷ later) after (next, (leads, rest)) h =
      through_keeps next later after rest (subst Withdrew (sym leads.leaves) (outcome_keeps before leads.outcome h))

pub withdrawals_stay : WithdrawalsStay
withdrawals_stay before commands after place leads h = through_keeps place before commands after leads h
