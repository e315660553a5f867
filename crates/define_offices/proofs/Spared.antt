-- A dropout that was entered, and a round that was begun, are still there in later tables if no change took them back.
use Rattle.std.proofs.Common.{◌≡◌, ℕ, zero, suc, ◌+◌, ◌≤◌, Bool, true, false, cond, eqb, leb, not, ◌||◌, ◌&&◌, List, [], ◌∷◌, ◌++◌, length, Option, Some, None, ◌⊎◌, inl, inr, refl, sym, ap, ◌∙◌, arith, subst}
use Rattle.std.specs.Str.{bytes_eq}
use Rattle.std.proofs.lemmas.Bool.{false≢true, leb-false, leb-true}
use Rattle.std.proofs.lemmas.Bool.Decides.{Decides-eqb}
use Rattle.std.proofs.lemmas.List.{length_push}
use Rattle.std.proofs.lemmas.List.Folds.{list_any-append}
use Rattle.std.proofs.lemmas.Slice.Eq.{bytes_eq-Decides}
use Rattle.define_pools.specs.Lists.{includes_list}
use Rattle.define_bundles.specs.BundleText.{Bundle}
use Rattle.define_offices.specs.Tables.{Round, Open, Solved, Sealed, Drawn, Tables, changed_at, changed_named, named_round, round_at, taken_at, taken_named}
use Rattle.define_offices.specs.Commands.{Command, Drop, NextRound, Change, CharterSet, RulesSet, Added, SolvedWith, SealTold, DrawnWith, DroppedOut, Begun, Withdrawn, BoundsSet, TakenBack, Reopened, Outcome, Replies, Refuses, Stops, Unproved, Reply}
use Rattle.define_offices.specs.Repeats.{LeadThroughSparing, takes_back}
use Rattle.define_offices.specs.Steps.{LeadThrough, apply, drawn_by, dropped_out, seal_told, solved_with, tables_after, taken_back, without_id}
use Rattle.define_offices.proofs.Repeats.{HasDropped}

-- ---- what each change that doesn't take `kept` back keeps, is kept by all commands that don't

module _ (kept : Command) (P : Tables → Type 0) (stays : (tables : Tables) (change : Change) (reply : Reply) → takes_back (Replies (Some change) reply) kept ≡ false → P tables → P (apply tables change)) where
  after_stays : (tables : Tables) (outcome : Outcome) → takes_back outcome kept ≡ false → P tables → P (tables_after tables outcome)
  after_stays tables (Replies None reply) spares p = p
  after_stays tables (Replies (Some change) reply) spares p = stays tables change reply spares p
  after_stays tables (Refuses refusal) spares p = p
  after_stays tables (Stops ending) spares p = p
  after_stays tables (Unproved refusal) spares p = p

  pub through_stays : (before : Tables) (commands : List Command) (after : Tables) → LeadThroughSparing kept before commands after → P before → P after
  through_stays before [] after leads p = subst P (sym leads) p
  through_stays before (command ∷ later) after (next, (step, rest)) p =
      through_stays next later after rest (subst P (sym step.leads.leaves) (after_stays before step.leads.outcome step.spares p))

pub leads_through : (kept : Command) (before : Tables) (commands : List Command) (after : Tables) → LeadThroughSparing kept before commands after → LeadThrough before commands after
leads_through kept before [] after leads = leads
leads_through kept before (command ∷ later) after (next, (step, rest)) = (next, (step.leads, leads_through kept next later after rest))

-- ---- a dropout

-- the round at a place, after another or this round is changed
at_changed : (change : Round → Round) (rounds : List Round) (p q : ℕ) (round : Round) → round_at rounds q ≡ Some round →
    (round_at (changed_at change rounds p) q ≡ Some round) ⊎ ((p ≡ q) × (round_at (changed_at change rounds p) q ≡ Some (change round)))
at_changed change [] p q round at = absurd (cc)
at_changed change (first ∷ rounds) zero zero round at = let same : first ≡ round = cc in inr (refl, ap (λ r. Some (change r)) same)
at_changed change (first ∷ rounds) zero (suc q) round at = inl at
at_changed change (first ∷ rounds) (suc p) zero round at = inl at
at_changed change (first ∷ rounds) (suc p) (suc q) round at =
    elim (at_changed change rounds p q round at) [ inl same ↦ inl same | inr changed ↦ inr (ap suc changed.0, changed.1) ]

named_changed : (change : Round → Round) (rounds : List Round) (m n : ℕ) (round : Round) → named_round rounds n ≡ Some round →
    (named_round (changed_named change rounds m) n ≡ Some round) ⊎ ((m ≡ n) × (named_round (changed_named change rounds m) n ≡ Some (change round)))
named_changed change rounds m zero round at = absurd (cc)
named_changed change rounds zero (suc q) round at = inl at
named_changed change rounds (suc p) (suc q) round at =
    elim (at_changed change rounds p q round at) [ inl same ↦ inl same | inr changed ↦ inr (ap suc changed.0, changed.1) ]

named_pushed : (rounds : List Round) (last : Round) (n : ℕ) (round : Round) → named_round rounds n ≡ Some round → named_round (rounds ++ last ∷ []) n ≡ Some round
named_pushed rounds last zero round at = absurd (cc)
named_pushed [] last (suc place) round at = absurd (cc)
named_pushed (first ∷ rounds) last (suc zero) round at = at
named_pushed (first ∷ rounds) last (suc (suc place)) round at = named_pushed rounds last (suc place) round at

-- a drawn round isn't taken away
drawn_stays : (rounds : List Round) (p q : ℕ) (bundle : Bundle) (tickets : Option ℕ) (digits : List ℕ) (dropped : List (List ℕ)) → round_at rounds q ≡ Some (Drawn bundle tickets digits dropped) →
    round_at (taken_at rounds p) q ≡ Some (Drawn bundle tickets digits dropped)
drawn_stays [] p q bundle tickets digits dropped at = absurd (cc)
drawn_stays (Open ∷ []) zero zero bundle tickets digits dropped at = absurd (cc)
drawn_stays (Open ∷ []) zero (suc q) bundle tickets digits dropped at = absurd (cc)
drawn_stays (Open ∷ next ∷ later) zero q bundle tickets digits dropped at = at
drawn_stays (Solved other ∷ later) zero q bundle tickets digits dropped at = at
drawn_stays (Sealed other kept ∷ later) zero q bundle tickets digits dropped at = at
drawn_stays (Drawn other kept thrown out ∷ later) zero q bundle tickets digits dropped at = at
drawn_stays (first ∷ later) (suc p) zero bundle tickets digits dropped at = at
drawn_stays (first ∷ later) (suc p) (suc q) bundle tickets digits dropped at = drawn_stays later p q bundle tickets digits dropped at

module _ (number : ℕ) (id : List ℕ) where
  -- what `change` makes of a drawn round of which `id` dropped out
  record StillOut (change : Round → Round) (bundle : Bundle) (tickets : Option ℕ) (digits : List ℕ) (dropped : List (List ℕ)) : Type 0 where
    other : List (List ℕ)
    is : change (Drawn bundle tickets digits dropped) ≡ Drawn bundle tickets digits other
    out : includes_list other id ≡ true

  abbrev KeepsOut : (Round → Round) → Type 0
  KeepsOut change = (bundle : Bundle) (tickets : Option ℕ) (digits : List ℕ) (dropped : List (List ℕ)) → includes_list dropped id ≡ true → StillOut change bundle tickets digits dropped

  has_changed : (change : Round → Round) (m : ℕ) → (m ≡ number → KeepsOut change) → (rounds : List Round) → HasDropped rounds number id → HasDropped (changed_named change rounds m) number id
  has_changed change m keeps rounds has =
      elim (named_changed change rounds m number (Drawn has.bundle has.tickets has.digits has.dropped) has.there) [
        | inl same ↦ record { bundle = has.bundle; tickets = has.tickets; digits = has.digits; dropped = has.dropped; there = same; member = has.member; dropped_out = has.dropped_out }
        | inr changed ↦
            let still = keeps changed.0 has.bundle has.tickets has.digits has.dropped has.dropped_out in
            record { bundle = has.bundle; tickets = has.tickets; digits = has.digits; dropped = still.other; there = changed.1 ∙ ap Some still.is; member = has.member; dropped_out = still.out }
      ]

  has_taken : (rounds : List Round) (m : ℕ) → HasDropped rounds number id → HasDropped (taken_named rounds m) number id
  has_taken rounds zero has = has
  has_taken rounds (suc place) has = record {
    bundle = has.bundle;
    tickets = has.tickets;
    digits = has.digits;
    dropped = has.dropped;
    there = by number has.there;
    member = has.member;
    dropped_out = has.dropped_out;
  }
    where
      by : (n : ℕ) → named_round rounds n ≡ Some (Drawn has.bundle has.tickets has.digits has.dropped) → named_round (taken_at rounds place) n ≡ Some (Drawn has.bundle has.tickets has.digits has.dropped)
      by zero at = absurd (cc)
      by (suc q) at = drawn_stays rounds place q has.bundle has.tickets has.digits has.dropped at

  dropping_keeps : (name : List ℕ) → KeepsOut (dropped_out name)
  dropping_keeps name bundle tickets digits dropped out = record {
    other = dropped ++ name ∷ [];
    is = refl;
    out = list_any-append (bytes_eq id) dropped (name ∷ []) ∙ (rw out refl);
  }

  -- taking back the dropout of somebody else keeps `id`
  includes_without : (name : List ℕ) → bytes_eq id name ≡ false → (ids : List (List ℕ)) → includes_list ids id ≡ true → includes_list (without_id name ids) id ≡ true
  includes_without name differs [] h = h
  includes_without name differs (other ∷ ids) h = by (bytes_eq name other) refl (bytes_eq id other) refl h (λ k. includes_without name differs ids k)
    where
      by : (taken : Bool) → bytes_eq name other ≡ taken → (same : Bool) → bytes_eq id other ≡ same → (same || includes_list ids id) ≡ true → (includes_list ids id ≡ true → includes_list (without_id name ids) id ≡ true) →
          includes_list (cond (not taken) (other ∷ without_id name ids) (without_id name ids)) id ≡ true
      by true e true f k again = absurd (false≢true (sym differs ∙ (ap (bytes_eq id) ((bytes_eq-Decides name other).0 e) ∙ f)))
      by true e false f k again = again k
      by false e true f k again = rw f refl
      by false e false f k again = rw f (again k)

  taking_keeps : (name : List ℕ) → bytes_eq id name ≡ false → KeepsOut (taken_back name)
  taking_keeps name differs bundle tickets digits dropped out = record { other = without_id name dropped; is = refl; out = includes_without name differs dropped out }

  -- if the change isn't that of this dropout, another id was taken back, or in another round
  other_id : (m : ℕ) (name : List ℕ) → (eqb number m && bytes_eq id name) ≡ false → m ≡ number → bytes_eq id name ≡ false
  other_id m name spares same =
      let here : eqb number m ≡ true = (Decides-eqb number m).1 (sym same) in
      rw here at spares

  pub dropout_stays : (tables : Tables) (change : Change) (reply : Reply) → takes_back (Replies (Some change) reply) (Drop number id) ≡ false → HasDropped tables.rounds number id → HasDropped (apply tables change).rounds number id
  dropout_stays tables (CharterSet charter) reply spares has = has
  dropout_stays tables (RulesSet rules) reply spares has = has
  dropout_stays tables (Added entries) reply spares has = has
  dropout_stays tables (SolvedWith m answered) reply spares has = has_changed (solved_with answered) m (λ same bundle tickets digits dropped out. record { other = dropped; is = refl; out = out }) tables.rounds has
  dropout_stays tables (SealTold m given) reply spares has = has_changed (seal_told given) m (λ same bundle tickets digits dropped out. record { other = dropped; is = refl; out = out }) tables.rounds has
  dropout_stays tables (DrawnWith m thrown) reply spares has = has_changed (drawn_by thrown) m (λ same bundle tickets digits dropped out. record { other = dropped; is = refl; out = out }) tables.rounds has
  dropout_stays tables (DroppedOut m name) reply spares has = has_changed (dropped_out name) m (λ same. dropping_keeps name) tables.rounds has
  dropout_stays tables Begun reply spares has = record {
    bundle = has.bundle;
    tickets = has.tickets;
    digits = has.digits;
    dropped = has.dropped;
    there = named_pushed tables.rounds Open number (Drawn has.bundle has.tickets has.digits has.dropped) has.there;
    member = has.member;
    dropped_out = has.dropped_out;
  }
  dropout_stays tables (Withdrawn place) reply spares has = has
  dropout_stays tables (BoundsSet bounds) reply spares has = has
  dropout_stays tables (TakenBack m name) reply spares has = has_changed (taken_back name) m (λ same. taking_keeps name (other_id m name spares same)) tables.rounds has
  dropout_stays tables (Reopened m) reply spares has = has_taken tables.rounds m has

-- ---- a round that was begun

length_at : (change : Round → Round) (rounds : List Round) (p : ℕ) → length (changed_at change rounds p) ≡ length rounds
length_at change [] p = refl
length_at change (first ∷ rounds) zero = refl
length_at change (first ∷ rounds) (suc p) = ap suc (length_at change rounds p)

length_named : (change : Round → Round) (rounds : List Round) (m : ℕ) → length (changed_named change rounds m) ≡ length rounds
length_named change rounds zero = refl
length_named change rounds (suc place) = length_at change rounds place

-- if a round is taken away it was the last
one_less : (rounds : List Round) (p : ℕ) → (length (taken_at rounds p) ≡ length rounds) ⊎ ((length rounds ≡ suc p) × (length (taken_at rounds p) ≡ p))
one_less [] p = inl refl
one_less (Open ∷ []) zero = inr (refl, refl)
one_less (Open ∷ next ∷ later) zero = inl refl
one_less (Solved bundle ∷ later) zero = inl refl
one_less (Sealed bundle tickets ∷ later) zero = inl refl
one_less (Drawn bundle tickets digits dropped ∷ later) zero = inl refl
one_less (first ∷ later) (suc p) = elim (one_less later p) [ inl same ↦ inl (ap suc same) | inr less ↦ inr (ap suc less.0, ap suc less.1) ]

below : (a b : ℕ) → a ≤ suc b → (a ≡ suc b → ⊥) → a ≤ b
below a b h differs = by (leb a b) refl
  where
    by : (small : Bool) → leb a b ≡ small → a ≤ b
    by true e = leb-true a b e
    by false e = absurd (let l = leb-false a b e in differs (omega arith))

module _ (after : ℕ) where
  begun_taken : (rounds : List Round) (m : ℕ) → eqb (after + 1) m ≡ false → after + 1 ≤ length rounds → after + 1 ≤ length (taken_named rounds m)
  begun_taken rounds zero spares far = far
  begun_taken rounds (suc place) spares far =
      elim (one_less rounds place) [
        | inl same ↦ subst (λ n. after + 1 ≤ n) (sym same) far
        | inr less ↦
            let last : after + 1 ≤ suc place = subst (λ n. after + 1 ≤ n) less.0 far in
            subst (λ n. after + 1 ≤ n) (sym less.1) (below (after + 1) place last (λ same. false≢true (sym spares ∙ (Decides-eqb (after + 1) (suc place)).1 same)))
      ]

  abbrev pub IsThere : Tables → Type 0
  IsThere tables = after + 1 ≤ length tables.rounds

  length_stays : (change : Round → Round) (tables : Tables) (m : ℕ) → IsThere tables → after + 1 ≤ length (changed_named change tables.rounds m)
  length_stays change tables m far = subst (λ n. after + 1 ≤ n) (sym (length_named change tables.rounds m)) far

  pub begun_stays : (tables : Tables) (change : Change) (reply : Reply) → takes_back (Replies (Some change) reply) (NextRound after) ≡ false → IsThere tables → IsThere (apply tables change)
  begun_stays tables (CharterSet charter) reply spares far = far
  begun_stays tables (RulesSet rules) reply spares far = far
  begun_stays tables (Added entries) reply spares far = far
  begun_stays tables (SolvedWith m answered) reply spares far = length_stays (solved_with answered) tables m far
  begun_stays tables (SealTold m given) reply spares far = length_stays (seal_told given) tables m far
  begun_stays tables (DrawnWith m thrown) reply spares far = length_stays (drawn_by thrown) tables m far
  begun_stays tables (DroppedOut m name) reply spares far = length_stays (dropped_out name) tables m far
  begun_stays tables Begun reply spares far = let pushed = length_push tables.rounds Open in omega arith
  begun_stays tables (Withdrawn place) reply spares far = far
  begun_stays tables (BoundsSet bounds) reply spares far = far
  begun_stays tables (TakenBack m name) reply spares far = length_stays (taken_back name) tables m far
  begun_stays tables (Reopened m) reply spares far = begun_taken tables.rounds m spares far
