-- The tests of the parts of tables hold exactly if `IsTables` holds of the tables.
use Rattle.std.proofs.Common.{◌≡◌, ◌↔◌, ℕ, zero, suc, Bool, true, false, ◌&&◌, leb, List, [], ◌∷◌, length, Option, Some, refl, sym, ap, ap₂, ◌∙◌, subst}
use Rattle.std.proofs.Math.Bool.{and-false}
use Rattle.std.specs.List.{AllByRecursion, list_all}
use Rattle.std.proofs.lemmas.Bool.{and_from, and_parts}
use Rattle.define_pools.specs.Lists.{all_different}
use Rattle.define_pools.specs.Pool.{Category}
use Rattle.define_offices.specs.Facts.{AreRules, IsTables, KeepsRound, closed_but_last, entry_hashes, entry_ids, is_charter, is_entry, rows_fit}
use Rattle.define_offices.specs.Tables.{Charter, Entry, Round, Tables, most_rows, round_at}
use Rattle.office_tables.specs.Seen.{register_test}

-- ---- the test of a register, by its three parts

pub without_rows : (rows ids hashes : Bool) → rows ≡ false → false ≡ (rows && ids && hashes)
without_rows rows ids hashes e = sym (ap (λ b. b && ids && hashes) e)

pub without_ids : (rows ids hashes : Bool) → ids ≡ false → false ≡ (rows && ids && hashes)
without_ids rows ids hashes e = sym (ap (λ b. rows && b && hashes) e ∙ ap (λ b. b && hashes) (and-false rows))

pub by_hashes : (rows ids hashes : Bool) → rows ≡ true → ids ≡ true → (rows && ids && hashes) ≡ hashes
by_hashes rows ids hashes r i = ap₂ (λ a b. a && b && hashes) r i

-- ---- the facts one by one

round_keeps : (P : Round → Type 0) (rounds : List Round) (place : ℕ) (round : Round) → AllByRecursion P rounds → round_at rounds place ≡ Some round → P round
round_keeps P [] place round each e = absurd cc
round_keeps P (first ∷ rounds) zero round each e = let same : first ≡ round = cc in subst P same each.0
round_keeps P (first ∷ rounds) (suc place) round each e = round_keeps P rounds place round each.1 e

rounds_keep : (P : Round → Type 0) (rounds : List Round) → ((place : ℕ) (round : Round) → round_at rounds place ≡ Some round → P round) → AllByRecursion P rounds
rounds_keep P [] each = tt
rounds_keep P (first ∷ rounds) each = (each 0 first refl, rounds_keep P rounds (λ place round e. each (suc place) round e))

-- the facts of a register under `rules`, one by one
record RegisterKeeps (most : ℕ) (rules : Option (List Category)) (register : List Entry) : Type 0 where
  few : leb (length register) most ≡ true
  rows : list_all is_entry register ≡ true
  fit : rows_fit rules register ≡ true
  different_ids : all_different (entry_ids register) ≡ true
  different_keys : all_different (entry_hashes register) ≡ true

register_keeps : (most : ℕ) (rules : Option (List Category)) (register : List Entry) → register_test most rules register ≡ true → RegisterKeeps most rules register
register_keeps most rules register h =
    let A = leb (length register) most in let B = list_all is_entry register in let C = rows_fit rules register in
    let D = all_different (entry_ids register) in let E = all_different (entry_hashes register) in
    let four = and_parts (A && B && C && D) E h in
    let three = and_parts (A && B && C) D four.0 in
    let two = and_parts (A && B) C three.0 in
    let one = and_parts A B two.0 in
    record { few = one.0; rows = one.1; fit = two.1; different_ids = three.1; different_keys = four.1 }

pub register_of_tables : (tables : Tables) → IsTables tables → register_test (most_rows tables.charter) tables.rules tables.register ≡ true
register_of_tables tables is =
    let register = tables.register in
    let A = leb (length register) (most_rows tables.charter) in let B = list_all is_entry register in let C = rows_fit tables.rules register in
    let D = all_different (entry_ids register) in let E = all_different (entry_hashes register) in
    and_from (A && B && C && D) E (and_from (A && B && C) D (and_from (A && B) C (and_from A B is.few_rows is.rows) is.fit) is.different_ids) is.different_keys

rounds_of_tables : (tables : Tables) → IsTables tables → AllByRecursion (KeepsRound tables) tables.rounds
rounds_of_tables tables is = rounds_keep (KeepsRound tables) tables.rounds is.rounds

tables_of_parts : (tables : Tables) → ((charter : Charter) → tables.charter ≡ Some charter → is_charter charter ≡ true) →
    ((rules : List Category) → tables.rules ≡ Some rules → AreRules rules) → ((bounds : List Category) → tables.bounds ≡ Some bounds → AreRules bounds) → register_test (most_rows tables.charter) tables.rules tables.register ≡ true → closed_but_last tables.rounds ≡ true →
    AllByRecursion (KeepsRound tables) tables.rounds → IsTables tables
tables_of_parts tables charter rules bounds register closed rounds =
    let keeps = register_keeps (most_rows tables.charter) tables.rules tables.register register in
    record {
      charter = charter;
      rules = rules;
      bounds = bounds;
      few_rows = keeps.few;
      rows = keeps.rows;
      fit = keeps.fit;
      different_ids = keeps.different_ids;
      different_keys = keeps.different_keys;
      closed = closed;
      rounds = λ place round e. round_keeps (KeepsRound tables) tables.rounds place round rounds e;
    }

-- if all facts of `IsTables` but the one on each round hold, `IsTables` holds exactly if `KeepsRound` holds of each round
pub left_to_rounds : (tables : Tables) (keep : Bool) → ((charter : Charter) → tables.charter ≡ Some charter → is_charter charter ≡ true) →
    ((rules : List Category) → tables.rules ≡ Some rules → AreRules rules) → ((bounds : List Category) → tables.bounds ≡ Some bounds → AreRules bounds) → register_test (most_rows tables.charter) tables.rules tables.register ≡ true → closed_but_last tables.rounds ≡ true →
    (keep ≡ true ↔ AllByRecursion (KeepsRound tables) tables.rounds) → (keep ≡ true ↔ IsTables tables)
left_to_rounds tables keep charter rules bounds register closed rounds =
    ((λ t. tables_of_parts tables charter rules bounds register closed (rounds.0 t)), (λ is. rounds.1 (rounds_of_tables tables is)))
