-- Names can be fields of a line.
use Rattle.std.proofs.Common.{◌≡◌, ℕ, ◌<◌, true, false, not, ◌&&◌, eqb, leb, List, [], ◌∷◌, lit<, arith}
use Rattle.std.specs.List.{AllByRecursion, list_all}
use Rattle.std.specs.Str.{is_utf8}
use Rattle.std.proofs.lemmas.Bool.{and_parts, leb-true, ne_eqb}
use Rattle.std.proofs.lemmas.List.Elements.{All-from_recursion}
use Rattle.define_pools.specs.Pool.{is_name, keeps_name_limits}
use Rattle.define_lines.proofs.FieldLemmas.{IsField}

name_lacks : (c : ℕ) → c < 32 → (name : List ℕ) → list_all (λ byte. leb 32 byte && not (eqb byte 127)) name ≡ true → AllByRecursion (λ b. eqb b c ≡ false) name
name_lacks c low [] h = tt
name_lacks c low (b ∷ bytes) h =
    let parts = and_parts (leb 32 b && not (eqb b 127)) (list_all (λ byte. leb 32 byte && not (eqb byte 127)) bytes) h in
    let high = leb-true 32 b (and_parts (leb 32 b) (not (eqb b 127)) parts.0).0 in
    (ne_eqb b c (λ e. omega arith), name_lacks c low bytes parts.1)

-- a name is a field
pub name_field : (name : List ℕ) → is_name name ≡ true → IsField name
name_field name h =
    let parts = and_parts (keeps_name_limits name) (is_utf8 name) h in
    let bytes = (and_parts _ (list_all (λ byte. leb 32 byte && not (eqb byte 127)) name) parts.0).1 in
    record {
      no_tab = All-from_recursion (λ b. eqb b 9 ≡ false) name (name_lacks 9 (lit< tt) name bytes);
      no_feed = All-from_recursion (λ b. eqb b 10 ≡ false) name (name_lacks 10 (lit< tt) name bytes);
      utf8 = parts.1;
    }
