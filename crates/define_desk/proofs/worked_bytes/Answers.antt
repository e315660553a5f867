use Rattle.std.proofs.Common.{◌≡◌, ◌<◌, [], All, ℕ, zero, suc, Bool, IsTrue, List, codes, lit<, lit≤, refl, slice_index, true}
use Rattle.std.specs.List.{list_all}
use Rattle.std.proofs.lemmas.List.Elements.{All-cons, All-nil}
use Rattle.std.proofs.lemmas.List.Sums.{AllPass-from_list_all}
use Rattle.std.proofs.lemmas.Str.{IsUtf8-from_ascii}
use Rattle.httparse.specs.Grammar.{IsField, IsRequestHead, is_token_byte, is_uri_byte, is_value_byte, print_request, trim_ows}
use Rattle.define_desk.specs.Requests.{Headed, Headless}
use Rattle.define_desk.specs.WorkedDesk.{field, own_head}
use Rattle.define_desk.proofs.worked_bytes.Goals as goal

passes : (test : ℕ → Bool) (bytes : List ℕ) → list_all test bytes ≡ true → All (λ b. IsTrue (test b)) bytes
passes test bytes e = AllPass-from_list_all test bytes e

is_own_field : IsField (field (codes "Office-Key") (codes " abc"))
unfolding is_token_byte
is_own_field = record { name = (lit< tt, passes is_token_byte (codes "Office-Key") refl); raw = passes is_value_byte (codes " abc") refl }

own_path_is_ascii : (i : ℕ) → slice_index (codes "/me") i < 128
own_path_is_ascii zero = lit< tt
own_path_is_ascii (suc zero) = lit< tt
own_path_is_ascii (suc (suc zero)) = lit< tt
own_path_is_ascii (suc (suc (suc i))) = lit< tt

is_own_head : IsRequestHead own_head
unfolding is_token_byte
is_own_head = record {
  method = (lit< tt, passes is_token_byte (codes "GET") refl);
  target = (lit< tt, passes is_uri_byte (codes "/me") refl);
  target_text = IsUtf8-from_ascii (codes "/me") own_path_is_ascii;
  minor = lit≤ tt;
  fields = All-cons IsField (field (codes "Office-Key") (codes " abc")) [] is_own_field (All-nil IsField);
}

pub returns-clause-whole : goal.returns-clause-whole
unfolding print_request trim_ows
returns-clause-whole c = Headed 37 own_head refl (record { reads = (is_own_head, refl); few = lit≤ tt }) refl

pub returns-clause-cut : goal.returns-clause-cut
returns-clause-cut c = Headless refl refl
