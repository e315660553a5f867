-- The tables that chosen pivots lead through are a chain. So the pivots are fewer than the sets of variables that could be basic.
use Rattle.std.proofs.Common.{◌≡◌, ℕ, zero, suc, ◌<◌, ◌≤◌, true, List, [], ◌∷◌, ◌++◌, length, get_or, refl, sym, ap, ◌∙◌, subst, arith, inl, inr, ◌⊎◌}
use Rattle.std.proofs.lemmas.Bool.{cases_lt}
use Rattle.std.proofs.lemmas.List.{get_or_append_left, get_or_push, length_push}
use Rattle.std.proofs.lemmas.List.Elements.{All-from_recursion, All-push}
use Rattle.define_rows.specs.Table.{Table}
use Rattle.define_rows.specs.InOrder.{IsInOrder}
use Rattle.define_rows.proofs.Keeps.{pivot-keeps}
use Rattle.define_legs.specs.Chains.{IsNext, IsChain, Leads, bases_of, PivotsAreFew}
use Rattle.define_legs.proofs.Frames.{stays-open}
use Rattle.define_legs.proofs.Short.{chain-short}

-- a chain with one table more at its end
push-chain : (tables : List Table) (n : ℕ) (y : Table) → IsChain tables → length tables ≡ suc n → IsInOrder y → y.in_stage ≡ true → ((d : Table) → IsNext (get_or tables n d) y) → IsChain (tables ++ y ∷ [])
push-chain tables n y chain count order open_now last = record {
  in_order = All-push IsInOrder tables y chain.in_order order;
  open_now = All-push (λ table. table.in_stage ≡ true) tables y chain.open_now open_now;
  next = λ k d l. by k d l (cases_lt (suc k) (length tables));
}
  where
    by : (k : ℕ) (d : Table) → suc k < length (tables ++ y ∷ []) → (suc k < length tables) ⊎ (length tables ≤ suc k) → IsNext (get_or (tables ++ y ∷ []) k d) (get_or (tables ++ y ∷ []) (suc k) d)
    by k d l (inl m) =
        subst (λ t. IsNext t (get_or (tables ++ y ∷ []) (suc k) d)) (sym (get_or_append_left tables (y ∷ []) d k (omega arith)))
        (subst (IsNext (get_or tables k d)) (sym (get_or_append_left tables (y ∷ []) d (suc k) m)) (chain.next k d m))
    by k d l (inr m) =
        let e : k ≡ n = omega (arith, length_push tables y) in
        subst (λ t. IsNext t (get_or (tables ++ y ∷ []) (suc k) d)) (sym (get_or_append_left tables (y ∷ []) d k (omega arith) ∙ ap (λ j. get_or tables j d) e))
        (subst (IsNext (get_or tables n d)) (sym (get_or_push tables y d (suc k) (omega arith))) (last d))

-- a chain of n + 1 tables, from `first` to `last`
record IsChainTo (first last : Table) (n : ℕ) : Type 0 where
  tables : List Table
  chain : IsChain tables
  count : length tables ≡ suc n
  begins : (d : Table) → get_or tables 0 d ≡ first
  ends : (d : Table) → get_or tables n d ≡ last

chain-to : (first last : Table) (n : ℕ) → IsInOrder first → first.in_stage ≡ true → Leads n first last → IsChainTo first last n
chain-to first last zero h open_now e = record {
  tables = first ∷ [];
  chain = record {
    in_order = All-from_recursion IsInOrder (first ∷ []) (h, tt);
    open_now = All-from_recursion (λ table. table.in_stage ≡ true) (first ∷ []) (open_now, tt);
    next = λ k d l. absurd (omega arith);
  };
  count = refl;
  begins = λ d. refl;
  ends = λ d. e;
}
chain-to first last (suc n) h open_now (table, rest, next) =
    let g = chain-to first table n h open_now rest in
    let at_end : n < length g.tables = omega (arith, g.count) in
    let order : IsInOrder table = subst IsInOrder (g.ends first) (g.chain.in_order n first at_end) in
    let open_then : table.in_stage ≡ true = subst (λ t. t.in_stage ≡ true) (g.ends first) (g.chain.open_now n first at_end) in
    record {
      tables = g.tables ++ last ∷ [];
      chain = push-chain g.tables n last g.chain g.count (pivot-keeps table order open_then next.row next.entering next.chosen last next.pivoted) (stays-open table last next.row next.entering next.pivoted ∙ open_then)
          (λ d. subst (λ t. IsNext t last) (sym (g.ends d)) next);
      count = omega (arith, length_push g.tables last, g.count);
      begins = λ d. get_or_append_left g.tables (last ∷ []) d 0 (omega (arith, g.count)) ∙ g.begins d;
      ends = λ d. get_or_push g.tables last d (suc n) g.count;
    }

pub pivots-few : PivotsAreFew
pivots-few first last n h open_now leads =
    let g = chain-to first last n h open_now leads in
    let l = chain-short g.tables first g.chain (omega (arith, g.count)) in
    let e : bases_of (get_or g.tables 0 first) ≡ bases_of first = ap bases_of (g.begins first) in
    omega (arith, l, e, g.count)
