use Rattle.std.proofs.Common.{◌≡◌, ℕ, List, [], ◌∷◌, true, false, cond, Ok, Err}
use Rattle.std.specs.List.{list_all}
use Rattle.define_pools.specs.Pool.{Category}
use Rattle.define_offices.specs.Facts.{AreRules}
use Rattle.define_imports.specs.Cells.{has_once, header_fault, read_from}
use Rattle.define_imports.specs.Rules.{after_rule, rule_columns, rule_kind, rules_of}
use Rattle.define_imports.proofs.RightRules.{rules_are_right}
use Rattle.define_imports.proofs.read_rules_are_rules.Goals as goal

are_right : (records : List (List (List ℕ))) (categories : List Category) → rules_of records ≡ Ok categories → AreRules categories
are_right [] categories h = absurd cc
are_right (header ∷ []) categories h = absurd cc
are_right (header ∷ first ∷ later) categories h =
    elim (list_all (has_once header) rule_columns) as (λ b. cond b (read_from (rule_kind header) (after_rule header) 2 [] (first ∷ later)) (Err header_fault) ≡ Ok categories → AreRules categories) [
      | true ↦ λ k. rules_are_right header first later categories k
      | false ↦ λ k. absurd cc
    ] h

pub returns : goal.returns
returns c records categories h = are_right records categories h
