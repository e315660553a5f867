use Rattle.std.proofs.Common.{◌≡◌, ℕ, ◌+◌, ◌<◌, Bool, true, false, List, [], length, get_or, sym, ap, ◌∙◌, arith, subst, ⊎_elim}
use Rattle.std.specs.List.{enumerate_from, list_all}
use Rattle.std.proofs.lemmas.Bool.{cases_eq}
use Rattle.std.proofs.lemmas.List.{get_or_default}
use Rattle.define_pools.proofs.Each.{list_all-enumerated}
use Rattle.define_pools.specs.Pool.{Category, Volunteer, is_within, members_with, meets_quotas}
use Rattle.check_reasons.proofs.Enumerated.{one_fails}
use Rattle.check_reasons.proofs.quotas.meet_quotas.Goals as goal

-- the panel meets the bounds of the values of category `k`
abbrev met : List Volunteer → List ℕ → ℕ × Category → Bool
met volunteers members (k, category) = list_all (λ (v, value). is_within value (members_with volunteers members k v)) (enumerate_from 0 category.values)

abbrev none : Category
none = record { name = []; values = [] }

-- If `said` is the test of `category`, which is in place `k`, it is the test of the list's element in place `k`.
at_index : (categories : List Category) (volunteers : List Volunteer) (members : List ℕ) (k : ℕ) (d category : Category) (said : Bool) → k < length categories → category ≡ get_or categories k category →
    said ≡ met volunteers members (k, category) → met volunteers members (k, get_or categories k d) ≡ said
at_index categories volunteers members k d category said l e is =
    ap (λ category. met volunteers members (k, category)) (get_or_default categories k d category l ∙ sym e) ∙ sym is

one_not_met : (categories : List Category) (volunteers : List Volunteer) (members : List ℕ) (k : ℕ) → k < length categories → met volunteers members (k, get_or categories k none) ≡ false →
    false ≡ meets_quotas categories volunteers members
one_not_met categories volunteers members k l e = sym (one_fails (met volunteers members) categories k none l e)

one_more : (categories : List Category) (volunteers : List Volunteer) (members : List ℕ) (n : ℕ) → ((k : ℕ) (d : Category) → k < n → met volunteers members (k, get_or categories k d) ≡ true) →
    ((d : Category) → met volunteers members (n, get_or categories n d) ≡ true) → (k : ℕ) (d : Category) → k < n + 1 → met volunteers members (k, get_or categories k d) ≡ true
one_more categories volunteers members n before here k d l =
    ⊎_elim (λ (same : k ≡ n). ap (λ k. met volunteers members (k, get_or categories k d)) same ∙ here d) (λ (apart : k ≡ n → ⊥). before k d (omega arith)) (cases_eq k n)

all_met : (categories : List Category) (volunteers : List Volunteer) (members : List ℕ) → ((k : ℕ) (d : Category) → k < length categories → met volunteers members (k, get_or categories k d) ≡ true) →
    true ≡ meets_quotas categories volunteers members
all_met categories volunteers members each =
    sym (list_all-enumerated (met volunteers members) 0 categories none (λ k l. let at : k ≡ 0 + k = omega arith in subst (λ n. met volunteers members (n, get_or categories k none) ≡ true) at (each k none l)))

pub returns-then-not-met : goal.returns-then-not-met
returns-then-not-met c =
    one_not_met c.args.categories.now c.args.volunteers.now c.args.members.now c.loop-c.c c.loop-c-test.true (at_index c.args.categories.now c.args.volunteers.now c.args.members.now c.loop-c.c none c.index-categories-c.result c.in_ok-met.met c.loop-c-test.true c.index-categories-c.is c.in_ok-met.ensures ∙ c.if-not-met.true)

pub loop-c-preserved : goal.loop-c-preserved
loop-c-preserved c =
    one_more c.args.categories.now c.args.volunteers.now c.args.members.now c.loop-c.c c.loop-c.invariant (λ d. at_index c.args.categories.now c.args.volunteers.now c.args.members.now c.loop-c.c d c.index-categories-c.result c.in_ok-met.met c.loop-c-test.true c.index-categories-c.is c.in_ok-met.ensures ∙ c.if-not-met.false)

pub returns : goal.returns
returns c = all_met c.args.categories.now c.args.volunteers.now c.args.members.now (λ k d l. c.loop-c.invariant k d (omega arith))
