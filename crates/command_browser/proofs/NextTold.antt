-- The text of the pool after a round, told by marks.
use Rattle.std.proofs.Common.{◌≡◌, ◌∙◌, ℕ, List, ap, filter, length}
use Rattle.std.specs.List.{range_with_len}
use Rattle.define_bundles.specs.PoolText.{spelling}
use Rattle.define_offices.specs.Pools.{next_pool}
use Rattle.define_pools.specs.Pool.{Pool, Volunteer}
use Rattle.command_shell.specs.Answers.{Prints}
use Rattle.command_shell.specs.declared.status.Printed.TheVariants.{Done}
use Rattle.command_browser.specs.NextPools.{dropped_by, is_dropped, members_by}

pub next_told : (marks : List ℕ) (pool next : Pool) (volunteers : List Volunteer) (panel drops given text : List ℕ) → panel ≡ members_by marks pool →
    volunteers ≡ pool.volunteers → drops ≡ filter (is_dropped marks) (range_with_len 0 (length volunteers)) → given ≡ drops → next ≡ next_pool pool panel given → text ≡ spelling next →
    Prints Done text ≡ Prints Done (spelling (next_pool pool (members_by marks pool) (dropped_by marks pool)))
next_told marks pool next volunteers panel drops given text is_panel all is_drops is_given is_next is_text =
    let dropped : given ≡ dropped_by marks pool = is_given ∙ (is_drops ∙ ap (λ (some : List Volunteer). filter (is_dropped marks) (range_with_len 0 (length some))) all) in
    let same : next ≡ next_pool pool (members_by marks pool) (dropped_by marks pool) =
    is_next ∙ (ap (λ (some : List ℕ). next_pool pool some given) is_panel ∙ ap (λ (some : List ℕ). next_pool pool (members_by marks pool) some) dropped) in
    ap (λ (some : List ℕ). Prints Done some) (is_text ∙ ap spelling same)
