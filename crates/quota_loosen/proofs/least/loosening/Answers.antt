use Rattle.std.proofs.Common.{◌≡◌, true, List, ℕ, ap, sym, subst, ◌∙◌}
use Rattle.define_quotas.specs.Teams.{is_team}
use Rattle.define_searches.specs.Compositions.{first_panel}
use Rattle.quota_loosen.proofs.Loosenings.{first_is_team, loosening_is}
use Rattle.quota_loosen.proofs.least.loosening.Goals as goal

pub loosened-requires : goal.loosened-requires
loosened-requires c =
    let pool = c.args.pool.now in let counts = c.args.counts.now in
    subst (λ (panel : List ℕ). is_team pool panel ≡ true) (sym (c.in_ok-panel.ensures ∙ ap (λ all. first_panel all counts) c.requires.classes)) (first_is_team pool counts c.requires.counts)

pub returns : goal.returns
returns c =
    loosening_is c.args.pool.now c.args.classes.now c.args.counts.now c.args.total c.in_ok-pool.pool c.in_ok-panel.panel c.requires.classes c.requires.counts c.requires.total c.in_ok-panel.ensures c.in_ok-pool.ensures
