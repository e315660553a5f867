use Rattle.std.proofs.Common.{◌≡◌, ℕ, List, [], ◌∷◌, ◌++◌, length, true, ap, sym, ◌∙◌, ltb, subst}
use Rattle.std.specs.List.{list_all}
use Rattle.std.proofs.lemmas.Bool.{and_parts}
use Rattle.define_lines.specs.Lines.{text_of}
use Rattle.define_lines.proofs.LineLemmas.{text_of-append}
use Rattle.define_quotas.proofs.WidestBounds.{team_parts}
use Rattle.define_pools.specs.Pool.{Category, Pool}
use Rattle.command_meanings.specs.Lines.{panel_line}
use Rattle.command_meanings.specs.LooseningLines.{moved_lines, total_line}
use Rattle.command_quotas.proofs.lines.loosening_text.Goals as goal

pub push_panel-requires : goal.push_panel-requires
push_panel-requires c =
    let pool = c.args.pool.now in
    let all : list_all (λ i. ltb i (length pool.volunteers)) c.args.loosened.now.panel ≡ true =
    (and_parts _ _ (team_parts pool c.args.loosened.now.panel c.requires).of_size).1 in
    subst (λ (members : List ℕ). list_all (λ i. ltb i (length pool.volunteers)) members ≡ true) (sym c.panel.ensures) all

pub returns : goal.returns
returns c =
    let pool = c.args.pool.now in
    let loosening = c.args.loosened.now in
    let total = text_of (total_line loosening.total ∷ []) in
    let lines = moved_lines pool.categories loosening.pool.categories in
    let first : c.push_total.new.text.items ≡ total =
    c.in_ok-push_total.ensures ∙ (ap (λ before. before ++ text_of (total_line c.total.result ∷ [])) c.new-text.ensures.items ∙ ap (λ n. text_of (total_line n ∷ [])) c.total.ensures) in
    let moved : c.push_categories.new.text.items ≡ text_of (total_line loosening.total ∷ lines) =
    c.in_ok-push_categories.ensures
    ∙ (ap (λ before. before ++ text_of (moved_lines c.categories.result.now c.categories-2.result.now)) first
    ∙ (ap (λ (before : List Category). total ++ text_of (moved_lines before c.categories-2.result.now)) c.categories.ensures
    ∙ (ap (λ (after : List Category). total ++ text_of (moved_lines pool.categories after)) (c.categories-2.ensures ∙ ap (λ (made : Pool). made.categories) c.pool.ensures)
    ∙ text_of-append [] (total_line loosening.total ∷ []) lines))) in
    c.in_ok-push_panel.ensures
    ∙ (ap (λ before. before ++ panel_line pool c.panel.result.now) moved
    ∙ ap (λ (members : List ℕ). text_of (total_line loosening.total ∷ lines) ++ panel_line pool members) c.panel.ensures)
