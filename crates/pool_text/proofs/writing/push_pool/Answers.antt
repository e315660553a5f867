use Rattle.std.proofs.Common.{◌≡◌, [], ◌∷◌, ◌++◌, map, ap, ◌∙◌}
use Rattle.std.specs.Prelude.{codes}
use Rattle.std.specs.List.{flat_map}
use Rattle.std.proofs.lemmas.Result.{on_ok_weaker}
use Rattle.define_lines.specs.Lines.{line_of, text_of}
use Rattle.define_bundles.specs.PoolText.{version_line, version_of, size_line, category_lines, volunteer_line, household_lines, standing_lines, end_line}
use Rattle.pool_text.proofs.WritingLemmas.{pool_written}
use Rattle.pool_text.proofs.writing.push_pool.Goals as goal

pub returns : goal.returns
returns c =
    let text = c.args.text.now.items in
    let pool = c.args.pool.now in
    let versioned : c.push_line.new.text.items ≡ text ++ text_of (version_line (version_of pool) ∷ []) =
    c.in_ok-push_line.ensures.whole ∙ (ap (λ v. text ++ text_of (line_of (codes "pool" ∷ v ∷ []) ∷ [])) c.version_word.ensures ∙ ap (λ version. text ++ text_of (version_line version ∷ [])) c.version_of.ensures) in
    let first = text ++ text_of (version_line (version_of pool) ∷ []) in
    let sized : c.push_size.new.text.items ≡ first ++ text_of (size_line pool.size ∷ []) =
    c.in_ok-push_size.ensures ∙ (ap (λ t. t ++ text_of (size_line c.size.result ∷ [])) versioned ∙ ap (λ n. first ++ text_of (size_line n ∷ [])) c.size.ensures) in
    let with_categories = c.in_ok-push_categories.ensures ∙ (ap (λ t. t ++ text_of (flat_map category_lines c.categories.result.now)) sized
    ∙ ap (λ cs. (first ++ text_of (size_line pool.size ∷ [])) ++ text_of (flat_map category_lines cs)) c.categories.ensures) in
    let before = (first ++ text_of (size_line pool.size ∷ [])) ++ text_of (flat_map category_lines pool.categories) in
    let with_volunteers = c.in_ok-push_volunteers.ensures ∙ (ap (λ t. t ++ text_of (map (volunteer_line c.categories-2.result.now) c.volunteers.result.now)) with_categories
    ∙ (ap (λ cs. before ++ text_of (map (volunteer_line cs) c.volunteers.result.now)) c.categories-2.ensures ∙ ap (λ vs. before ++ text_of (map (volunteer_line pool.categories) vs)) c.volunteers.ensures)) in
    let listed = before ++ text_of (map (volunteer_line pool.categories) pool.volunteers) in
    let with_households = c.in_ok-push_households.ensures ∙ (ap (λ t. t ++ text_of (household_lines c.volunteers-2.result.now)) with_volunteers ∙ ap (λ vs. listed ++ text_of (household_lines vs)) c.volunteers-2.ensures) in
    let housed = listed ++ text_of (household_lines pool.volunteers) in
    let with_standings = c.in_ok-push_standings.ensures ∙ (ap (λ t. t ++ text_of (standing_lines c.volunteers-3.result.now)) with_households ∙ ap (λ vs. housed ++ text_of (standing_lines vs)) c.volunteers-3.ensures) in
    on_ok_weaker c.push_line-2.result (λ e. e ∙ (ap (λ t. t ++ text_of (end_line ∷ [])) with_standings ∙ pool_written text pool)) c.push_line-2.ensures.whole
