use Rattle.std.proofs.Common.{◌≡◌, ℕ, List, [], ◌∷◌, ◌++◌, ap, ◌∙◌, arith}
use Rattle.std.specs.Prelude.{slice_index}
use Rattle.define_lines.specs.Lines.{text_of}
use Rattle.define_pools.specs.Pool.{Volunteer}
use Rattle.define_offices.proofs.LineSteps.{line_of_each}
use Rattle.command_questions.specs.Chances.{chance_line}
use Rattle.command_questions.proofs.chances.push_chances.Goals as goal

pub loop-i-preserved : goal.loop-i-preserved
loop-i-preserved c =
    let volunteers = c.args.volunteers.now in
    let counts = c.args.counts.now in
    let total = c.args.total in
    let i = c.loop-i.i in
    let v = c.index-volunteers-i.result in
    let before = c.loop-i.text.items in
    let line : ℕ × Volunteer → List ℕ = λ (k, volunteer). chance_line volunteer.id (slice_index counts k) total in
    let added : c.push_chance.new.text.items ≡ before ++ text_of (line (i, v) ∷ []) =
    c.in_ok-push_chance.ensures ∙ ap (λ id. before ++ text_of (chance_line id (slice_index counts i) total ∷ [])) c.id.ensures in
    line_of_each volunteers i v (omega arith) c.index-volunteers-i.is line c.args.text.now.items before c.push_chance.new.text.items c.loop-i.invariant added
