use Rattle.std.proofs.Common.{◌≡◌, [], length, pos, ap, sym, ◌∙◌, arith}
use Rattle.std.specs.Option.{option_map}
use Rattle.exact_table.specs.Parts.{with_rows}
use Rattle.exact_table.specs.Best.{best_of}
use Rattle.exact_table.proofs.BestLaws.{leaving-best}
use Rattle.exact_table.proofs.choosing.row_to_leave.Goals as goal

pub returns-in-None : goal.returns-in-None
returns-in-None c =
    let all : c.loop-row.row ≡ length c.args.rows.now = omega arith in
    sym (ap (option_map (λ b. b.row)) c.in-None.is)
    ∙ c.loop-row.invariant.0
    ∙ ap (best_of (with_rows c.args.frame.now c.args.rows.now c.args.basic.now) c.args.variable) all
    ∙ leaving-best (with_rows c.args.frame.now c.args.rows.now c.args.basic.now) c.args.variable (λ i l. c.requires.rows.sides i (record { b = pos 0; a = [] }) l) c.requires.different c.requires.basic

pub returns-in-Some : goal.returns-in-Some
returns-in-Some c =
    let all : c.loop-row.row ≡ length c.args.rows.now = omega arith in
    sym (ap (option_map (λ b. b.row)) c.in-Some.is)
    ∙ c.loop-row.invariant.0
    ∙ ap (best_of (with_rows c.args.frame.now c.args.rows.now c.args.basic.now) c.args.variable) all
    ∙ leaving-best (with_rows c.args.frame.now c.args.rows.now c.args.basic.now) c.args.variable (λ i l. c.requires.rows.sides i (record { b = pos 0; a = [] }) l) c.requires.different c.requires.basic
