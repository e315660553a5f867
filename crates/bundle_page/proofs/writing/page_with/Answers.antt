use Rattle.std.proofs.Common.{◌≡◌, ℕ, List, length, unsigned_abs, FitsSigned, ap, subst, ◌∙◌, rules}
use Rattle.std.specs.Int.{w128}
use Rattle.std.specs.Prelude.{IfOk}
use Rattle.std.proofs.lemmas.Int.{to_z-of_z}
use Rattle.define_pools.specs.Certificate.{Answer}
use Rattle.define_pools.specs.Lottery.{Lottery, counts}
use Rattle.define_pools.specs.Pool.{Pool}
use Rattle.bundle_page.specs.Page.{page_with, text_of_counts}
use Rattle.bundle_page.proofs.writing.page_with.Goals as goal

pub returns : goal.returns
returns c =
    let pool = c.args.bundle.now.pool in
    let lottery = c.args.bundle.now.answer.lottery in
    let seal = c.args.seal.now in
    let drawn = c.args.drawn.now in
    let head = c.args.head.now in
    let its : c.lottery-lottery.result.now ≡ lottery = c.lottery-lottery.ensures ∙ ap (λ (a : Answer). a.lottery) c.answer.ensures.value in
    let all : c.deref.result.now ≡ counts pool lottery =
    c.deref.ensures.value ∙ c.in_ok-counts.ensures.value ∙ ap (λ (p : Pool). counts p c.lottery-lottery.result.now) c.pool.ensures ∙ ap (λ (l : Lottery). counts pool l) its in
    let fits : FitsSigned w128 c.total.result = search rules in
    let total : c.unsigned_abs.result ≡ lottery.total =
    c.unsigned_abs.ensures.value ∙ ap unsigned_abs (to_z-of_z w128 c.total.result fits ∙ c.total.ensures) ∙ ap (λ (l : Lottery). l.total) its in
    let panels : length c.rows.result.now ≡ length lottery.rows = ap length (c.rows.ensures.value ∙ ap (λ (l : Lottery). l.rows) its) in
    let same : text_of_counts head c.pool-2.result.now c.deref.result.now c.unsigned_abs.result (length c.rows.result.now) seal drawn ≡ page_with head c.args.bundle.now seal drawn =
    ap (λ (p : Pool). text_of_counts head p c.deref.result.now c.unsigned_abs.result (length c.rows.result.now) seal drawn) c.pool-2.ensures
    ∙ ap (λ (xs : List ℕ). text_of_counts head pool xs c.unsigned_abs.result (length c.rows.result.now) seal drawn) all
    ∙ ap (λ n. text_of_counts head pool (counts pool lottery) n (length c.rows.result.now) seal drawn) total
    ∙ ap (λ n. text_of_counts head pool (counts pool lottery) lottery.total n seal drawn) panels in
    subst (λ (t : List ℕ). IfOk c.page_of_counts.result (λ text. text.items ≡ t)) same c.page_of_counts.ensures
