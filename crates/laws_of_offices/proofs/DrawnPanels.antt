-- If a lottery is certified, each panel that digits draw from it, or from the lottery shortened to a number of tickets, has nobody who is
-- gone.
use Rattle.std.proofs.Common.{◌≡◌, ℕ, zero, suc, ◌+◌, Bool, true, ltb, List, [], ◌∷◌, map, length, get_or, Option, Some, None, Result, Ok, Err, ◌⊎◌, inl, inr, ⊎_elim, refl, arith, subst}
use Rattle.std.specs.List.{list_all}
use Rattle.std.specs.Prelude.{unsigned_abs}
use Rattle.std.proofs.lemmas.Bool.{and_parts, false≢true, ltb-true}
use Rattle.define_pools.specs.declared.Standing.{Standing}
use Rattle.define_pools.specs.declared.Standing.TheVariants as standing
use Rattle.define_pools.specs.Certificate.{Certifies}
use Rattle.define_pools.specs.Lists.{includes}
use Rattle.define_pools.specs.Lottery.{Lottery, LotteryRow}
use Rattle.define_pools.specs.Pool.{Pool, Volunteer, allows, is_quota_panel, volunteer}
use Rattle.define_pools.proofs.AllPanels.{quota_parts}
use Rattle.define_pools.proofs.Each.{enumerated-each}
use Rattle.define_bundles.specs.BundleText.{Bundle}
use Rattle.define_draws.specs.declared.DiceStop.{DiceStop}
use Rattle.define_draws.specs.declared.Named.{Named}
use Rattle.define_draws.specs.Dice.{name_ticket}
use Rattle.define_draws.specs.Draw.{drawn_with, panel_at}
use Rattle.define_draws.specs.Short.{tickets_by_weight}
use Rattle.define_draws.specs.Tickets.{row_of, weights_of}
use Rattle.define_draws.proofs.Rows.{kept_pass}
use Rattle.define_offices.specs.Pools.{drawn_lottery, drawn_of, drawn_or_nothing, lottery_in}
use Rattle.laws_of_offices.proofs.Members.{member_passes}

-- nobody on a quota panel is gone
quota_panel_has : (pool : Pool) (panel : List ℕ) (i : ℕ) → is_quota_panel pool panel ≡ true → includes panel i ≡ true → (volunteer pool.volunteers i).standing ≡ standing.Gone → ⊥
quota_panel_has pool panel i is member gone =
    let quota = quota_parts pool panel is in
    let nobody : Volunteer = record { id = []; values = []; standing = standing.Gone; household = None } in
    let inside = ltb-true i (length pool.volunteers) (member_passes (λ k. ltb k (length pool.volunteers)) panel i quota.below member) in
    let here = enumerated-each (λ (n, v). allows v.standing (includes panel n)) 0 pool.volunteers quota.standings i nobody inside in
    let own : 0 + i ≡ i = omega arith in
    let allowed : allows (volunteer pool.volunteers i).standing (includes panel i) ≡ true = subst (λ n. allows (volunteer pool.volunteers i).standing (includes panel n) ≡ true) own here in
    false≢true (subst (λ (s : Standing). allows s true ≡ true) gone (subst (λ b. allows (volunteer pool.volunteers i).standing b ≡ true) member allowed))

-- the panel at a place of rows whose panels pass a test passes it, or there is no row and the panel is empty
panel_passes : (p : List ℕ → Bool) (rows : List LotteryRow) (k : ℕ) → list_all (λ (row : LotteryRow). p row.panel) rows ≡ true →
    (p (get_or (map (λ (row : LotteryRow). row.panel) rows) k []) ≡ true) ⊎ (get_or (map (λ (row : LotteryRow). row.panel) rows) k [] ≡ [])
panel_passes p [] k all = inr refl
panel_passes p (row ∷ rows) zero all = inl (and_parts (p row.panel) (list_all (λ (r : LotteryRow). p r.panel) rows) all).0
panel_passes p (row ∷ rows) (suc k) all = panel_passes p rows k (and_parts (p row.panel) (list_all (λ (r : LotteryRow). p r.panel) rows) all).1

-- the panels of a shortened lottery are panels of the lottery
short_passes : (p : List ℕ → Bool) (lottery : Lottery) (tickets : Option ℕ) → list_all (λ (row : LotteryRow). p row.panel) lottery.rows ≡ true →
    list_all (λ (row : LotteryRow). p row.panel) (lottery_in tickets lottery).rows ≡ true
short_passes p lottery None all = all
short_passes p lottery (Some tickets) all = kept_pass p lottery.rows (tickets_by_weight lottery.total tickets (weights_of lottery)) all

-- nobody on a panel that digits draw from a certified lottery is gone
pub drawn_panel_has : (bundle : Bundle) (tickets : Option ℕ) (digits : List ℕ) (i : ℕ) → Certifies bundle.pool bundle.answer.lottery bundle.answer.stages →
    includes (drawn_of bundle tickets digits).panel i ≡ true → (volunteer bundle.pool.volunteers i).standing ≡ standing.Gone → ⊥
drawn_panel_has bundle tickets digits i certified = by (name_ticket lottery.total digits)
  where
    lottery : Lottery
    lottery = drawn_lottery bundle tickets

    by : (named : Result Named DiceStop) → includes (drawn_or_nothing (drawn_with lottery named)).panel i ≡ true → (volunteer bundle.pool.volunteers i).standing ≡ standing.Gone → ⊥
    by (Err stop) member gone = false≢true member
    by (Ok named) member gone =
        let row = row_of (weights_of lottery) (unsigned_abs named.ticket) in
        ⊎_elim (λ (is : is_quota_panel bundle.pool (panel_at lottery row) ≡ true). quota_panel_has bundle.pool (panel_at lottery row) i is member gone)
        (λ (none : panel_at lottery row ≡ []). false≢true (subst (λ panel. includes panel i ≡ true) none member))
        (panel_passes (is_quota_panel bundle.pool) lottery.rows row (short_passes (is_quota_panel bundle.pool) bundle.answer.lottery tickets certified.is_lottery.panels))
