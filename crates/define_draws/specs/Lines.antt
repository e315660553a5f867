-- The lines of a seal and of a draw, each without its LF. An office replies and reports them, and `seal` and `draw` print them.
use Rattle.std.specs.Prelude.{ℕ, List, [], ◌∷◌, map, codes}
use Rattle.std.specs.Fmt.{decimal}
use Rattle.define_lines.specs.Lines.{line_of}
use Rattle.define_pools.specs.Pool.{Pool, volunteer}
use Rattle.define_bundles.specs.BundleText.{Bundle, bundle_spelling}
use Rattle.define_draws.specs.Draw.{Drawn}
use Rattle.define_draws.specs.Seal.{seal_of}

-- the seal of a bundle: the digest of its text
abbrev pub bundle_seal : Bundle → List ℕ
bundle_seal bundle = seal_of (bundle_spelling bundle)

abbrev pub seal_line : Bundle → List ℕ
seal_line bundle = line_of (codes "seal" ∷ bundle_seal bundle ∷ [])

-- the ids of a panel's members
abbrev pub member_ids : Pool → List ℕ → List (List ℕ)
member_ids pool panel = map (λ i. (volunteer pool.volunteers i).id) panel

-- the line of a ticket: its number, and how many digits were read
abbrev pub ticket_line : ℕ → ℕ → List ℕ
ticket_line ticket used = line_of (codes "ticket" ∷ decimal ticket ∷ decimal used ∷ [])

-- the line of a panel: the ids of its members
abbrev pub panel_line : Pool → List ℕ → List ℕ
panel_line pool panel = line_of (codes "panel" ∷ member_ids pool panel)

-- two lines: the ticket with how many digits were read, and the ids of the panel's members
abbrev pub drawn_lines : Bundle → Drawn → List (List ℕ)
drawn_lines bundle drawn = ticket_line drawn.ticket drawn.used ∷ panel_line bundle.pool drawn.panel ∷ []
