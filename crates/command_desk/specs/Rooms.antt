-- The room for the line that `serve` tells at its end, which is taken before the door is opened. The contracts of src/lines.rt and
-- src/calling.rt cite it.
use Rattle.std.specs.Prelude.{◌≡◌, ◌≤◌, ℕ, List, [], ◌∷◌, codes, vec_capacity, Vec}
use Rattle.std.specs.Fmt.{decimal}
use Rattle.std.specs.Global.{Global}
use Rattle.command_shell.specs.Lines.{line}

-- an empty text that can take as many bytes as the line may have
pub record IsRoom (room : Vec ℕ Global) : Type 0 where
  pub empty : room.items ≡ []
  pub enough : 128 ≤ vec_capacity room

abbrev pub numbers_line : ℕ → ℕ → List ℕ
numbers_line served broken = line (codes "served" ∷ decimal served ∷ codes "broken" ∷ decimal broken ∷ [])
