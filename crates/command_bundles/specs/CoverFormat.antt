-- What the input of `check-cover` is read as: a cover. Builds on Subjects of `command_shell`, and on the texts of covers.
use Rattle.std.specs.Prelude.{◌≡◌, ℕ, List}
use Rattle.command_shell.specs.Subjects.{Format}
use Rattle.define_covers.specs.CoverReading.{read_cover}
use Rattle.define_covers.specs.CoverText.{IsCover, cover_spelling}
use Rattle.define_covers.specs.Covers.{Cover}

-- the bytes are the text of this cover
pub record IsCoverText (cover : Cover) (bytes : List ℕ) : Type 0 where
  pub is_cover : IsCover cover
  pub spelled : bytes ≡ cover_spelling cover

abbrev pub cover_format : Format Cover
cover_format = record { read = read_cover; spells = IsCoverText }
