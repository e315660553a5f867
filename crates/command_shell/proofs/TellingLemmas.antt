-- What out gains if a text is put in pieces.
use Rattle.std.proofs.Common.{ℕ, ◌+◌, List, take, drop, subst, sym, Option}
use Rattle.std.specs.Io.KnownBytes.{Appends}
use Rattle.std.proofs.KnownBytes.{Appends-trans}
use Rattle.std.proofs.Math.Seq.{take-add}
use Rattle.std.proofs.lemmas.List.{take-append-drop}
use Rattle.outside.specs.Content.{AppendsPart}
use Rattle.outside.proofs.ContentLaws.{AppendsPart-after, AppendsPart-append}

-- if a sink gained the first `start` bytes of a text and then a part of the next ones, it gained a part of the text
pub part_of_text : (a b c : Option (List ℕ)) (text : List ℕ) (start count : ℕ) → Appends a b (take start text) → AppendsPart b c (take count (drop start text)) → AppendsPart a c text
part_of_text a b c text start count whole part =
    let rest = drop start text in
    let later : AppendsPart b c rest =
    subst (AppendsPart b c) (take-append-drop count rest) (AppendsPart-append b c (take count rest) (drop count rest) part) in
    subst (AppendsPart a c) (take-append-drop start text) (AppendsPart-after a b c (take start text) rest whole later)

-- if a sink gained the first `start` bytes of a text and then the next `count`, it gained the first `start + count`
pub more_of_text : (a b c : Option (List ℕ)) (text : List ℕ) (start count : ℕ) → Appends a b (take start text) → Appends b c (take count (drop start text)) → Appends a c (take (start + count) text)
more_of_text a b c text start count first next =
    subst (Appends a c) (sym (take-add start count text)) (Appends-trans a b c (take start text) (take count (drop start text)) first next)
