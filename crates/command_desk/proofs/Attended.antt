-- `AreAttended` holds of visits and then later visits if it holds of both; and it holds of no visits if door and keeper are as before.
use Rattle.std.proofs.Common.{◌≡◌, ℕ, ◌+◌, ◌++◌, List, [], ◌∷◌, length, take, drop, Option, Some, None, refl, sym, ap, subst, ◌∙◌, append_assoc, append-nil, length-append, arith}
use Rattle.std.specs.Prelude.{map, option_map, IfSome}
use Rattle.std.proofs.Math.Seq.{take-add}
use Rattle.std.proofs.lemmas.List.{map-append, drop-drop}
use Rattle.office_http.specs.Visits.{Kept, LinkTold, Visit}
use Rattle.outside.specs.Links.{DoorLinks}
use Rattle.command_desk.specs.Serving.{AreAttended, AreVisits, after_visits}

-- the links of a door, made of the record's three fields
abbrev pub links_of : List LinkTold → ℕ → List LinkTold → DoorLinks LinkTold
links_of coming given back = record { coming = coming; given = given; back = back }

-- links of a door are equal if their fields are equal
pub same_links : (coming other back others : List LinkTold) (given number : ℕ) → coming ≡ other → given ≡ number → back ≡ others → links_of coming given back ≡ links_of other number others
same_links coming other back others given number c g b =
    ap (λ (l : List LinkTold). links_of l given back) c ∙ ap (λ (n : ℕ). links_of other n back) g ∙ ap (λ (l : List LinkTold). links_of other number l) b

-- ---- visits after visits

more_visits : (before between after : Kept) (first second : List Visit) → AreVisits before first between → AreVisits between second after → AreVisits before (first ++ second) after
more_visits before between after [] second same chain = subst (λ (k : Kept). AreVisits k second after) same chain
more_visits before between after (visit ∷ first) second (found, right, chain) later = (found, right, more_visits visit.keeper_after between after first second chain later)

after_more : (first second : List Visit) (links : DoorLinks LinkTold) → after_visits second (after_visits first links) ≡ after_visits (first ++ second) links
after_more first second links =
    let coming : drop (length second) (drop (length first) links.coming) ≡ drop (length (first ++ second)) links.coming =
    drop-drop (length second) (length first) links.coming ∙ ap (λ (n : ℕ). drop n links.coming) (sym (length-append first second)) in
    let given : (links.given + length first) + length second ≡ links.given + length (first ++ second) = omega (arith, length-append first second) in
    let back : (links.back ++ map (λ (v : Visit). v.link_after) first) ++ map (λ (v : Visit). v.link_after) second ≡ links.back ++ map (λ (v : Visit). v.link_after) (first ++ second) =
    append_assoc links.back (map (λ (v : Visit). v.link_after) first) (map (λ (v : Visit). v.link_after) second)
    ∙ ap (λ (later : List LinkTold). links.back ++ later) (sym (map-append (λ (v : Visit). v.link_after) first second)) in
    same_links _ _ _ _ _ _ coming given back

given_more : (first second : List Visit) (coming : List LinkTold) → map (λ (v : Visit). v.link) first ≡ take (length first) coming →
    map (λ (v : Visit). v.link) second ≡ take (length second) (drop (length first) coming) → map (λ (v : Visit). v.link) (first ++ second) ≡ take (length (first ++ second)) coming
given_more first second coming one two =
    map-append (λ (v : Visit). v.link) first second
    ∙ ap (λ (l : List LinkTold). l ++ map (λ (v : Visit). v.link) second) one
    ∙ ap (λ (l : List LinkTold). take (length first) coming ++ l) two
    ∙ sym (take-add (length first) (length second) coming)
    ∙ ap (λ (n : ℕ). take n coming) (sym (length-append first second))

links_more : (links between after : Option (DoorLinks LinkTold)) (first second : List Visit) →
    IfSome links (λ told. map (λ (v : Visit). v.link) first ≡ take (length first) told.coming) → between ≡ option_map (after_visits first) links →
    IfSome between (λ told. map (λ (v : Visit). v.link) second ≡ take (length second) told.coming) → after ≡ option_map (after_visits second) between →
    IfSome links (λ told. map (λ (v : Visit). v.link) (first ++ second) ≡ take (length (first ++ second)) told.coming) × (after ≡ option_map (after_visits (first ++ second)) links)
links_more None between after first second one door two later = (tt, later ∙ ap (λ (l : Option (DoorLinks LinkTold)). option_map (after_visits second) l) door)
links_more (Some told) between after first second one door two later =
    let so = subst (λ (l : Option (DoorLinks LinkTold)). IfSome l (λ now. map (λ (v : Visit). v.link) second ≡ take (length second) now.coming)) door two in (
      given_more first second told.coming one so,
      later ∙ ap (λ (l : Option (DoorLinks LinkTold)). option_map (after_visits second) l) door ∙ ap (λ (l : DoorLinks LinkTold). Some l) (after_more first second told),
    )

pub attended_more : (links between after : Option (DoorLinks LinkTold)) (kept mid left : Kept) (first second : List Visit) →
    AreAttended links kept first between mid → AreAttended between mid second after left → AreAttended links kept (first ++ second) after left
attended_more links between after kept mid left first second one two =
    let both = links_more links between after first second one.given one.door two.given two.door in
    record { chain = more_visits kept mid left first second one.chain two.chain; given = both.0; door = both.1 }

-- ---- no visits

after_none : (links : Option (DoorLinks LinkTold)) → links ≡ option_map (after_visits []) links
after_none None = refl
after_none (Some told) =
    let given : told.given ≡ told.given + 0 = omega arith in
    ap (λ (l : DoorLinks LinkTold). Some l) (same_links _ _ _ _ _ _ refl given (sym (append-nil told.back)))

given_none : (links : Option (DoorLinks LinkTold)) → IfSome links (λ told. map (λ (v : Visit). v.link) [] ≡ take 0 told.coming)
given_none None = tt
given_none (Some told) = refl

-- if the door's links and the keeper are as before, no link was attended
pub none_attended : (links after : Option (DoorLinks LinkTold)) (kept left : Kept) → after ≡ links → left ≡ kept → AreAttended links kept [] after left
none_attended links after kept left door same = record { chain = same; given = given_none links; door = door ∙ after_none links }
