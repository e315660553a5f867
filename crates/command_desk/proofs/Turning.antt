-- One turn at a door with links of any type: the door gives a link, the link is attended, and it comes back.
use Rattle.std.proofs.Common.{◌≡◌, ◌≤◌, ℕ, ◌+◌, ◌++◌, List, [], ◌∷◌, length, take, Option, Some, None, Result, refl, sym, ap, subst, ◌∙◌, length-append, arith}
use Rattle.std.specs.Prelude.{map, min, option_map, IfSome}
use Rattle.std.proofs.lemmas.List.{map-append}
use Rattle.office_http.specs.Visits.{IsAttended, Kept, LinkTold, Visit, visit}
use Rattle.office_http.specs.declared.attending.LinkFault.{LinkFault}
use Rattle.outside.specs.Links.{DoorLinks, IsOneOut, after_back, after_next, first_of}
use Rattle.command_desk.specs.DeskTold.{NoMoreBack, seen_links}
use Rattle.command_desk.specs.Serving.{AreAttended, after_visits}
use Rattle.command_desk.proofs.Attended.{same_links}

-- the links of a door, made of the record's three fields
abbrev pub parts : {L : Type 0} → List L → ℕ → List L → DoorLinks L
parts coming given back = record { coming = coming; given = given; back = back }

-- ---- a link is out from when it was given until it came back

is_out : {L : Type 0} (coming : List L) (given : ℕ) (back : List L) (link : L) → Some link ≡ first_of coming → length back ≤ given → IsOneOut (Some (after_next (parts coming given back)))
is_out [] given back link gave even = absurd (cc)
is_out (first ∷ rest) given back link gave even = omega arith

pub one_out : {L : Type 0} (links between : Option (DoorLinks L)) (link : L) → NoMoreBack links → IfSome links (λ told. Some link ≡ first_of told.coming) →
    between ≡ option_map after_next links → IsOneOut between
one_out None between link even gave next = subst IsOneOut (sym next) tt
one_out (Some told) between link even gave next = subst IsOneOut (sym next) (is_out told.coming told.given told.back link gave even)

is_back : {L : Type 0} (coming : List L) (given : ℕ) (back : List L) (link left : L) → Some link ≡ first_of coming → length back ≤ given →
    NoMoreBack (Some (after_back (after_next (parts coming given back)) left))
is_back [] given back link left gave even = absurd (cc)
is_back (first ∷ rest) given back link left gave even = omega (arith, length-append back (left ∷ []))

pub none_out : {L : Type 0} (links between after : Option (DoorLinks L)) (link left : L) → NoMoreBack links → IfSome links (λ told. Some link ≡ first_of told.coming) →
    between ≡ option_map after_next links → after ≡ option_map (λ told. after_back told left) between → NoMoreBack after
none_out {L} None between after link left even gave next last =
    subst NoMoreBack (sym (last ∙ ap (λ (l : Option (DoorLinks L)). option_map (λ told. after_back told left) l) next)) tt
none_out {L} (Some told) between after link left even gave next last =
    subst NoMoreBack (sym (last ∙ ap (λ (l : Option (DoorLinks L)). option_map (λ told. after_back told left) l) next)) (is_back told.coming told.given told.back link left gave even)

-- ---- the visit, as contracts see its link

is_first : {L : Type 0} (sees : L → LinkTold) (coming : List L) (link : L) → Some link ≡ first_of coming → sees link ∷ [] ≡ take 1 (map sees coming)
is_first sees [] link gave = absurd (cc)
is_first {L} sees (first ∷ rest) link gave = let same : link ≡ first = cc in ap (λ (l : L). sees l ∷ []) same

turned : {L : Type 0} (sees : L → LinkTold) (coming : List L) (given : ℕ) (back : List L) (link left : L) (it : Visit) → it.link_after ≡ sees left → Some link ≡ first_of coming →
    seen_links sees (after_back (after_next (parts coming given back)) left) ≡ after_visits (it ∷ []) (seen_links sees (parts coming given back))
turned sees [] given back link left it is gave = absurd (cc)
turned sees (first ∷ rest) given back link left it is gave =
    let count : given + min 1 (length (first ∷ rest)) ≡ given + length (it ∷ []) = omega arith in
    same_links _ _ _ _ _ _ refl count
    (map-append sees back (left ∷ []) ∙ ap (λ (told : LinkTold). map sees back ++ told ∷ []) (sym is))

-- if a link that was given is attended and comes back, one visit was made
pub one_attended : {L : Type 0} (sees : L → LinkTold) (links between after : Option (DoorLinks L)) (link left : L) (before kept : Kept) (ended : Result ℕ LinkFault) →
    IfSome links (λ told. Some link ≡ first_of told.coming) → between ≡ option_map after_next links → after ≡ option_map (λ told. after_back told left) between →
    IsAttended (visit (sees link) before (sees left) kept ended) →
    AreAttended (option_map (seen_links sees) links) before (visit (sees link) before (sees left) kept ended ∷ []) (option_map (seen_links sees) after) kept
one_attended {L} sees None between after link left before kept ended gave next last right = record {
  chain = (refl, right, refl);
  given = tt;
  door = ap (λ (l : Option (DoorLinks L)). option_map (seen_links sees) l) (last ∙ ap (λ (l : Option (DoorLinks L)). option_map (λ told. after_back told left) l) next);
}
one_attended {L} sees (Some told) between after link left before kept ended gave next last right = record {
  chain = (refl, right, refl);
  given = is_first sees told.coming link gave;
  door =
      ap (λ (l : Option (DoorLinks L)). option_map (seen_links sees) l) (last ∙ ap (λ (l : Option (DoorLinks L)). option_map (λ told. after_back told left) l) next)
      ∙ ap (λ (l : DoorLinks LinkTold). Some l)
      (turned sees told.coming told.given told.back link left (visit (sees link) before (sees left) kept ended) refl gave);
}

-- if no link is to come, the list of links to come, as contracts see them, is empty
no_first : {L : Type 0} (sees : L → LinkTold) (coming : List L) → None ≡ first_of coming → map sees coming ≡ []
no_first sees [] none = refl
no_first sees (first ∷ rest) none = absurd (cc)

pub none_comes : {L : Type 0} (sees : L → LinkTold) (links : Option (DoorLinks L)) → IfSome links (λ told. None ≡ first_of told.coming) → IfSome (option_map (seen_links sees) links) (λ told. told.coming ≡ [])
none_comes sees None none = tt
none_comes sees (Some told) none = no_first sees told.coming none

no_next : {L : Type 0} (coming : List L) (given : ℕ) (back : List L) → None ≡ first_of coming → after_next (parts coming given back) ≡ parts coming given back
no_next {L} [] given back none = let count : given + min 1 0 ≡ given = omega arith in ap (λ (n : ℕ). parts {L = L} [] n back) count
no_next (first ∷ rest) given back none = absurd (cc)

-- if no link is to come, asking for the next one leaves the door as it was
pub none_given : {L : Type 0} (links after : Option (DoorLinks L)) → IfSome links (λ told. None ≡ first_of told.coming) → after ≡ option_map after_next links → after ≡ links
none_given None after none next = next
none_given {L} (Some told) after none next = next ∙ ap (λ (l : DoorLinks L). Some l) (no_next told.coming told.given told.back none)
