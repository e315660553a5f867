-- `LinksAreReadAsNeeded` holds of a door that is as before, of one link that was given, read as needed and given back, and of two calls one
-- after the other.
use Rattle.std.proofs.Common.{◌≡◌, ◌≤◌, ℕ, ◌+◌, ◌++◌, List, [], ◌∷◌, drop, Option, Some, None, refl, sym, ap, subst, ◌∙◌, append_assoc, append-nil}
use Rattle.std.specs.Prelude.{map, option_map, IfSome}
use Rattle.std.specs.List.{All}
use Rattle.std.proofs.lemmas.List.{map-append}
use Rattle.std.proofs.lemmas.List.Elements.{All-append, All-cons, All-nil}
use Rattle.office_requests.specs.Needs.{ReadsAsNeeded}
use Rattle.office_requests.specs.Reads.{most_read}
use Rattle.outside.specs.Links.{DoorLinks, after_back, after_next, first_of}
use Rattle.command_desk.specs.LinksRead.{AreGiven, GivenLink, IsReadAsNeeded, LinksAreReadAsNeeded}

is_first : {L : Type 0} (coming : List L) (link : L) → Some link ≡ first_of coming → coming ≡ link ∷ drop 1 coming
is_first [] link gave = absurd (cc)
is_first {L} (first ∷ rest) link gave = let same : first ≡ link = cc in ap (λ (l : L). l ∷ rest) same

both_given : {L : Type 0} (told mid last : DoorLinks L) (first second : List (GivenLink L)) → AreGiven told first mid → AreGiven mid second last → AreGiven told (first ++ second) last
both_given {L} told mid last first second one two =
    let before = λ (l : GivenLink L). l.before in
    let after = λ (l : GivenLink L). l.after in
    record {
      coming = one.coming ∙ ap (λ (ls : List L). map before first ++ ls) two.coming ∙ sym (append_assoc (map before first) (map before second) last.coming)
          ∙ ap (λ (ls : List L). ls ++ last.coming) (sym (map-append before first second));
      back = two.back ∙ ap (λ (ls : List L). ls ++ map after second) one.back ∙ append_assoc told.back (map after first) (map after second)
          ∙ ap (λ (ls : List L). told.back ++ ls) (sym (map-append after first second));
    }

module _ {L : Type 0} (left : L → Option (List ℕ)) (reads : L → ℕ) where
  -- the door is as before
  pub none_read : (door after : Option (DoorLinks L)) → after ≡ door → LinksAreReadAsNeeded left reads door after
  none_read None after same = tt
  none_read (Some told) after same = (told, same, [], record { coming = refl; back = sym (append-nil told.back) }, All-nil (IsReadAsNeeded left reads))

  -- the door gave one link, and it came back
  pub one_read : (door between after : Option (DoorLinks L)) (link back : L) → IfSome door (λ told. Some link ≡ first_of told.coming) → between ≡ option_map after_next door →
      after ≡ option_map (λ told. after_back told back) between → ReadsAsNeeded left reads link back → reads back ≤ reads link + most_read → LinksAreReadAsNeeded left reads door after
  one_read None between after link back gave next last needed within = tt
  one_read (Some told) between after link back gave next last needed within = (
    after_back (after_next told) back,
    last ∙ ap (λ (links : Option (DoorLinks L)). option_map (λ it. after_back it back) links) next,
    record { before = link; after = back } ∷ [],
    record { coming = is_first told.coming link gave; back = refl },
    All-cons (IsReadAsNeeded left reads) (record { before = link; after = back }) [] (record { needed = needed; within = within }) (All-nil (IsReadAsNeeded left reads)),
  )

  -- what one call did, and then another
  then_read : (told mid : DoorLinks L) (after : Option (DoorLinks L)) (first : List (GivenLink L)) → AreGiven told first mid → All (IsReadAsNeeded left reads) first →
      LinksAreReadAsNeeded left reads (Some mid) after → LinksAreReadAsNeeded left reads (Some told) after
  then_read told mid after first given read (last, is, second, later, more) =
      (last, is, first ++ second, both_given told mid last first second given later, All-append (IsReadAsNeeded left reads) first second read more)

  pub more_read : (door between after : Option (DoorLinks L)) → LinksAreReadAsNeeded left reads door between → LinksAreReadAsNeeded left reads between after → LinksAreReadAsNeeded left reads door after
  more_read None between after one two = tt
  more_read (Some told) between after (mid, is, first, given, read) two =
      then_read told mid after first given read (subst (λ (links : Option (DoorLinks L)). LinksAreReadAsNeeded left reads links after) is two)
