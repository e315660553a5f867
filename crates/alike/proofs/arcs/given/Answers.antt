use Rattle.std.proofs.Common.{◌≡◌, ◌++◌, ℕ, List, Bool, false, length, map, replicate, drop, take, sym, ap, ◌∙◌}
use Rattle.std.specs.List.{range_with_len}
use Rattle.std.proofs.lemmas.List.{length-replicate}
use Rattle.std.proofs.Math.Seq.{take-append_seam}
use Rattle.define_runs.specs.Spreading.{is_given}
use Rattle.alike.proofs.Starts.{first_marks}
use Rattle.alike.proofs.arcs.given.Goals as goal

-- writing `new` over a list of its length leaves only `new`
written : (len : ℕ) (new items : List Bool) → len ≡ length new → take len (new ++ drop (length new) items) ≡ new
written len new items e = ap (λ n. take n (new ++ drop (length new) items)) e ∙ take-append_seam new (drop (length new) items)

pub mark_given-requires : goal.mark_given-requires
mark_given-requires c =
    let none : c.in_ok-given.given.items ≡ replicate c.volunteers.result false = c.in_ok-given.ensures.items_if_clones_equal (λ y e. e) in
    record {
      given = ap (λ (xs : List Bool). length xs) (c.deref_mut.ensures.value ∙ none) ∙ (length-replicate c.volunteers.result false ∙ c.volunteers.ensures.count);
      parts = c.volunteers.ensures.parts;
      places = c.requires.places;
      at = c.requires.at;
    }

pub returns : goal.returns
returns c =
    let none : c.in_ok-given.given.items ≡ replicate c.volunteers.result false = c.in_ok-given.ensures.items_if_clones_equal (λ y e. e) in
    let p = is_given c.args.places c.args.at c.args.classes.now.classes c.args.counts.now in
    let new = c.mark_given.new.given in
    written c.in_ok-given.given.len new c.in_ok-given.given.items (sym (c.mark_given.ensures.long ∙ c.deref_mut.ensures.len))
    ∙ (first_marks p c.volunteers.result c.deref_mut.result.now new (c.deref_mut.ensures.value ∙ none) c.mark_given.ensures
    ∙ ap (λ n. map p (range_with_len 0 n)) c.volunteers.ensures.count)
