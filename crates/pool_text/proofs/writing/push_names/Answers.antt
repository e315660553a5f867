use Rattle.std.proofs.Common.{◌≡◌, ◌+◌, List, [], ◌∷◌, ◌++◌, length, length-append, take, get_or, ap, sym, ◌∙◌, append_assoc, arith, rules}
use Rattle.std.proofs.lemmas.List.{take_all}
use Rattle.std.proofs.lemmas.Slice.Zip.{zip_turn, zip_end}
use Rattle.define_pools.specs.Pool.{Category}
use Rattle.define_pools.specs.Building.{value_names}
use Rattle.define_bundles.specs.PoolText.{names_at}
use Rattle.define_lines.specs.Lines.{tabbed}
use Rattle.pool_text.proofs.WritingLemmas.{place_inside, as_many, tabbed_more}
use Rattle.pool_text.proofs.writing.push_names.Goals as goal

pub name_at-requires : goal.name_at-requires
name_at-requires c =
    let categories = c.args.categories.now in let places = c.args.places.now in
    let category = c.in-Some.category.now in
    let i = length c.loop-category.yielded in
    let turn = zip_turn categories places c.loop-category.yielded c.into_iter-category-iterator.result c.loop-category.category-iterator c.next.new.self c.next.result (search rules) (search rules) c.loop-category.yielded_by (c.in-Some.category, c.in-Some.place) c.in-Some.is c.next.ensures.steps in
    let inside = place_inside categories places i category c.requires turn.1 in
    let place : c.in-Some.place.now ≡ get_or places i 0 = turn.3 0 in
    let sizes : length c.values.result.now ≡ length (get_or categories i category).values = ap (λ (vs : List _). length vs) c.values.ensures ∙ ap (λ (k : Category). length k.values) (turn.2 category) in
    omega arith

pub loop-category-preserved : goal.loop-category-preserved
loop-category-preserved c =
    let categories = c.args.categories.now in let places = c.args.places.now in
    let category = c.in-Some.category.now in
    let yielded = c.loop-category.yielded in
    let i = length yielded in
    let turn = zip_turn categories places yielded c.into_iter-category-iterator.result c.loop-category.category-iterator c.next.new.self c.next.result (search rules) (search rules) c.loop-category.yielded_by (c.in-Some.category, c.in-Some.place) c.in-Some.is c.next.ensures.steps in
    let size : length (yielded ++ (c.in-Some.category, c.in-Some.place) ∷ []) ≡ i + 1 = length-append yielded ((c.in-Some.category, c.in-Some.place) ∷ []) in
    let more = tabbed_more categories places i category turn.0 turn.1 in
    let text = c.args.text.now.items in
    let name : c.name_at.result.now ≡ get_or (value_names (get_or categories i category).values) (get_or places i 0) [] =
    c.name_at.ensures ∙ (ap (λ vs. get_or (value_names vs) c.in-Some.place.now []) (c.values.ensures ∙ ap (λ (k : Category). k.values) (turn.2 category))
    ∙ ap (λ place. get_or (value_names (get_or categories i category).values) place []) (turn.3 0)) in
    let so_far = tabbed (names_at (take i categories) (take i places)) in
    let last = 9 ∷ get_or (value_names (get_or categories i category).values) (get_or places i 0) [] in
    c.in_ok-push_field.ensures.whole
    ∙ (ap (λ before. before ++ (9 ∷ c.name_at.result.now)) c.loop-category.invariant
    ∙ (ap (λ name. (text ++ so_far) ++ (9 ∷ name)) name
    ∙ (append_assoc text so_far last
    ∙ (ap (λ names. text ++ names) (sym more)
    ∙ ap (λ n. text ++ tabbed (names_at (take n categories) (take n places))) (sym size)))))

pub returns : goal.returns
returns c =
    let categories = c.args.categories.now in let places = c.args.places.now in
    let yielded = c.loop-category.yielded in
    let count = zip_end categories places yielded c.into_iter-category-iterator.result c.loop-category.category-iterator c.next.new.self c.next.result (search rules) (search rules) c.loop-category.yielded_by c.in-None.is c.next.ensures.steps in
    let same = as_many categories places c.requires in
    let first : take (length yielded) categories ≡ categories = take_all (length yielded) categories (omega arith) in
    let second : take (length yielded) places ≡ places = take_all (length yielded) places (omega arith) in
    c.loop-category.invariant ∙ ap (λ fields. c.args.text.now.items ++ tabbed fields) (ap (λ cs. names_at cs (take (length yielded) places)) first ∙ ap (names_at categories) second)
