-- The texts of the bodies of JSON.
use Rattle.std.proofs.Common.{◌≡◌, ℕ, Bool, true, false, List, [], ◌∷◌, ◌++◌, map, Option, Some, None, append_assoc, ap, sym, refl, ◌∙◌}
use Rattle.std.specs.Prelude.{codes}
use Rattle.std.specs.Fmt.{decimal}
use Rattle.json.specs.Print.{escape_byte, quoted}
use Rattle.serde_json.specs.Data.{Data, array, string}
use Rattle.serde_json.specs.View.{items_of}
use Rattle.serde_json.specs.Written.{compact_text, has_float, items_have_float, items_text}
use Rattle.define_desk.specs.Replies.{listed, numbers, text_or_null, texts, truth, truth_or_null}
use Rattle.office_desk.specs.Bodies.{draw_data, draw_text, number_data, own_data, own_text, seat_data, seat_text, text_data, truth_data}

-- ---- a text or a truth value, or null

text_data-text : (text : Option (List ℕ)) → compact_text (text_data text) ≡ text_or_null text
text_data-text None = refl
text_data-text (Some text) = refl

truth_data-text : (value : Option Bool) → compact_text (truth_data value) ≡ truth_or_null value
truth_data-text None = refl
truth_data-text (Some true) = refl
truth_data-text (Some false) = refl

-- ---- what a volunteer sees

own_grouped : (a c b d e i f p g r h w z : List ℕ) →
    (((((((((((a ++ c) ++ b) ++ d) ++ e) ++ i) ++ f) ++ p) ++ g) ++ r) ++ h) ++ w) ++ z ≡ a ++ (c ++ (b ++ (d ++ (e ++ (i ++ (f ++ (p ++ (g ++ (r ++ (h ++ (w ++ z)))))))))))
own_grouped a c b d e i f p g r h w z = simp append_assoc

own_by_parts : (c d w i p r : List ℕ) → List ℕ
own_by_parts c d w i p r =
    (codes "{\"chance\":" ++ c) ++ codes ",\"drawn\":" ++ d ++ codes ",\"id\":" ++ i ++ codes ",\"phase\":" ++ p ++ codes ",\"round\":" ++ r ++ codes ",\"withdrawn\":" ++ w ++ codes "}"

own_printed : (chance : Option (List ℕ)) (drawn : Option Bool) (id phase : List ℕ) (round : ℕ) (withdrawn : Bool) →
    compact_text (own_data chance drawn id phase round withdrawn) ≡ own_by_parts (compact_text (text_data chance)) (compact_text (truth_data drawn)) (truth withdrawn) (quoted id) (quoted phase) (decimal round)
unfolding escape_byte own_by_parts
own_printed chance drawn id phase round true =
    sym (own_grouped (codes "{\"chance\":") (compact_text (text_data chance)) (codes ",\"drawn\":") (compact_text (truth_data drawn)) (codes ",\"id\":") (quoted id)
    (codes ",\"phase\":") (quoted phase) (codes ",\"round\":") (decimal round) (codes ",\"withdrawn\":") (codes "true") (codes "}"))
own_printed chance drawn id phase round false =
    sym (own_grouped (codes "{\"chance\":") (compact_text (text_data chance)) (codes ",\"drawn\":") (compact_text (truth_data drawn)) (codes ",\"id\":") (quoted id)
    (codes ",\"phase\":") (quoted phase) (codes ",\"round\":") (decimal round) (codes ",\"withdrawn\":") (codes "false") (codes "}"))

pub own_data-text : (chance : Option (List ℕ)) (drawn : Option Bool) (id phase : List ℕ) (round : ℕ) (withdrawn : Bool) →
    compact_text (own_data chance drawn id phase round withdrawn) ≡ own_text chance drawn id phase round withdrawn
unfolding own_by_parts
own_data-text chance drawn id phase round withdrawn =
    own_printed chance drawn id phase round withdrawn
    ∙ (ap (λ c. own_by_parts c (compact_text (truth_data drawn)) (truth withdrawn) (quoted id) (quoted phase) (decimal round)) (text_data-text chance)
    ∙ ap (λ d. own_by_parts (text_or_null chance) d (truth withdrawn) (quoted id) (quoted phase) (decimal round)) (truth_data-text drawn))

pub own_data-float : (chance : Option (List ℕ)) (drawn : Option Bool) (id phase : List ℕ) (round : ℕ) (withdrawn : Bool) → has_float (own_data chance drawn id phase round withdrawn) ≡ false
own_data-float None None id phase round withdrawn = refl
own_data-float None (Some d) id phase round withdrawn = refl
own_data-float (Some c) None id phase round withdrawn = refl
own_data-float (Some c) (Some d) id phase round withdrawn = refl

-- if the parts are equal, the texts are equal
pub own_text_same : (c c' : Option (List ℕ)) (d d' : Option Bool) (i i' p p' : List ℕ) (r r' : ℕ) (w w' : Bool) → c ≡ c' → d ≡ d' → i ≡ i' → p ≡ p' → r ≡ r' → w ≡ w' →
    own_text c d i p r w ≡ own_text c' d' i' p' r' w'
own_text_same c c' d d' i i' p p' r r' w w' ec ed ei ep er ew =
    ap (λ (x : Option (List ℕ)). own_text x d i p r w) ec ∙ (ap (λ (x : Option Bool). own_text c' x i p r w) ed ∙ (ap (λ (x : List ℕ). own_text c' d' x p r w) ei
    ∙ (ap (λ (x : List ℕ). own_text c' d' i' x r w) ep ∙ (ap (λ (x : ℕ). own_text c' d' i' p' x w) er ∙ ap (λ (x : Bool). own_text c' d' i' p' r' x) ew))))

-- ---- draws

draw_grouped : (a q b p c s d t e : List ℕ) → (((((((a ++ q) ++ b) ++ p) ++ c) ++ s) ++ d) ++ t) ++ e ≡ a ++ (q ++ (b ++ (p ++ (c ++ (s ++ (d ++ (t ++ e)))))))
draw_grouped a q b p c s d t e = simp append_assoc

-- the same, with a number of tickets
tickets_grouped : (a q b p c s d t f n e : List ℕ) → (((((((a ++ q) ++ b) ++ p) ++ c) ++ s) ++ d) ++ t) ++ ((f ++ n) ++ e) ≡ a ++ (q ++ (b ++ (p ++ (c ++ (s ++ (d ++ (t ++ (f ++ (n ++ e)))))))))
tickets_grouped a q b p c s d t f n e = simp append_assoc

pub draw_data-text : (digits : List ℕ) (panel : Data) (seal ticket : List ℕ) (tickets : Option (List ℕ)) →
    compact_text (draw_data digits panel seal ticket tickets) ≡ draw_text digits (compact_text panel) seal ticket tickets
unfolding escape_byte
draw_data-text digits panel seal ticket None =
    sym (draw_grouped (codes "{\"digits\":") (quoted digits) (codes ",\"panel\":") (compact_text panel) (codes ",\"seal\":") (quoted seal) (codes ",\"ticket\":") (quoted ticket) (codes "}"))
draw_data-text digits panel seal ticket (Some tickets) =
    sym (tickets_grouped (codes "{\"digits\":") (quoted digits) (codes ",\"panel\":") (compact_text panel) (codes ",\"seal\":") (quoted seal) (codes ",\"ticket\":") (quoted ticket)
    (codes ",\"tickets\":") (quoted tickets) (codes "}"))

pub draw_data-float : (digits : List ℕ) (panel : Data) (seal ticket : List ℕ) (tickets : Option (List ℕ)) → has_float panel ≡ false → has_float (draw_data digits panel seal ticket tickets) ≡ false
draw_data-float digits panel seal ticket None none = rw none refl
draw_data-float digits panel seal ticket (Some tickets) none = rw none refl

-- ---- seats

seat_grouped : (a d b i c s e : List ℕ) → (((((a ++ d) ++ b) ++ i) ++ c) ++ s) ++ e ≡ a ++ (d ++ (b ++ (i ++ (c ++ (s ++ e)))))
seat_grouped a d b i c s e = simp append_assoc

pub seat_data-text : (dropped : Data) (id : List ℕ) (seated : Bool) → compact_text (seat_data dropped id seated) ≡ seat_text (compact_text dropped) id seated
unfolding escape_byte
seat_data-text dropped id true = sym (seat_grouped (codes "{\"dropped\":") (compact_text dropped) (codes ",\"id\":") (quoted id) (codes ",\"seated\":") (codes "true") (codes "}"))
seat_data-text dropped id false = sym (seat_grouped (codes "{\"dropped\":") (compact_text dropped) (codes ",\"id\":") (quoted id) (codes ",\"seated\":") (codes "false") (codes "}"))

pub seat_data-float : (dropped : Data) (id : List ℕ) (seated : Bool) → has_float dropped ≡ false → has_float (seat_data dropped id seated) ≡ false
seat_data-float dropped id seated none = rw none refl

-- if the parts are equal, the texts are equal
pub seat_text_same : (d d' i i' : List ℕ) (s s' : Bool) → d ≡ d' → i ≡ i' → s ≡ s' → seat_text d i s ≡ seat_text d' i' s'
seat_text_same d d' i i' s s' ed ei es = ap (λ (x : List ℕ). seat_text x i s) ed ∙ (ap (λ (x : List ℕ). seat_text d' x s) ei ∙ ap (λ (x : Bool). seat_text d' i' x) es)

-- ---- arrays

pub ids_have_no_float : (ids : List (List ℕ)) → items_have_float (items_of (map string ids)) ≡ false
ids_have_no_float [] = refl
ids_have_no_float (id ∷ ids) = ids_have_no_float ids

pub numbers_have_no_float : (numbers : List ℕ) → items_have_float (items_of (map number_data numbers)) ≡ false
numbers_have_no_float [] = refl
numbers_have_no_float (n ∷ numbers) = numbers_have_no_float numbers

-- an array is printed as its values with commas between them
module _ {X : Type 0} (data_of : X → Data) (text : X → List ℕ) (same : (x : X) → compact_text (data_of x) ≡ text x) where
  later_values : (x : X) (xs : List X) → text x ++ items_text true (items_of (map data_of xs)) ≡ listed (map text (x ∷ xs)) ++ codes "]"
  later_values x [] = refl
  later_values x (next ∷ xs) =
      ap (λ rest. text x ++ (44 ∷ rest)) (ap (λ (t : List ℕ). t ++ items_text true (items_of (map data_of xs))) (same next) ∙ later_values next xs)
      ∙ (sym (append_assoc (text x) (codes ",") (listed (map text (next ∷ xs)) ++ codes "]")) ∙ sym (append_assoc (text x ++ codes ",") (listed (map text (next ∷ xs))) (codes "]")))

  values_as_text : (xs : List X) → compact_text (array (items_of (map data_of xs))) ≡ codes "[" ++ listed (map text xs) ++ codes "]"
  values_as_text [] = refl
  values_as_text (x ∷ xs) = ap (λ rest. 91 ∷ rest) (ap (λ (t : List ℕ). t ++ items_text true (items_of (map data_of xs))) (same x) ∙ later_values x xs)

pub ids_as_texts : (ids : List (List ℕ)) → compact_text (array (items_of (map string ids))) ≡ texts ids
ids_as_texts ids = values_as_text string quoted (λ id. refl) ids

pub numbers_as_text : (all : List ℕ) → compact_text (array (items_of (map number_data all))) ≡ numbers all
numbers_as_text all = values_as_text number_data decimal (λ n. refl) all
