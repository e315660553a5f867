-- The lines of a summary, put together.
use Rattle.std.proofs.Common.{◌≡◌, ℕ, List, [], ◌∷◌, ◌++◌, map, ℤ, pos, unsigned_abs, codes, take, append_assoc, refl, sym, ◌∙◌, ap, subst}
use Rattle.std.specs.Prelude.{OnOk, Result}
use Rattle.std.proofs.lemmas.Grind.{flat_map-append}
use Rattle.frac128.specs.Fractions.{Fraction, fraction_text, lowest_of}
use Rattle.define_pools.specs.Pool.{Pool}
use Rattle.define_pools.specs.Lottery.{counts}
use Rattle.define_pools.specs.Certificate.{Answer}
use Rattle.define_bundles.specs.BundleText.{bundle_text}
use Rattle.define_draws.specs.Seal.{seal_of}
use Rattle.define_lines.specs.Lines.{line_feed, text_of}
use Rattle.define_made_pools.specs.Summary.{Sizes, field_line, greatest, least, number_line, size_lines, summary_lines, summary_text}

pub naturals : (ns : List ℕ) → map pos ns ≡ map pos (map unsigned_abs (map pos ns))
naturals [] = refl
naturals (n ∷ ns) = ap (λ zs. pos n ∷ zs) (naturals ns)

pub naturals_again : (zs : List ℤ) (ns : List ℕ) → zs ≡ map pos ns → zs ≡ map pos (map unsigned_abs zs)
naturals_again zs ns e = subst (λ (xs : List ℤ). xs ≡ map pos (map unsigned_abs xs)) (sym e) (naturals ns)

pub as_naturals : (zs : List ℤ) (ns : List ℕ) → zs ≡ map pos ns → map unsigned_abs zs ≡ ns
as_naturals zs ns e = ap (map unsigned_abs) e ∙ again ns
  where
    again : (xs : List ℕ) → map unsigned_abs (map pos xs) ≡ xs
    again [] = refl
    again (x ∷ xs) = ap (λ ys. x ∷ ys) (again xs)

-- the picked count over the total, in lowest terms, is the chance of the definition
chance_is : (pick : List ℕ → ℕ) (zs : List ℤ) (ns : List ℕ) (num den : ℤ) (total : ℕ) → zs ≡ map pos ns → num ≡ pos (pick (map unsigned_abs zs)) → den ≡ pos total →
    lowest_of (unsigned_abs num) (unsigned_abs den) ≡ lowest_of (pick ns) total
chance_is pick zs ns num den total e n d =
    ap (λ z. lowest_of (unsigned_abs z) (unsigned_abs den)) n ∙ ap (λ z. lowest_of (pick (map unsigned_abs zs)) (unsigned_abs z)) d
    ∙ ap (λ xs. lowest_of (pick xs) total) (as_naturals zs ns e)

-- if a text ends with `lines`, and lines `more` are appended, it ends with `lines` and `more`
pub more_lines : (before first second : List ℕ) (lines more : List (List ℕ)) → first ≡ before ++ text_of lines → second ≡ first ++ text_of more → second ≡ before ++ text_of (lines ++ more)
more_lines before first second lines more e f =
    f ∙ ap (λ bytes. bytes ++ text_of more) e ∙ append_assoc before (text_of lines) (text_of more)
    ∙ ap (λ bytes. before ++ bytes) (sym (flat_map-append (λ (line : List ℕ). line ++ line_feed ∷ []) lines more))

-- if a text ends with `lines`, and the line of a number is appended, it ends with `lines` and this line
pub number_is_added : (before first second word : List ℕ) (n m : ℕ) (lines : List (List ℕ)) → n ≡ m → first ≡ before ++ text_of lines → second ≡ first ++ text_of (number_line word n ∷ []) →
    second ≡ before ++ text_of (lines ++ number_line word m ∷ [])
number_is_added before first second word n m lines same e f =
    more_lines before first second lines (number_line word m ∷ []) e (f ∙ ap (λ k. first ++ text_of (number_line word k ∷ [])) same)

-- if a text ends with `lines`, and a call appends the line of a last number, the text ends with `lines` and this line, unless memory runs
-- out
pub last_number : {T E : Type 0} (result : Result T E) (before first second word : List ℕ) (n m : ℕ) (lines : List (List ℕ)) → n ≡ m → first ≡ before ++ text_of lines →
    OnOk result (second ≡ first ++ text_of (number_line word n ∷ [])) → OnOk result (second ≡ before ++ text_of (lines ++ number_line word m ∷ []))
last_number result before first second word n m lines same e f =
    subst (λ (bytes : List ℕ). OnOk result (second ≡ bytes)) (number_is_added before first (first ++ text_of (number_line word n ∷ [])) word n m lines same e refl) f

-- if a text ends with `lines`, and the line of a chance is appended, it ends with `lines` and this line
chance_is_added : (before first second word : List ℕ) (lines : List (List ℕ)) (pick : List ℕ → ℕ) (zs : List ℤ) (ns : List ℕ) (num den : ℤ) (total : ℕ) →
    zs ≡ map pos ns → num ≡ pos (pick (map unsigned_abs zs)) → den ≡ pos total → first ≡ before ++ text_of lines →
    second ≡ first ++ text_of (field_line word (fraction_text (lowest_of (unsigned_abs num) (unsigned_abs den))) ∷ []) →
    second ≡ before ++ text_of (lines ++ field_line word (fraction_text (lowest_of (pick ns) total)) ∷ [])
chance_is_added before first second word lines pick zs ns num den total e n d so_far added =
    more_lines before first second lines (field_line word (fraction_text (lowest_of (pick ns) total)) ∷ []) so_far
    (added ∙ ap (λ (f : Fraction). first ++ text_of (field_line word (fraction_text f) ∷ [])) (chance_is pick zs ns num den total e n d))

-- the text after each piece of the summary, and the values from which each piece was written
pub record IsWritten (pool : Pool) (answer : Answer) (sizes : Sizes) (empty with_sizes with_total with_least with_greatest all : List ℕ)
    (low_counts high_counts : List ℤ) (total low low_total high high_total : ℤ) (sealed : List ℕ) : Type 0 where
  pub is_empty : empty ≡ []
  pub sizes_added : with_sizes ≡ empty ++ text_of (size_lines pool answer sizes)
  pub total_is : total ≡ pos answer.lottery.total
  pub total_added : with_total ≡ with_sizes ++ text_of (number_line (codes "total") (unsigned_abs total) ∷ [])
  pub low_counts_are : low_counts ≡ map pos (counts pool answer.lottery)
  pub low_is : low ≡ pos (least (map unsigned_abs low_counts))
  pub low_total_is : low_total ≡ pos answer.lottery.total
  pub least_added : with_least ≡ with_total ++ text_of (field_line (codes "least") (fraction_text (lowest_of (unsigned_abs low) (unsigned_abs low_total))) ∷ [])
  pub high_counts_are : high_counts ≡ map pos (counts pool answer.lottery)
  pub high_is : high ≡ pos (greatest (map unsigned_abs high_counts))
  pub high_total_is : high_total ≡ pos answer.lottery.total
  pub greatest_added : with_greatest ≡ with_least ++ text_of (field_line (codes "greatest") (fraction_text (lowest_of (unsigned_abs high) (unsigned_abs high_total))) ∷ [])
  pub seal_is : sealed ≡ seal_of (bundle_text pool answer)
  pub seal_added : all ≡ with_greatest ++ text_of (field_line (codes "seal") sealed ∷ [])

pub summary_is : (pool : Pool) (answer : Answer) (sizes : Sizes) (empty with_sizes with_total with_least with_greatest all : List ℕ)
    (low_counts high_counts : List ℤ) (total low low_total high high_total : ℤ) (sealed : List ℕ) →
    IsWritten pool answer sizes empty with_sizes with_total with_least with_greatest all low_counts high_counts total low low_total high high_total sealed → all ≡ summary_text pool answer sizes
summary_is pool answer sizes empty with_sizes with_total with_least with_greatest all low_counts high_counts total low low_total high high_total sealed w =
    let lines = size_lines pool answer sizes in
    let first = w.sizes_added ∙ ap (λ bytes. bytes ++ text_of lines) w.is_empty in
    let second = number_is_added [] with_sizes with_total (codes "total") (unsigned_abs total) answer.lottery.total lines (ap unsigned_abs w.total_is) first w.total_added in
    let third = chance_is_added [] with_total with_least (codes "least") (take 8 (summary_lines pool answer sizes)) least low_counts (counts pool answer.lottery) low low_total answer.lottery.total
    w.low_counts_are w.low_is w.low_total_is second w.least_added in
    let fourth = chance_is_added [] with_least with_greatest (codes "greatest") (take 9 (summary_lines pool answer sizes)) greatest high_counts (counts pool answer.lottery) high high_total answer.lottery.total
    w.high_counts_are w.high_is w.high_total_is third w.greatest_added in
    more_lines [] with_greatest all (take 10 (summary_lines pool answer sizes)) (field_line (codes "seal") (seal_of (bundle_text pool answer)) ∷ []) fourth
    (w.seal_added ∙ ap (λ bytes. with_greatest ++ text_of (field_line (codes "seal") bytes ∷ [])) w.seal_is)
