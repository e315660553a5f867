-- The steps of the loops over volunteers and members. A step appends the line of a member, the chance of a volunteer, or the number of a
-- volunteer who isn't gone.
use Rattle.std.proofs.Common.{◌≡◌, ℕ, ◌+◌, ◌<◌, Bool, true, false, List, [], ◌∷◌, ◌++◌, length, get_or, take, map, filter, ℤ, pos, unsigned_abs, None, sym, ap, ◌∙◌, arith}
use Rattle.std.specs.List.{range_with_len}
use Rattle.std.proofs.Math.ListN.{get_or-map}
use Rattle.std.proofs.lemmas.List.{get_or_read, map-append, map_more}
use Rattle.std.proofs.lemmas.List.FromFn.{get_or-map-range_with_len, map-range_with_len_more}
use Rattle.define_pools.proofs.Lists.{filter_passed, filter_taken}
use Rattle.frac128.specs.Fractions.{lowest_of}
use Rattle.define_pools.specs.declared.Standing.{Standing}
use Rattle.define_pools.specs.declared.Standing.TheVariants.{Gone}
use Rattle.define_pools.specs.Lottery.{Lottery, count, counts}
use Rattle.define_pools.specs.Pool.{Pool, Volunteer, allows, volunteer}
use Rattle.define_lines.specs.Lines.{text_of}
use Rattle.define_draws.specs.Lines.{member_ids}
use Rattle.define_offices.specs.Report.{chance_line, chance_of, member_line}
use Rattle.define_offices.proofs.LineSteps.{lines_added}

module _ (pool : Pool) where
  -- ---- the lines of members

  pub member_added : (members : List ℕ) (index : ℕ) (start before after : List ℕ) (seen : Volunteer) → index < length members →
      seen ≡ get_or pool.volunteers (get_or members index 0) seen → get_or members index 0 < length pool.volunteers →
      before ≡ start ++ text_of (map member_line (member_ids pool (take index members))) → after ≡ before ++ text_of (member_line seen.id ∷ []) →
      after ≡ start ++ text_of (map member_line (member_ids pool (take (index + 1) members)))
  member_added members index start before after seen inside is below b a =
      let i = get_or members index 0 in
      let first = member_ids pool (take index members) in
      let its : seen.id ≡ (volunteer pool.volunteers i).id = ap (λ (v : Volunteer). v.id) (get_or_read pool.volunteers i seen below is (record { id = []; values = []; standing = Gone; household = None })) in
      let ids : member_ids pool (take (index + 1) members) ≡ first ++ (volunteer pool.volunteers i).id ∷ [] = map_more (λ k. (volunteer pool.volunteers k).id) members index 0 inside in
      lines_added start before after (map member_line first) (member_line (volunteer pool.volunteers i).id ∷ []) b (a ∙ ap (λ id. before ++ text_of (member_line id ∷ [])) its)
      ∙ ap (λ all. start ++ text_of all) (sym (ap (map member_line) ids ∙ map-append member_line first ((volunteer pool.volunteers i).id ∷ [])))

  module _ (i : ℕ) (v : Volunteer) (inside : i < length pool.volunteers) (is : v ≡ get_or pool.volunteers i v) where
    its_volunteer : v ≡ volunteer pool.volunteers i
    its_volunteer = get_or_read pool.volunteers i v inside is (record { id = []; values = []; standing = Gone; household = None })

    -- ---- chances

    module _ (lottery : Lottery) where
      abbrev pub chance_at : ℕ → List ℕ
      chance_at k = chance_line (volunteer pool.volunteers k).id (chance_of lottery k)

      pub count_read : (all : List ℤ) (n : ℤ) → all ≡ map pos (counts pool lottery) → n ≡ get_or all i (pos 0) → n ≡ pos (count lottery i)
      count_read all n e r =
          let zero_on : 0 + i ≡ i = omega arith in
          r ∙ ap (λ zs. get_or zs i (pos 0)) e ∙ get_or-map pos (counts pool lottery) i 0
          ∙ ap pos (get_or-map-range_with_len (count lottery) 0 (length pool.volunteers) i i 0 inside zero_on)

      pub chance_added : (start before after : List ℕ) (n d : ℤ) → n ≡ pos (count lottery i) → d ≡ pos lottery.total →
          before ≡ start ++ text_of (map chance_at (range_with_len 0 i)) → after ≡ before ++ text_of (chance_line v.id (lowest_of (unsigned_abs n) (unsigned_abs d)) ∷ []) →
          after ≡ start ++ text_of (map chance_at (range_with_len 0 (i + 1)))
      chance_added start before after n d e t b a =
          let line : chance_line v.id (lowest_of (unsigned_abs n) (unsigned_abs d)) ≡ chance_at i =
          ap (λ (w : Volunteer). chance_line w.id (lowest_of (unsigned_abs n) (unsigned_abs d))) its_volunteer
          ∙ ap (λ z. chance_line (volunteer pool.volunteers i).id (lowest_of (unsigned_abs z) (unsigned_abs d))) e
          ∙ ap (λ z. chance_line (volunteer pool.volunteers i).id (lowest_of (count lottery i) (unsigned_abs z))) t in
          lines_added start before after (map chance_at (range_with_len 0 i)) (chance_at i ∷ []) b (a ∙ ap (λ l. before ++ text_of (l ∷ [])) line)
          ∙ ap (λ all. start ++ text_of all) (sym (map-range_with_len_more chance_at 0 i i (omega arith)))

    -- ---- the numbers of volunteers who aren't gone

    abbrev pub is_here : ℕ → Bool
    is_here k = allows (volunteer pool.volunteers k).standing true

    told : (standing : Standing) (here : Bool) → standing ≡ v.standing → here ≡ allows standing true → is_here i ≡ here
    told standing here s h = sym (h ∙ ap (λ x. allows x true) (s ∙ ap (λ (w : Volunteer). w.standing) its_volunteer))

    pub here_added : (standing : Standing) (here : Bool) (before after : List ℕ) → standing ≡ v.standing → here ≡ allows standing true → here ≡ true →
        before ≡ filter is_here (range_with_len 0 i) → after ≡ before ++ i ∷ [] → after ≡ filter is_here (range_with_len 0 (i + 1))
    here_added standing here before after s h y b a = a ∙ ap (λ ns. ns ++ i ∷ []) b ∙ sym (filter_taken is_here i (told standing here s h ∙ y))

    pub gone_passed : (standing : Standing) (here : Bool) (before after : List ℕ) → standing ≡ v.standing → here ≡ allows standing true → here ≡ false →
        before ≡ filter is_here (range_with_len 0 i) → after ≡ before → after ≡ filter is_here (range_with_len 0 (i + 1))
    gone_passed standing here before after s h n b a = a ∙ b ∙ sym (filter_passed is_here i (told standing here s h ∙ n))
