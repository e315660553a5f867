-- A conflict in words. Each quota has a line: whom it counts, its bound, how many of those are available, and how many of these are seated.
-- The last two lines say by how many people the quotas are missed, and whether each is needed. Builds on Quotas. `quota_conflicts` writes
-- it, and the meaning of `why` cites it.
use Rattle.std.specs.Prelude.{ℕ, Bool, true, false, ◌&&◌, List, [], ◌∷◌, ◌++◌, count_by, codes, Option, Some, None, unwrap_or}
use Rattle.std.specs.Fmt.{decimal}
use Rattle.std.specs.List.{flat_map}
use Rattle.define_pools.specs.declared.Standing.{Standing}
use Rattle.define_pools.specs.declared.Standing.TheVariants.{Open, Seated, Gone}
use Rattle.define_pools.specs.Pool.{Pool, everybody, volunteer}
use Rattle.define_quotas.specs.declared.Counted.{Counted}
use Rattle.define_quotas.specs.declared.Counted.TheVariants.{Everybody, WithValue, OfHousehold}
use Rattle.define_quotas.specs.declared.Quota.{Quota}
use Rattle.define_quotas.specs.declared.Side.{Side}
use Rattle.define_quotas.specs.declared.Side.TheVariants.{AtLeast, AtMost}
use Rattle.define_quotas.specs.Quotas.{Conflict, bound, category_at, is_counted, value_at}

abbrev pub is_seated : Standing → Bool
is_seated Open = false
is_seated Seated = true
is_seated Gone = false

-- a volunteer of this standing can be on a panel: the standing isn't gone
abbrev pub is_available : Standing → Bool
is_available Open = true
is_available Seated = true
is_available Gone = false

-- how many volunteers whom a quota counts have a standing that passes a test
abbrev pub number_standing : (Standing → Bool) → Pool → Counted → ℕ
number_standing passes pool counted = count_by (λ i. is_counted pool counted i && passes (volunteer pool.volunteers i).standing) (everybody pool)

-- how many volunteers whom a quota counts aren't gone
abbrev pub available : Pool → Counted → ℕ
available pool counted = number_standing is_available pool counted

-- how many volunteers whom a quota counts are seated
abbrev pub seated : Pool → Counted → ℕ
seated pool counted = number_standing is_seated pool counted

-- whom a quota counts, in words: the category and the value by their names, or the household by its name
abbrev pub counted_words : Pool → Counted → List ℕ
counted_words pool Everybody = codes "the size"
counted_words pool (WithValue category value) = (category_at pool category).name ++ 32 ∷ (value_at pool category value).name
counted_words pool (OfHousehold member) = codes "household " ++ unwrap_or (volunteer pool.volunteers member).household []

abbrev pub side_words : Side → List ℕ
side_words AtLeast = codes ": at least "
side_words AtMost = codes ": at most "

-- the line of a quota: whom it counts, its bound, how many of those whom it counts aren't gone, and how many of these are seated
abbrev pub quota_line : Pool → Quota → List ℕ
quota_line pool quota =
    counted_words pool quota.counted ++ side_words quota.side ++ decimal (bound pool quota)
    ++ codes "; " ++ decimal (available pool quota.counted) ++ codes " available, " ++ decimal (seated pool quota.counted)
    ++ codes " of them seated" ++ 10 ∷ []

-- the line that says by how many people the quotas are missed at least; if that isn't known, only that no panel of whole people meets them
-- together
abbrev pub miss_line : Option ℕ → List ℕ
miss_line (Some least) = codes "these together miss by at least " ++ decimal least ++ 10 ∷ []
miss_line None = codes "no panel of whole people meets these together" ++ 10 ∷ []

-- the line that says whether it is known that each quota is needed
abbrev pub need_line : Bool → List ℕ
need_line true = codes "each is needed: without it the others can be met" ++ 10 ∷ []
need_line false = codes "perhaps not each of them is needed" ++ 10 ∷ []

-- the text of a conflict
abbrev pub conflict_text : Pool → Conflict → List ℕ
conflict_text pool conflict =
    flat_map (quota_line pool) conflict.quotas ++ miss_line conflict.least_miss ++ need_line conflict.is_each_needed
