-- Tests of lists, element by element: ids that agree, rounds that have a dropout, members of a panel.
use Rattle.std.proofs.Common.{◌≡◌, ◌<◌, ◌≤◌, ◌+◌, ◌-◌, ℕ, zero, suc, Bool, true, ◌&&◌, ◌||◌, List, [], ◌∷◌, length, get_or, map, drop, take, refl, sym, ap, ap₂, ◌∙◌, ltb, subst, arith}
use Rattle.std.specs.List.{AllByRecursion, list_all, list_any, zip}
use Rattle.std.specs.Str.{bytes_eq}
use Rattle.std.proofs.lemmas.Bool.{and_from, and_parts}
use Rattle.std.proofs.lemmas.List.{get_or_default, take-append-drop, take_all}
use Rattle.std.proofs.lemmas.List.Folds.{list_any-append, list_any_more}
use Rattle.std.proofs.lemmas.Slice.Eq.{bytes_eq-Decides}
use Rattle.define_pools.proofs.Each.{below_at}
use Rattle.define_pools.specs.Building.{ids}
use Rattle.define_pools.specs.Lists.{includes_list}
use Rattle.define_pools.specs.Pool.{Pool, Volunteer, volunteer}
use Rattle.define_offices.specs.Facts.{closed_but_last, entry_ids, has_drop}
use Rattle.define_draws.specs.Lines.{member_ids}
use Rattle.define_offices.specs.Tables.{Entry, Round}

pub list_any-map : {X Y : Type 0} (p : Y → Bool) (f : X → Y) (xs : List X) → list_any p (map f xs) ≡ list_any (λ x. p (f x)) xs
list_any-map p f [] = refl
list_any-map p f (x ∷ xs) = ap (λ b. p (f x) || b) (list_any-map p f xs)

pub closed_where_drops : (rounds : List Round) → 0 < length rounds → closed_but_last rounds ≡ list_all has_drop (take (length rounds - 1) rounds)
closed_where_drops [] l = absurd (omega arith)
closed_where_drops (round ∷ []) l = refl
closed_where_drops (round ∷ next ∷ later) l =
    let one : suc (suc (length later)) - 1 ≡ suc (length later) = omega arith in
    let less : suc (length later) - 1 ≡ length later = omega arith in
    rw one (ap (λ b. has_drop round && b) (rw less at (closed_where_drops (next ∷ later) (omega arith))))

-- ---- ids of volunteers and of rows

abbrev pub have_one_id : Volunteer × Entry → Bool
have_one_id pair = bytes_eq pair.0.id pair.1.id

pub ids_from_pairs : (volunteers : List Volunteer) (register : List Entry) → length volunteers ≡ length register → list_all have_one_id (zip volunteers register) ≡ true →
    ids volunteers ≡ entry_ids register
ids_from_pairs [] [] l h = refl
ids_from_pairs [] (entry ∷ register) l h = absurd (omega arith)
ids_from_pairs (volunteer ∷ volunteers) [] l h = absurd (omega arith)
ids_from_pairs (volunteer ∷ volunteers) (entry ∷ register) l h =
    let parts = and_parts (bytes_eq volunteer.id entry.id) (list_all have_one_id (zip volunteers register)) h in
    ap₂ (λ id others. id ∷ others) ((bytes_eq-Decides volunteer.id entry.id).0 parts.0) (ids_from_pairs volunteers register (omega arith) parts.1)

pub pairs_from_ids : (volunteers : List Volunteer) (register : List Entry) → ids volunteers ≡ entry_ids register →
    (length volunteers ≡ length register) × (list_all have_one_id (zip volunteers register) ≡ true)
pairs_from_ids [] [] e = (refl, refl)
pairs_from_ids [] (entry ∷ register) e = absurd cc
pairs_from_ids (volunteer ∷ volunteers) [] e = absurd cc
pairs_from_ids (volunteer ∷ volunteers) (entry ∷ register) e =
    let first : volunteer.id ≡ entry.id = cc in
    let later : ids volunteers ≡ entry_ids register = cc in
    let rest = pairs_from_ids volunteers register later in
    (ap suc rest.0, and_from (bytes_eq volunteer.id entry.id) (list_all have_one_id (zip volunteers register)) ((bytes_eq-Decides volunteer.id entry.id).1 first) rest.1)

-- ---- ids of a panel's members

-- an id is among the first `k + 1` members exactly if it is among the first `k` or is that of member `k`
pub member_more : (pool : Pool) (panel : List ℕ) (k : ℕ) (id : List ℕ) (found : Volunteer) → list_all (λ i. ltb i (length pool.volunteers)) panel ≡ true → k < length panel →
    found ≡ get_or pool.volunteers (get_or panel k 0) found →
    includes_list (member_ids pool (take (k + 1) panel)) id ≡ (includes_list (member_ids pool (take k panel)) id || bytes_eq id found.id)
member_more pool panel k id found below l is =
    let f = λ (i : ℕ). (volunteer pool.volunteers i).id in
    let here : volunteer pool.volunteers (get_or panel k 0) ≡ found = get_or_default pool.volunteers (get_or panel k 0) _ found (below_at (length pool.volunteers) panel k below l) ∙ sym is in
    list_any-map (bytes_eq id) f (take (k + 1) panel)
    ∙ (list_any_more (λ i. bytes_eq id (f i)) panel k 0 l
    ∙ ap₂ (λ b (v : Volunteer). b || bytes_eq id v.id) (sym (list_any-map (bytes_eq id) f (take k panel))) here)

-- an id among the first `k` members is among all members
pub member_among : (pool : Pool) (panel : List ℕ) (k : ℕ) (id : List ℕ) → includes_list (member_ids pool (take k panel)) id ≡ true → includes_list (member_ids pool panel) id ≡ true
member_among pool panel k id h =
    let f = λ (i : ℕ). (volunteer pool.volunteers i).id in
    let p = λ (i : ℕ). bytes_eq id (f i) in
    let early : list_any p (take k panel) ≡ true = sym (list_any-map (bytes_eq id) f (take k panel)) ∙ h in
    list_any-map (bytes_eq id) f panel
    ∙ (ap (list_any p) (sym (take-append-drop k panel)) ∙ (list_any-append p (take k panel) (drop k panel) ∙ ap (λ b. b || list_any p (drop k panel)) early))

-- `member_more`, from the facts of a step of `is_member`
pub member_step : (pool : Pool) (panel items : List ℕ) (volunteers : List Volunteer) (k : ℕ) (id one other : List ℕ) (found : Volunteer) (same : Bool) →
    list_all (λ i. ltb i (length pool.volunteers)) panel ≡ true → items ≡ panel → volunteers ≡ pool.volunteers → k < length items → found ≡ get_or volunteers (get_or items k 0) found →
    one ≡ id → other ≡ found.id → same ≡ bytes_eq one other →
    includes_list (member_ids pool (take (k + 1) items)) id ≡ (includes_list (member_ids pool (take k items)) id || same)
member_step pool panel items volunteers k id one other found same below e f l is g h t =
    member_more pool items k id found (ap (list_all (λ i. ltb i (length pool.volunteers))) e ∙ below) l (is ∙ ap (λ all. get_or all (get_or items k 0) found) f)
    ∙ ap (λ b. includes_list (member_ids pool (take k items)) id || b) (sym (t ∙ ap₂ bytes_eq g h))

-- ---- facts of each element

-- if P holds of the first `k` elements and of element `k`, it holds of the first `k + 1`
pub each_more : {X : Type 0} (P : X → Type 0) (xs : List X) (k : ℕ) (x : X) → k < length xs → x ≡ get_or xs k x → AllByRecursion P (take k xs) → P x → AllByRecursion P (take (k + 1) xs)
each_more P [] k x l e each here = absurd (omega arith)
each_more P (y ∷ xs) zero x l e each here = (subst P e here, tt)
each_more P (y ∷ xs) (suc k) x l e each here = let more : suc k + 1 ≡ suc (k + 1) = omega arith in rw more ((each.0, each_more P xs k x (omega arith) e each.1 here))

pub each_of_all : {X : Type 0} (P : X → Type 0) (xs : List X) (k : ℕ) → length xs ≤ k → AllByRecursion P (take k xs) → AllByRecursion P xs
each_of_all P xs k l each = subst (AllByRecursion P) (take_all k xs l) each
