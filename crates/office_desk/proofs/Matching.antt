-- Which rows of a router match a path, if none of them has a parameter within a segment.
use Rattle.std.proofs.Common.{◌≡◌, ℕ, zero, suc, ◌-◌, ◌⊎◌, inl, inr, Bool, true, false, cond, not, ◌&&◌, ◌||◌, List, [], ◌∷◌, ◌++◌, length, Option, Some, None, refl, sym, ap, ◌∙◌}
use Rattle.std.specs.Prelude.{◌==◌}
use Rattle.std.specs.List.{list_all}
use Rattle.std.proofs.lemmas.Bool.{and_parts, eqb-true, false≢true, or_right}
use Rattle.matchit.specs.Rows.{RowsOf, catch_all_token, param_token}
use Rattle.matchit.specs.Seek.{has_slash, or_else, own, param_step, seek, step}

-- the pattern of a row takes the path: its bytes are the path, or it ends with a catch-all, which takes at least one byte
abbrev pub takes : List ℕ → List ℕ → Bool
takes [] [] = true
takes [] (b ∷ path) = false
takes (x ∷ t) [] = false
takes (x ∷ t) (b ∷ path) = ((x == catch_all_token) && (length t == 0)) || ((x == b) && takes t path)

module _ {K : Type 0} where
  or_else_none : (found : Option K) → or_else found None ≡ found
  or_else_none None = refl
  or_else_none (Some k) = refl

  no_param : (path : List ℕ) → (param_step {K = K} [] path).1 ≡ []
  unfolding param_step
  no_param path =
      elim (has_slash path) as (λ v. (cond {A = ℕ × RowsOf K} v (0, []) (length path, [])).1 ≡ []) [
        | true ↦ refl
        | false ↦ refl
      ]

  no_rows : (skip : ℕ) (path : List ℕ) → seek {K = K} skip [] path ≡ None
  unfolding seek
  no_rows skip [] = refl
  no_rows (suc skip) (b ∷ path) = no_rows skip path
  no_rows zero (b ∷ path) = simp (no_rows 0 path, no_param (b ∷ path), no_rows (((param_step {K = K} [] (b ∷ path)).0) - 1) path)

  -- one byte further on, if no row begins with a parameter
  past_byte : (rs : RowsOf K) (b : ℕ) (path : List ℕ) → step param_token rs ≡ [] → seek 0 rs (b ∷ path) ≡ or_else (seek 0 (step b rs) path) (own (step catch_all_token rs))
  unfolding seek
  past_byte rs b path e = rw e (simp (no_param (b ∷ path), no_rows ((param_step {K = K} [] (b ∷ path)).0 - 1) path))

  -- ---- a path that rows match

  -- no token of the rows is a parameter
  abbrev pub are_bare : RowsOf K → Bool
  are_bare [] = true
  are_bare ((t, k) ∷ rs) = list_all (λ x. not (x == param_token)) t && are_bare rs

  bare_step : (b : ℕ) (rs : RowsOf K) → are_bare rs ≡ true → are_bare (step b rs) ≡ true
  bare_step b [] h = refl
  bare_step b (([], k) ∷ rs) h = bare_step b rs (and_parts true (are_bare rs) h).1
  bare_step b ((x ∷ t, k) ∷ rs) h =
      let parts = and_parts (list_all (λ y. not (y == param_token)) (x ∷ t)) (are_bare rs) h in
      let tail = and_parts (not (x == param_token)) (list_all (λ y. not (y == param_token)) t) parts.0 in
      by (x == b) tail.1 (bare_step b rs parts.1)
    where
      by : (v : Bool) → list_all (λ y. not (y == param_token)) t ≡ true → are_bare (step b rs) ≡ true → are_bare (cond v ((t, k) ∷ step b rs) (step b rs)) ≡ true
      by true tail later = rw (tail, later) refl
      by false tail later = later

  bare_param : (rs : RowsOf K) → are_bare rs ≡ true → step param_token rs ≡ []
  bare_param [] h = refl
  bare_param (([], k) ∷ rs) h = bare_param rs (and_parts true (are_bare rs) h).1
  bare_param ((x ∷ t, k) ∷ rs) h =
      let parts = and_parts (list_all (λ y. not (y == param_token)) (x ∷ t)) (are_bare rs) h in
      let first = (and_parts (not (x == param_token)) (list_all (λ y. not (y == param_token)) t) parts.0).0 in
      by (x == param_token) first (bare_param rs parts.1)
    where
      by : (v : Bool) → not v ≡ true → step param_token rs ≡ [] → cond v ((t, k) ∷ step param_token rs) (step param_token rs) ≡ []
      by true n later = absurd (false≢true n)
      by false n later = later

  -- a row with this value takes the path
  abbrev pub HasTaker : RowsOf K → List ℕ → K → Type 0
  HasTaker [] path k = ⊥
  HasTaker ((t, value) ∷ rs) path k = ((takes t path ≡ true) × (k ≡ value)) ⊎ HasTaker rs path k

  taker_own : (rs : RowsOf K) (k : K) → own rs ≡ Some k → HasTaker rs [] k
  taker_own [] k e = absurd (cc)
  taker_own (([], value) ∷ rs) k e = let same : k ≡ value = cc in inl (refl, same)
  taker_own ((x ∷ t, value) ∷ rs) k e = inr (taker_own rs k e)

  taker_step : (b : ℕ) (rs : RowsOf K) (path : List ℕ) (k : K) → HasTaker (step b rs) path k → HasTaker rs (b ∷ path) k
  taker_step b [] path k f = f
  taker_step b (([], value) ∷ rs) path k f = inr (taker_step b rs path k f)
  taker_step b ((x ∷ t, value) ∷ rs) path k f = by (x == b) refl f (taker_step b rs path k)
    where
      by : (v : Bool) → (x == b) ≡ v → HasTaker (cond v ((t, value) ∷ step b rs) (step b rs)) path k → (HasTaker (step b rs) path k → HasTaker rs (b ∷ path) k) → ((takes (x ∷ t) (b ∷ path) ≡ true) × (k ≡ value)) ⊎ HasTaker rs (b ∷ path) k
      by true e (inl (h, same)) later = inl (or_right ((x == catch_all_token) && (length t == 0)) ((x == b) && takes t path) (rw (e, h) refl), same)
      by true e (inr g) later = inr (later g)
      by false e g later = inr (later g)

  taker_rest : (rs : RowsOf K) (b : ℕ) (path : List ℕ) (k : K) → own (step catch_all_token rs) ≡ Some k → HasTaker rs (b ∷ path) k
  taker_rest [] b path k e = absurd (cc)
  taker_rest (([], value) ∷ rs) b path k e = inr (taker_rest rs b path k e)
  taker_rest ((x ∷ t, value) ∷ rs) b path k e = by t (x == catch_all_token) refl e (taker_rest rs b path k)
    where
      by : (t : List ℕ) (v : Bool) → (x == catch_all_token) ≡ v → own (cond v ((t, value) ∷ step catch_all_token rs) (step catch_all_token rs)) ≡ Some k →
          (own (step catch_all_token rs) ≡ Some k → HasTaker rs (b ∷ path) k) →
          ((takes (x ∷ t) (b ∷ path) ≡ true) × (k ≡ value)) ⊎ HasTaker rs (b ∷ path) k
      by [] true is e later = let same : k ≡ value = cc in inl (rw is refl, same)
      by (y ∷ t) true is e later = inr (later e)
      by t false is e later = inr (later e)

  -- the value that is found for a path is that of a row that takes it
  pub taker : (path : List ℕ) (rs : RowsOf K) (k : K) → are_bare rs ≡ true → seek 0 rs path ≡ Some k → HasTaker rs path k
  unfolding seek
  taker [] rs k h e = taker_own rs k e
  taker (b ∷ path) rs k h e = by (seek 0 (step b rs) path) refl (sym (past_byte rs b path (bare_param rs h)) ∙ e) (taker path (step b rs) k (bare_step b rs h))
    where
      by : (found : Option K) → seek 0 (step b rs) path ≡ found → or_else found (own (step catch_all_token rs)) ≡ Some k → (seek 0 (step b rs) path ≡ Some k → HasTaker (step b rs) path k) → HasTaker rs (b ∷ path) k
      by (Some other) is f later = taker_step b rs path k (later (is ∙ f))
      by None is f later = taker_rest rs b path k f

  -- ---- a path that begins as rows do

  -- the rows that go on after these bytes
  abbrev pub steps : List ℕ → RowsOf K → RowsOf K
  steps [] rs = rs
  steps (b ∷ front) rs = steps front (step b rs)

  abbrev pub is_empty : RowsOf K → Bool
  is_empty [] = true
  is_empty (row ∷ rs) = false

  -- before each of these bytes no row ends with a catch-all
  abbrev pub has_no_end : List ℕ → RowsOf K → Bool
  has_no_end [] rs = true
  has_no_end (b ∷ front) rs = is_empty (step catch_all_token rs) && has_no_end front (step b rs)

  none_ends : (rs : RowsOf K) → is_empty rs ≡ true → own rs ≡ None
  none_ends [] h = refl
  none_ends (row ∷ rs) h = absurd (false≢true h)

  pub along : (front path : List ℕ) (rs : RowsOf K) → are_bare rs ≡ true → has_no_end front rs ≡ true → seek 0 rs (front ++ path) ≡ seek 0 (steps front rs) path
  along [] path rs bare h = refl
  along (b ∷ front) path rs bare h =
      let parts = and_parts (is_empty (step catch_all_token rs)) (has_no_end front (step b rs)) h in
      past_byte rs b (front ++ path) (bare_param rs bare)
      ∙ (ap (or_else (seek 0 (step b rs) (front ++ path))) (none_ends (step catch_all_token rs) parts.0)
      ∙ (or_else_none (seek 0 (step b rs) (front ++ path)) ∙ along front path (step b rs) (bare_step b rs bare) parts.1))

  -- a row that is only a catch-all takes any rest but the empty one
  pub any_rest : (b : ℕ) (path : List ℕ) (k : K) → seek 0 ((catch_all_token ∷ [], k) ∷ []) (b ∷ path) ≡ Some k
  unfolding seek
  any_rest b path k = past_byte rows b path refl ∙ by (catch_all_token == b) path
    where
      rows : RowsOf K
      rows = (catch_all_token ∷ [], k) ∷ []

      by : (v : Bool) (path : List ℕ) → or_else (seek 0 (cond v (([], k) ∷ []) []) path) (Some k) ≡ Some k
      by true [] = refl
      by true (c ∷ path) = ap (λ found. or_else found (Some k)) (past_byte (([], k) ∷ []) c path refl ∙ ap (λ found. or_else found None) (no_rows 0 path))
      by false path = ap (λ found. or_else found (Some k)) (no_rows 0 path)

-- ---- patterns that take a path

-- the tokens are no catch-all
abbrev pub has_no_catch_all : List ℕ → Bool
has_no_catch_all t = list_all (λ x. not (x == catch_all_token)) t

later_token : (x b : ℕ) (t path : List ℕ) (rest : Bool) → not (x == catch_all_token) ≡ true → (((x == catch_all_token) && (length t == 0)) || ((x == b) && rest)) ≡ true → ((x == b) && rest) ≡ true
later_token x b t path rest n h = by (x == catch_all_token) n h
  where
    by : (v : Bool) → not v ≡ true → ((v && (length t == 0)) || ((x == b) && rest)) ≡ true → ((x == b) && rest) ≡ true
    by true n h = absurd (false≢true n)
    by false n h = h

-- such a pattern takes itself alone
pub taken_path : (t path : List ℕ) → has_no_catch_all t ≡ true → takes t path ≡ true → path ≡ t
taken_path [] [] n h = refl
taken_path [] (b ∷ path) n h = absurd (false≢true h)
taken_path (x ∷ t) [] n h = absurd (false≢true h)
taken_path (x ∷ t) (b ∷ path) n h =
    let none = and_parts (not (x == catch_all_token)) (has_no_catch_all t) n in
    let both = and_parts (x == b) (takes t path) (later_token x b t path (takes t path) none.0 h) in
    let same : b ≡ x = sym (eqb-true x b both.0) in
    ap (λ (c : ℕ). c ∷ path) same ∙ ap (λ rest. x ∷ rest) (taken_path t path none.1 both.1)

-- the path begins with `front`
pub record BeginsWith (front path : List ℕ) : Type 0 where
  pub rest : List ℕ
  pub is : path ≡ front ++ rest

pub taken_rest : (front path : List ℕ) → has_no_catch_all front ≡ true → takes (front ++ catch_all_token ∷ []) path ≡ true → BeginsWith front path
taken_rest [] path n h = record { rest = path; is = refl }
taken_rest (x ∷ front) [] n h = absurd (false≢true h)
taken_rest (x ∷ front) (b ∷ path) n h =
    let t = front ++ catch_all_token ∷ [] in
    let none = and_parts (not (x == catch_all_token)) (has_no_catch_all front) n in
    let both = and_parts (x == b) (takes t path) (later_token x b t path (takes t path) none.0 h) in
    let same : b ≡ x = sym (eqb-true x b both.0) in
    let later = taken_rest front path none.1 both.1 in
    record { rest = later.rest; is = ap (λ (c : ℕ). c ∷ path) same ∙ ap (λ all. x ∷ all) later.is }
