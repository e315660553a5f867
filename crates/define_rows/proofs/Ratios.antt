-- The rows of which `may_leave` holds are totally ordered by `goes_before`, so one of them is preferred to all others.
use Rattle.std.proofs.Common.{◌≡◌, ◌≢◌, ℕ, suc, ◌*◌, ◌<◌, ◌≤◌, Bool, true, false, ◌&&◌, ◌||◌, ℤ, pos, negsuc, ◌*ℤ◌, ◌≤ℤ◌, ◌<ℤ◌, refl, ap, ap₂, ◌∙◌, arith, inl, inr, ◌⊎◌, ⊎_elim, mul-le-mul_right, le_of_mul-le-mul_right}
use Rattle.std.specs.Prelude.{int_lt}
use Rattle.std.specs.Ordering.{int_eq}
use Rattle.std.proofs.lemmas.Int.{ints}
use Rattle.std.proofs.lemmas.Bool.{lt-ltb, ltb-true, cases_lt}
use Rattle.std.proofs.lemmas.Bool.Decides.{Decides-int_eq}
use Rattle.define_rows.specs.declared.Var.{Var}
use Rattle.define_rows.specs.declared.Var.TheVariants.{Slack, Stage, Column}
use Rattle.define_rows.specs.Table.{comes_before}
use Rattle.define_rows.specs.Choice.{goes_before}

-- a variable's kind. Variables are ordered by their kind, then by their number
kind : Var → ℕ
kind (Slack t) = 0
kind (Stage r) = 1
kind (Column c) = 2

number : Var → ℕ
number (Slack t) = t
number (Stage r) = r
number (Column c) = c

record Before (x y : Var) : Type 0 where
  order : (kind x < kind y) ⊎ ((kind x ≡ kind y) × (number x < number y))

before-out : (x y : Var) → comes_before x y ≡ true → Before x y
unfolding kind number
before-out (Slack t) (Slack u) e = record { order = inr (refl, ltb-true t u e) }
before-out (Slack t) (Stage s) e = record { order = inl (omega arith) }
before-out (Slack t) (Column d) e = record { order = inl (omega arith) }
before-out (Stage r) (Slack u) e = absurd cc
before-out (Stage r) (Stage s) e = record { order = inr (refl, ltb-true r s e) }
before-out (Stage r) (Column d) e = record { order = inl (omega arith) }
before-out (Column c) (Slack u) e = absurd cc
before-out (Column c) (Stage s) e = absurd cc
before-out (Column c) (Column d) e = record { order = inr (refl, ltb-true c d e) }

before-in : (x y : Var) → Before x y → comes_before x y ≡ true
unfolding kind number
before-in (Slack t) (Slack u) h = ⊎_elim (λ l. absurd (omega arith)) (λ p. lt-ltb t u p.1) h.order
before-in (Slack t) (Stage s) h = refl
before-in (Slack t) (Column d) h = refl
before-in (Stage r) (Slack u) h = absurd (⊎_elim (λ l. omega arith) (λ p. let e : 1 ≡ 0 = p.0 in omega arith) h.order)
before-in (Stage r) (Stage s) h = ⊎_elim (λ l. absurd (omega arith)) (λ p. lt-ltb r s p.1) h.order
before-in (Stage r) (Column d) h = refl
before-in (Column c) (Slack u) h = absurd (⊎_elim (λ l. omega arith) (λ p. let e : 2 ≡ 0 = p.0 in omega arith) h.order)
before-in (Column c) (Stage s) h = absurd (⊎_elim (λ l. omega arith) (λ p. let e : 2 ≡ 1 = p.0 in omega arith) h.order)
before-in (Column c) (Column d) h = ⊎_elim (λ l. absurd (omega arith)) (λ p. lt-ltb c d p.1) h.order

same_variable : (x y : Var) → kind x ≡ kind y → number x ≡ number y → x ≡ y
unfolding kind number
same_variable (Slack t) (Slack u) e f = ap Slack f
same_variable (Slack t) (Stage s) e f = absurd (let k : 0 ≡ 1 = e in omega arith)
same_variable (Slack t) (Column d) e f = absurd (let k : 0 ≡ 2 = e in omega arith)
same_variable (Stage r) (Slack u) e f = absurd (let k : 1 ≡ 0 = e in omega arith)
same_variable (Stage r) (Stage s) e f = ap Stage f
same_variable (Stage r) (Column d) e f = absurd (let k : 1 ≡ 2 = e in omega arith)
same_variable (Column c) (Slack u) e f = absurd (let k : 2 ≡ 0 = e in omega arith)
same_variable (Column c) (Stage s) e f = absurd (let k : 2 ≡ 1 = e in omega arith)
same_variable (Column c) (Column d) e f = ap Column f

-- `goes_before`, for right sides and coefficients that are natural numbers
record Goes (m n : ℕ) (x : Var) (m' n' : ℕ) (y : Var) : Type 0 where
  ratio : (m * n' < m' * n) ⊎ ((m * n' ≡ m' * n) × Before x y)

goes-out : (m n m' n' : ℕ) (x y : Var) → goes_before (pos m) (pos n) x (pos m') (pos n') y ≡ true → Goes m n x m' n' y
goes-out m n m' n' x y e = by (int_lt (pos m *ℤ pos n') (pos m' *ℤ pos n)) (int_eq (pos m *ℤ pos n') (pos m' *ℤ pos n)) (comes_before x y) refl refl refl e
  where
    by : (a b t : Bool) → int_lt (pos m *ℤ pos n') (pos m' *ℤ pos n) ≡ a → int_eq (pos m *ℤ pos n') (pos m' *ℤ pos n) ≡ b → comes_before x y ≡ t → (a || b && t) ≡ true → Goes m n x m' n' y
    by true b t f g h k = record { ratio = inl (omega (arith, ints, f)) }
    by false true true f g h k = let same : pos (m * n') ≡ pos (m' * n) = (Decides-int_eq (pos m *ℤ pos n') (pos m' *ℤ pos n)).0 g in record { ratio = inr (omega (arith, ints, same), before-out x y h) }
    by false true false f g h k = absurd cc
    by false false t f g h k = absurd cc

goes-in : (m n m' n' : ℕ) (x y : Var) → Goes m n x m' n' y → goes_before (pos m) (pos n) x (pos m') (pos n') y ≡ true
goes-in m n m' n' x y h = ⊎_elim less equal h.ratio
  where
    less : m * n' < m' * n → goes_before (pos m) (pos n) x (pos m') (pos n') y ≡ true
    less l = ap (λ a. a || int_eq (pos m *ℤ pos n') (pos m' *ℤ pos n) && comes_before x y) (lt-ltb (m * n') (m' * n) l)

    equal : (m * n' ≡ m' * n) × Before x y → goes_before (pos m) (pos n) x (pos m') (pos n') y ≡ true
    equal p =
        ap₂ (λ b t. int_lt (pos m *ℤ pos n') (pos m' *ℤ pos n) || b && t) ((Decides-int_eq (pos m *ℤ pos n') (pos m' *ℤ pos n)).1 (ap pos p.0)) (before-in x y p.1)
        ∙ (elim (int_lt (pos m *ℤ pos n') (pos m' *ℤ pos n)) as (λ a. (a || true && true) ≡ true) [ true ↦ refl | false ↦ refl ])

-- the order of ratios is transitive: if m/n ≤ a/b and a/b ≤ p/q, then m/n ≤ p/q, by the products across
chain : (m n a b p q : ℕ) → m * b ≤ a * n → a * q ≤ p * b → 0 < b → m * q ≤ p * n
chain m n a b p q l k some =
    let first : m * b * q ≤ a * n * q = mul-le-mul_right q l in
    let second : a * q * n ≤ p * b * n = mul-le-mul_right n k in
    let whole : m * q * b ≤ p * n * b = omega (arith, first, second) in
    le_of_mul-le-mul_right whole some

chain_first : (m n a b p q : ℕ) → m * b < a * n → a * q ≤ p * b → 0 < b → 0 < q → m * q < p * n
chain_first m n a b p q l k some some' = by (cases_lt (m * q) (p * n))
  where
    by : (m * q < p * n) ⊎ (p * n ≤ m * q) → m * q < p * n
    by (inl x) = x
    by (inr x) =
        let first : suc (m * b) * q ≤ a * n * q = mul-le-mul_right q l in
        let second : a * q * n ≤ p * b * n = mul-le-mul_right n k in
        let third : p * n * b ≤ m * q * b = mul-le-mul_right b x in absurd (omega (arith, first, second, third))

chain_second : (m n a b p q : ℕ) → m * b ≤ a * n → a * q < p * b → 0 < b → 0 < n → m * q < p * n
chain_second m n a b p q l k some some' = by (cases_lt (m * q) (p * n))
  where
    by : (m * q < p * n) ⊎ (p * n ≤ m * q) → m * q < p * n
    by (inl x) = x
    by (inr x) =
        let first : m * b * q ≤ a * n * q = mul-le-mul_right q l in
        let second : suc (a * q) * n ≤ p * b * n = mul-le-mul_right n k in
        let third : p * n * b ≤ m * q * b = mul-le-mul_right b x in absurd (omega (arith, first, second, third))

before-chain : (x y z : Var) → Before x y → Before y z → Before x z
before-chain x y z h k = record { order = by h.order k.order }
  where
    by : (kind x < kind y) ⊎ ((kind x ≡ kind y) × (number x < number y)) → (kind y < kind z) ⊎ ((kind y ≡ kind z) × (number y < number z)) → (kind x < kind z) ⊎ ((kind x ≡ kind z) × (number x < number z))
    by (inl l) (inl m) = inl (omega arith)
    by (inl l) (inr m) = inl (omega (arith, m.0))
    by (inr l) (inl m) = inl (omega (arith, l.0))
    by (inr l) (inr m) = inr (l.0 ∙ m.0, omega (arith, l.1, m.1))

goes-chain : (m n a b p q : ℕ) (x y z : Var) → 0 < n → 0 < b → 0 < q → Goes m n x a b y → Goes a b y p q z → Goes m n x p q z
goes-chain m n a b p q x y z sn sb sq h k = record { ratio = by h.ratio k.ratio }
  where
    by : (m * b < a * n) ⊎ ((m * b ≡ a * n) × Before x y) → (a * q < p * b) ⊎ ((a * q ≡ p * b) × Before y z) → (m * q < p * n) ⊎ ((m * q ≡ p * n) × Before x z)
    by (inl l) (inl o) = inl (chain_first m n a b p q l (omega arith) sb sq)
    by (inl l) (inr o) = inl (chain_first m n a b p q l (omega (arith, o.0)) sb sq)
    by (inr l) (inl o) = inl (chain_second m n a b p q (omega (arith, l.0)) o sb sn)
    by (inr l) (inr o) =
        let up = chain m n a b p q (omega (arith, l.0)) (omega (arith, o.0)) sb in
        let down = chain p q a b m n (omega (arith, o.0)) (omega (arith, l.0)) sb in
        inr (omega (arith, up, down), before-chain x y z l.1 o.1)

goes-not_itself : (m n : ℕ) (x : Var) → Goes m n x m n x → ⊥
goes-not_itself m n x h = by h.ratio
  where
    by : (m * n < m * n) ⊎ ((m * n ≡ m * n) × Before x x) → ⊥
    by (inl l) = omega arith
    by (inr p) = ⊎_elim (λ l. omega arith) (λ q. omega (arith, q.1)) p.1.order

before-one : (x y : Var) → x ≢ y → (Before x y) ⊎ (Before y x)
before-one x y n = by (cases_lt (kind x) (kind y)) (cases_lt (kind y) (kind x)) (cases_lt (number x) (number y)) (cases_lt (number y) (number x))
  where
    by : (kind x < kind y) ⊎ (kind y ≤ kind x) → (kind y < kind x) ⊎ (kind x ≤ kind y) → (number x < number y) ⊎ (number y ≤ number x) → (number y < number x) ⊎ (number x ≤ number y) → (Before x y) ⊎ (Before y x)
    by (inl l) b c d = inl (record { order = inl l })
    by (inr l) (inl m) c d = inr (record { order = inl m })
    by (inr l) (inr m) (inl o) d = inl (record { order = inr (omega arith, o) })
    by (inr l) (inr m) (inr o) (inl q) = inr (record { order = inr (omega arith, q) })
    by (inr l) (inr m) (inr o) (inr q) = absurd (n (same_variable x y (omega arith) (omega arith)))

goes-one : (m n a b : ℕ) (x y : Var) → x ≢ y → (Goes m n x a b y) ⊎ (Goes a b y m n x)
goes-one m n a b x y o = by (cases_lt (m * b) (a * n)) (cases_lt (a * n) (m * b)) (before-one x y o)
  where
    by : (m * b < a * n) ⊎ (a * n ≤ m * b) → (a * n < m * b) ⊎ (m * b ≤ a * n) → (Before x y) ⊎ (Before y x) → (Goes m n x a b y) ⊎ (Goes a b y m n x)
    by (inl l) c d = inl (record { ratio = inl l })
    by (inr l) (inl k) d = inr (record { ratio = inl k })
    by (inr l) (inr k) (inl d) = inl (record { ratio = inr (omega arith, d) })
    by (inr l) (inr k) (inr d) = inr (record { ratio = inr (omega arith, d) })

-- the numbers of a row of which `may_leave` holds: a right side of at least 0, and a coefficient above 0
pub record IsCandidate (b c : ℤ) : Type 0 where
  pub side : pos 0 ≤ℤ b
  pub coefficient : pos 0 <ℤ c

pub before-before : (b c : ℤ) (x : Var) (b' c' : ℤ) (y : Var) (b'' c'' : ℤ) (z : Var) → IsCandidate b c → IsCandidate b' c' → IsCandidate b'' c'' →
    goes_before b c x b' c' y ≡ true → goes_before b' c' y b'' c'' z ≡ true → goes_before b c x b'' c'' z ≡ true
before-before (pos m) (pos n) x (pos a) (pos b) y (pos p) (pos q) z h i j e f =
    goes-in m n p q x z (goes-chain m n a b p q x y z (omega (arith, ints, h.coefficient)) (omega (arith, ints, i.coefficient)) (omega (arith, ints, j.coefficient)) (goes-out m n a b x y e) (goes-out a b p q y z f))
before-before (negsuc m) n x a b y p q z h i j e f = absurd (omega (arith, ints, h.side))
before-before (pos m) (negsuc n) x a b y p q z h i j e f = absurd (omega (arith, ints, h.coefficient))
before-before (pos m) (pos n) x (negsuc a) b y p q z h i j e f = absurd (omega (arith, ints, i.side))
before-before (pos m) (pos n) x (pos a) (negsuc b) y p q z h i j e f = absurd (omega (arith, ints, i.coefficient))
before-before (pos m) (pos n) x (pos a) (pos b) y (negsuc p) q z h i j e f = absurd (omega (arith, ints, j.side))
before-before (pos m) (pos n) x (pos a) (pos b) y (pos p) (negsuc q) z h i j e f = absurd (omega (arith, ints, j.coefficient))

pub before-itself : (b c : ℤ) (x : Var) → IsCandidate b c → goes_before b c x b c x ≡ false
before-itself (pos m) (pos n) x h = by (goes_before (pos m) (pos n) x (pos m) (pos n) x) refl
  where
    by : (t : Bool) → goes_before (pos m) (pos n) x (pos m) (pos n) x ≡ t → goes_before (pos m) (pos n) x (pos m) (pos n) x ≡ false
    by true e = absurd (goes-not_itself m n x (goes-out m n m n x x e))
    by false e = e
before-itself (negsuc m) n x h = absurd (omega (arith, ints, h.side))
before-itself (pos m) (negsuc n) x h = absurd (omega (arith, ints, h.coefficient))

pub before-other : (b c : ℤ) (x : Var) (b' c' : ℤ) (y : Var) → IsCandidate b c → IsCandidate b' c' → x ≢ y → goes_before b c x b' c' y ≡ false → goes_before b' c' y b c x ≡ true
before-other (pos m) (pos n) x (pos a) (pos b) y h i o e =
    ⊎_elim (λ g. let t = goes-in m n a b x y g in absurd cc) (λ g. goes-in a b m n y x g) (goes-one m n a b x y o)
before-other (negsuc m) n x a b y h i o e = absurd (omega (arith, ints, h.side))
before-other (pos m) (negsuc n) x a b y h i o e = absurd (omega (arith, ints, h.coefficient))
before-other (pos m) (pos n) x (negsuc a) b y h i o e = absurd (omega (arith, ints, i.side))
before-other (pos m) (pos n) x (pos a) (negsuc b) y h i o e = absurd (omega (arith, ints, i.coefficient))
