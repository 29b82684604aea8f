-- From text to a number.
use Rattle.std.proofs.Common.{◌≡◌, refl, sym, ◌∙◌, ℕ, zero, suc, ◌+◌, ◌-◌, ◌*◌, ◌^◌, ◌≤◌, ◌<◌, leb, Bool, true, false, [], ◌∷◌, length, take, drop, slice_index_or, Option, Some, None, ℤ, pos, negsuc, Fits, w64, arith, take_all}
use Rattle.std.proofs.Math.Nat.{add-zero, pow-le-pow_right}
use Rattle.std.specs.Char.{is_ascii_digit}
use Rattle.layout.specs.Bytes.{Bytes, pick, between}
use Rattle.layout.specs.Number.{more, whole, plus, minus, number}
use Rattle.layout.proofs.Picks.{picked, between_true}
use Rattle.number.proofs.Signs.{not_held, plus_held}

-- ---- 19 digits fit

-- a digit more than fewer than 19 of them
pub digit_fits : (i n m : ℕ) → n < 10 ^ i → i < 19 → m ≤ 10 * n + 9 → Fits w64 m
digit_fits i n m h l e =
    let p : n < 10 ^ 18 = omega (arith, pow-le-pow_right {n = 10} (omega arith) {i = i} {j = 18} (omega arith)) in
    record { fits = omega arith }

-- the digit that b is the text of
pub digit_more : (i n b d : ℕ) → n < 10 ^ i → i < 19 → is_ascii_digit b ≡ true → d ≡ b - 48 → Fits w64 (10 * n + d)
digit_more i n b d h l t e = digit_fits i n (10 * n + d) h l (let q = between_true 48 57 b t in omega arith)

-- ---- more digits than 19 are past 64 bits

-- digits after the first make it that many times larger
more_least : (j m n : ℕ) (bs : Bytes) → 10 ^ j ≤ m → more m bs ≡ Some n → 10 ^ (j + length bs) ≤ n
unfolding more
more_least j m n [] h e = grind (arith, add-zero)
more_least j m n (b ∷ bs) h e =
    let u = (picked (between 48 57 b) (more (10 * m + (b - 48)) bs) n e).1 in
    let q : j + suc (length bs) ≡ suc j + length bs = omega arith in
    rw q (more_least (suc j) (10 * m + (b - 48)) n bs (omega arith) u)

whole_least : (v : Bytes) (n : ℕ) → 19 < length v → whole v ≡ Some n → 10 ^ 19 ≤ n
unfolding whole
whole_least [] n l e = absurd (omega arith)
whole_least (b ∷ []) n l e = absurd (omega arith)
whole_least (b ∷ c ∷ v) n l e =
    let (t, u) = picked (between 49 57 b) (more (b - 48) (c ∷ v)) n e in
    let d = between_true 49 57 b t in
    let g : 10 ^ (0 + length (c ∷ v)) ≤ n = more_least 0 (b - 48) n (c ∷ v) (omega arith) u in
    omega (arith, pow-le-pow_right {n = 10} (omega arith) {i = 19} {j = 0 + length (c ∷ v)} (omega arith))

-- the whole number that bytes say, if 19 digits do
abbrev few : Bytes → Option ℕ
few v = pick (leb (length v) 19) (whole v) None

-- so a sign s makes of 19 digits at most what it makes of any
module _ (s : Option ℕ → Option ℤ) (no : s None ≡ None) (large : (n : ℕ) → 10 ^ 19 ≤ n → s (Some n) ≡ None) where
  none_of : (o : Option ℕ) → ((n : ℕ) → o ≡ Some n → 10 ^ 19 ≤ n) → None ≡ s o
  none_of None h = sym no
  none_of (Some n) h = sym (large n (h n refl))

  few_is : (v : Bytes) → s (few v) ≡ s (whole v)
  few_is v = grind (arith, no, none_of (whole v), whole_least v)

plus_large : (n : ℕ) → 10 ^ 19 ≤ n → plus (Some n) ≡ None
unfolding plus
plus_large n l = sym (not_held (pos n) λ f. omega (arith, l, f.sfits))

minus_large : (n : ℕ) → 10 ^ 19 ≤ n → minus (Some n) ≡ None
unfolding minus
minus_large zero l = refl
minus_large (suc n) l = sym (not_held (negsuc n) λ f. omega (arith, l, f.sfits))

pub too_many : (b : Bool) (v : Bytes) → 19 < length v → None ≡ pick b (minus (whole v)) (plus (whole v))
unfolding minus plus
too_many true v l = grind (arith, few_is minus refl minus_large v)
too_many false v l = grind (arith, few_is plus refl plus_large v)

-- ---- the value

-- with a minus in front
pub number_minus : (v : Bytes) (o : Option ℤ) → 1 ≤ length v → slice_index_or v 0 0 ≡ 45
    → o ≡ minus (whole (take (length v - 1) (drop 1 v))) → o ≡ number v
unfolding number
number_minus [] o l e h = absurd (omega arith)
number_minus (b ∷ v) o l e h = grind (arith, take_all)

-- and with none
pub number_plus : (v : Bytes) (o : Option ℤ) → (slice_index_or v 0 0 ≡ 45 → ⊥) → o ≡ plus (whole v) → o ≡ number v
unfolding number whole plus
number_plus [] o h e = e
number_plus (b ∷ v) o h e = grind arith

-- what the digits came to, and what the sign made of that
module _ (v : Bytes) (r : Option ℤ) where
  module _ (l : 1 ≤ length v) (e : slice_index_or v 0 0 ≡ 45) where
    minus_of : (o : Option ℕ) → o ≡ few (take (length v - 1) (drop 1 v)) → r ≡ minus o → r ≡ number v
    unfolding minus
    minus_of o f g = number_minus v r l e (g ∙ rw f (few_is minus refl minus_large (take (length v - 1) (drop 1 v))))

    pub minus_none : None ≡ few (take (length v - 1) (drop 1 v)) → r ≡ None → r ≡ number v
    unfolding minus
    minus_none f g = minus_of None f g

    pub minus_some : (n : ℕ) → Some n ≡ few (take (length v - 1) (drop 1 v)) → r ≡ minus (Some n) → r ≡ number v
    minus_some n f g = minus_of (Some n) f g

  module _ (h : slice_index_or v 0 0 ≡ 45 → ⊥) where
    plus_of : (o : Option ℕ) → o ≡ few v → r ≡ plus o → r ≡ number v
    unfolding plus
    plus_of o f g = number_plus v r h (g ∙ rw f (few_is plus refl plus_large v))

    pub plus_none : None ≡ few v → r ≡ None → r ≡ number v
    unfolding plus
    plus_none f g = plus_of None f g

    pub plus_some : (n : ℕ) → Some n ≡ few v → r ≡ plus (Some n) → r ≡ number v
    plus_some n f g = plus_of (Some n) f g

pub ruleset parse_laws = (minus_none, minus_some, plus_none, plus_some, plus_held)
