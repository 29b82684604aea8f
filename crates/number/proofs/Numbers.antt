-- Numbers in k bytes, for every k.
use Rattle.std.proofs.Common.{◌≡◌, refl, ap, ◌∙◌, ℕ, zero, suc, ◌+◌, ◌-◌, ◌*◌, ◌/◌, ◌%◌, ◌^◌, ◌≤◌, ◌<◌, ltb, Bool, true, ◌∷◌, take, ℤ, pos, negsuc, SFits, w64, to_z, to_z-of_z, arith, pow-add}
use Rattle.std.proofs.Math.Nat.{one-mul, mul_assoc, mul-suc, pow-succ', pow-le-pow_right, one-le-pow, mul-le-mul_right}
use Rattle.std.proofs.Math.Pow.{shl_exact}
use Rattle.std.proofs.lemmas.Int.{to_z_pos}
use Rattle.std.proofs.lemmas.Nat.{shl-shr, shr_high}
use Rattle.std.proofs.Math.Facts.{to_z-neg}
use Rattle.std.specs.Int.Signed.{mag, shr_z}
use Rattle.layout.specs.Number.{half, holds, twos, of_twos}
use Rattle.layout.specs.Entry.{small}
use Rattle.layout.specs.Bytes.{le}
use Rattle.layout.proofs.Picks.{tests, by_test}
use Rattle.number.specs.Shorter.{shorter}
use Rattle.number.proofs.Signs.{again, holds_mag}

-- ---- half of what k bytes hold

half_pow : (j : ℕ) → 2 ^ (8 * j + 7) ≡ half (suc j)
half_pow zero = refl
half_pow (suc j) =
    let e : 8 * suc j + 7 ≡ 8 + (8 * j + 7) = omega arith in rw (e, pow-add 2 8 (8 * j + 7), half_pow j) (omega arith)

-- by a shift
shifted : (j : ℕ) → suc j ≤ 8 → 1 * 2 ^ (8 * suc j - 1) % 2 ^ 64 ≡ half (suc j)
shifted j l =
    let g : 8 * suc j - 1 ≡ 8 * j + 7 = omega arith in
    rw (g, shl_exact {a = 1} 1 (8 * j + 7) 64 (omega arith) (omega arith), one-mul) (half_pow j)

pub half_is : (k : ℕ) → 1 ≤ k → k ≤ 8
    → (1 * 2 ^ (8 * k - 1) % 2 ^ 64 ≡ half k) × (2 * (1 * 2 ^ (8 * k - 1) % 2 ^ 64) ≡ 256 ^ k) × (1 * 2 ^ (8 * k - 1) % 2 ^ 64 ≤ 2 ^ 63)
half_is zero p q = absurd (omega arith)
half_is (suc j) p q =
    rw (shifted j q) (refl, omega arith, omega (arith, pow-le-pow_right {n = 256} (omega arith) {i = suc j} {j = 8} q))

-- ---- by sign and magnitude

-- of a number that was handed to callees as the machine reads it again
module _ {z : ℤ} (f : SFits w64 z) where
  pub fits_is : (n k h : ℕ) → n ≡ mag (again z) → h ≡ half k → ltb n h ≡ holds k z
  fits_is n k h m g = rw (m, to_z-of_z f, g) (holds_mag k z)

  -- whether a kind before that of 1 byte holds z
  pub shorter_one : (k : ℕ) (r : Bool) → k ≡ 1 → r ≡ small (again z) → r ≡ shorter k z
  shorter_one k r e h = rw (e, h, to_z-of_z f)

-- ---- the bytes of a number

-- the low bytes of more
le_take : (k m x : ℕ) → k ≤ m → take k (le m x) ≡ le k x
unfolding le
le_take zero m x l = refl
le_take (suc k) zero x l = absurd (omega arith)
le_take (suc k) (suc m) x l = ap (λ bs. x % 256 ∷ bs) (le_take k m (x / 256) (omega arith))

-- what lies above k bytes changes none of them
le_above : (k x y : ℕ) → le k (x + 256 ^ k * y) ≡ le k x
unfolding le
le_above zero x y = refl
le_above (suc k) x y =
    let e : 256 ^ suc k * y ≡ 256 * (256 ^ k * y) = ap (λ p. p * y) (pow-succ' 256 k) ∙ mul_assoc 256 (256 ^ k) y in
    let low : (x + 256 ^ suc k * y) % 256 ≡ x % 256 = omega arith in
    let high : (x + 256 ^ suc k * y) / 256 ≡ x / 256 + 256 ^ k * y = omega arith in
    rw (low, high, le_above k (x / 256) y)

-- what k bytes hold is in them as in the low bytes of m
pub twos_take : (k m : ℕ) (z : ℤ) → k ≤ m → holds k z ≡ true → take k (le m (twos m z)) ≡ le k (twos k z)
unfolding holds twos
twos_take k m (pos n) l h = le_take k m n l
twos_take k m (negsuc n) l h =
    let y : ℕ = 256 ^ (m - k) - 1 in
    let s : m ≡ k + (m - k) = omega arith in
    let p : 256 ^ m ≡ 256 ^ k * 256 ^ (m - k) = ap (λ i. 256 ^ i) s ∙ pow-add 256 k (m - k) in
    let o : 256 ^ (m - k) ≡ suc y = omega (arith, one-le-pow (m - k) 256 (omega arith)) in
    let q : 256 ^ k * suc y ≡ 256 ^ k * y + 256 ^ k = mul-suc (256 ^ k) y in
    let r : 256 ^ k * 256 ^ (m - k) ≡ 256 ^ k * y + 256 ^ k = ap (λ i. 256 ^ k * i) o ∙ q in
    let e : 256 ^ m - suc n ≡ (256 ^ k - suc n) + 256 ^ k * y = omega tests in
    le_take k m (256 ^ m - suc n) l ∙ ap (le k) e ∙ le_above k (256 ^ k - suc n) y

-- ---- the number of some bytes

pow_256 : (k : ℕ) → 256 ^ k ≡ 2 ^ (8 * k)
pow_256 zero = refl
pow_256 (suc k) = let e : 8 * suc k ≡ 8 + 8 * k = omega arith in rw (e, pow-add 2 8 (8 * k), ← pow_256 k) (omega arith)

-- r is x with its sign moved to the highest bit
module _ (k u x : ℕ) (r : ℤ) (one : 1 ≤ k) (e : 8 * k + u ≡ 64) (l : x < 256 ^ k) (c : r ≡ to_z w64 (x * 2 ^ u % 2 ^ 64)) where
  all : 256 ^ k * 2 ^ u ≡ 2 ^ 64
  all = rw (pow_256 k, ← pow-add 2 (8 * k) u, e) refl

  some : 1 ≤ 2 ^ u
  some = one-le-pow u 2 (omega arith)

  -- products by 2 ^ u, of whatever the numbers are
  scaled : (a b : ℕ) → suc a ≤ b → a * 2 ^ u + 2 ^ u ≤ b * 2 ^ u
  scaled a b h = let g = mul-le-mul_right {m = suc a} {n = b} (2 ^ u) h in omega (arith, g)

  moved : r ≡ to_z w64 (x * 2 ^ u)
  moved =
      let b = scaled x (256 ^ k) l in
      let m : x * 2 ^ u % 2 ^ 64 ≡ x * 2 ^ u = omega (arith, b, some, all) in c ∙ ap (to_z w64) m

  halves : (2 * half k ≡ 256 ^ k) × (half k ≤ 2 ^ 63)
  halves = let (a, b, d) = half_is k one (omega arith) in (rw a at b, rw a at d)

  half_all : half k * 2 ^ u ≡ 2 ^ 63
  half_all = let g : 2 * half k * 2 ^ u ≡ 2 ^ 64 = rw halves.0 all in omega (arith, g)

  plus_decoded : x < half k → again (shr_z (again r) (2 ^ u)) ≡ pos x
  plus_decoded h =
      let b = scaled x (half k) h in
      let y : x * 2 ^ u < 2 ^ 63 = omega (arith, b, some, half_all) in
      rw (moved, to_z_pos w64 (x * 2 ^ u) y, to_z-of_z {w = w64} {z = pos (x * 2 ^ u)} (record { sfits = y }), shl-shr x u)
      (to_z-of_z {w = w64} {z = pos x} (record { sfits = omega (arith, halves.1) }))

  minus_by : (j : ℕ) → half k ≤ x → j + suc x ≡ 256 ^ k → again (shr_z (again r) (2 ^ u)) ≡ negsuc j
  minus_by j h g =
      let m : ℕ = 2 ^ 64 - suc (x * 2 ^ u) in
      let y : 2 ^ 63 ≤ x * 2 ^ u = omega (arith, mul-le-mul_right {m = half k} {n = x} (2 ^ u) h, half_all) in
      let a : (j + suc x) * 2 ^ u ≡ 2 ^ 64 = rw g all in
      let b : j * 2 ^ u + (x * 2 ^ u + 2 ^ u) ≡ 2 ^ 64 = omega (arith, a) in
      let n : m ≡ j * 2 ^ u + (2 ^ u - 1) = omega (arith, b, some) in
      let f : m < 2 ^ 63 = omega (arith, y) in
      let q : x * 2 ^ u ≡ 2 ^ 64 - suc m = omega (arith, b, some) in
      let d : m / 2 ^ u ≡ j = ap (λ i. i / 2 ^ u) n ∙ shr_high j u (2 ^ u - 1) (omega (arith, some)) in
      let t : r ≡ negsuc m = moved ∙ ap (to_z w64) q ∙ to_z-neg w64 m f in
      rw (t, to_z-of_z {w = w64} {z = negsuc m} (record { sfits = f }), d)
      (to_z-of_z {w = w64} {z = negsuc j} (record { sfits = omega (arith, h, g, halves) }))

  minus_decoded : half k ≤ x → again (shr_z (again r) (2 ^ u)) ≡ negsuc (256 ^ k - suc x)
  minus_decoded h = minus_by (256 ^ k - suc x) h (omega (arith, l))

  pub decoded : again (shr_z (again r) (2 ^ u)) ≡ of_twos k x
  unfolding of_twos
  decoded = by_test (ltb x (half k)) (λ t. rw t (plus_decoded (omega tests))) λ t. rw t (minus_decoded (omega tests))
