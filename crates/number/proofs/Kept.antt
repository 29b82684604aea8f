-- Laws that were landed and that nothing else states, with the definitions they speak of and the steps under them. No proof
-- outside this file cites them.
use Rattle.std.proofs.Common.{◌≡◌, refl, sym, ap, ◌∙◌, ℕ, zero, suc, ◌+◌, ◌-◌, ◌*◌, ◌/◌, ◌%◌, ◌^◌, ◌≤◌, ◌<◌, leb, Bool, true, false, not, [], ◌∷◌, ◌++◌, length, take, drop, slice_index_or, replicate, Option, Some, None, ℤ, pos, negsuc, ◌-ℤ◌, Fits, SFits, w64, to_z, to_z-of_z, arith, length-take-le, ne_eqb, add-one, one-add, add-zero, T, nat_abs, ltb, lt-ltb, le-ltb, set, length-set, drop-cons, get_or-set_same, drop-set-lt, drop_of_length-le, take-add}
use Rattle.std.proofs.lemmas.List.{take-set-le}
use Rattle.std.proofs.Math.Nat.{pow-le-pow_right, one-le-pow}
use Rattle.std.proofs.lemmas.Int.{to_z_pos}
use Rattle.std.specs.Int.Signed.{mag, lt_z, non_neg}
use Rattle.layout.specs.Bytes.{Bytes, le, pick, between}
use Rattle.layout.specs.Number.{half, holds, twos, of_twos, digits, text, more, whole, signed64, plus, minus}
use Rattle.layout.specs.Entry.{small, number_body}
use Rattle.layout.proofs.Picks.{tests, by_test, true_between}
use Rattle.number.specs.Shorter.{shorter}
use Rattle.number.proofs.Signs.{again}
use Rattle.number.proofs.Encodings.{in_kind}

-- ---- a sign and a magnitude: n for n, and for -(n + 1)

abbrev pub is_minus : ℤ → Bool
is_minus (pos n) = false
is_minus (negsuc n) = true

abbrev pub of_sign : Bool → ℕ → ℤ
of_sign true n = negsuc n
of_sign false n = pos n

-- the machine's test
pub sign_is : (z : ℤ) → SFits w64 z → lt_z (again z) (pos 0) ≡ is_minus z
sign_is (pos n) f = rw (to_z-of_z f) (grind arith)
sign_is (negsuc n) f = rw (to_z-of_z f) refl

-- -1 - z, as the machine makes it
other : (z : ℤ) → negsuc 0 -ℤ z ≡ of_sign (not (is_minus z)) (mag z)
other (pos zero) = refl
other (pos (suc n)) = ap negsuc (omega arith)
other (negsuc n) = grind arith

pub other_fits : (z : ℤ) → SFits w64 z → SFits w64 (negsuc 0 -ℤ z)
other_fits (pos n) f = rw other (record { sfits = f.sfits })
other_fits (negsuc n) f = rw other (record { sfits = f.sfits })

pub turned : (z : ℤ) → SFits w64 z → again (negsuc 0 -ℤ again z) ≡ of_sign (not (is_minus z)) (mag z)
turned z f = rw (to_z-of_z f, to_z-of_z (other_fits z f)) (other z)

parts : (z : ℤ) → of_sign (is_minus z) (mag z) ≡ z
parts (pos n) = refl
parts (negsuc n) = refl

-- what a cast to unsigned asks, and gives
pub record Casts (x : ℤ) (n : ℕ) : Type 0 where
  pub asked : T (non_neg x) × Fits w64 (nat_abs x)
  pub gives : (nat_abs x ≡ n) × (nat_abs x < 2 ^ 63)

casts : (x : ℤ) (n : ℕ) → x ≡ pos n → n < 2 ^ 63 → Casts x n
casts x n e l = rw e (record { asked = (tt, record { fits = omega arith }); gives = (refl, l) })

module _ (z : ℤ) (b : Bool) (f : SFits w64 z) (e : b ≡ is_minus (again z)) where
  told : {t : Bool} → b ≡ t → is_minus z ≡ t
  told h = sym (rw (to_z-of_z f) at e) ∙ h

  pub plus_casts : b ≡ false → Casts (again z) (mag z)
  plus_casts h = casts _ (mag z) (to_z-of_z f ∙ sym (parts z) ∙ ap (λ m. of_sign m (mag z)) (told h)) f.sfits

  pub minus_casts : b ≡ true → Casts (again (negsuc 0 -ℤ again z)) (mag z)
  minus_casts h = casts _ (mag z) (turned z f ∙ ap (λ m. of_sign (not m) (mag z)) (told h)) f.sfits

module _ (b : Bool) (n : ℕ) (l : n < 2 ^ 63) where
  pub put_fits : SFits w64 (negsuc 0 -ℤ to_z w64 n)
  put_fits = rw (to_z_pos w64 n l) (other_fits (pos n) (record { sfits = l }))

  pub put_minus : b ≡ true → again (negsuc 0 -ℤ to_z w64 n) ≡ of_sign b n
  put_minus e = rw (e, to_z_pos w64 n l, to_z-of_z (other_fits (pos n) (record { sfits = l }))) (other (pos n))

  pub put_plus : b ≡ false → to_z w64 n ≡ of_sign b n
  put_plus e = rw e (to_z_pos w64 n l)

-- ---- the kinds, by the tests of a number as the machine reads it again

small_most : (z : ℤ) → small z ≡ true → mag z ≤ 12
small_most (pos n) h = grind arith
small_most (negsuc n) h = cc

-- z from its sign and its magnitude
pub known : {z : ℤ} (f : SFits w64 z) (n : ℕ) → n ≡ mag (again z) → (b : Bool) → b ≡ is_minus (again z) → of_sign b n ≡ z
known {z} f n m b s = rw (s, m, to_z-of_z f) (parts z)

module _ {z : ℤ} (f : SFits w64 z) where
  pub size_small : (n : ℕ) → n ≡ mag (again z) → (s : Bool) → s ≡ small (again z) → s ≡ true → n ≤ 12
  size_small n m s is h = rw (m, to_z-of_z f) (small_most z (rw (to_z-of_z f) at (sym is ∙ h)))

  pub small_plus : (n : ℕ) → n ≡ mag (again z) → (b : Bool) → b ≡ is_minus (again z) → b ≡ false → leb n 12 ≡ small z
  small_plus n m b s h = ap small (rw h at (known f n m b s))

  pub small_minus : (b : Bool) → b ≡ is_minus (again z) → b ≡ true → false ≡ small z
  small_minus b s h = ap small (rw h at (known f _ refl b s))

  module _ (k : ℕ) (r : Bool) (n : k ≡ 1 → ⊥) where
    pub shorter_eight : k ≡ 8 → r ≡ holds 4 (again z) → r ≡ shorter k z
    shorter_eight e h = rw (ne_eqb k 1 n, e, h, to_z-of_z f) refl

    pub shorter_less : (k ≡ 8 → ⊥) → r ≡ holds (k - 1) (again z) → r ≡ shorter k z
    shorter_less m h = rw (ne_eqb k 1 n, ne_eqb k 8 m, h, to_z-of_z f) refl

  pub encoded : (b w x : ℕ) (bytes : Bytes) → number_body (again z) ≡ in_kind b w (again z) → x ≡ twos 8 (again z)
      → bytes ≡ b ∷ le 8 x → take (1 + w) bytes ≡ number_body z
  encoded b w x bytes k t e = rw (one-add, e, t) (sym k ∙ ap number_body (to_z-of_z f))

-- ---- digits by their count, and bytes at the front of an array

-- the last c digits of n, before ds
unfoldable pub last_digits : ℕ → ℕ → Bytes → Bytes
last_digits zero n ds = ds
last_digits (suc c) n ds = last_digits c (n / 10) ((48 + n % 10) ∷ ds)

pub power_next : (c m : ℕ) → m ≡ 10 ^ c → 10 * m ≡ 10 ^ (c + 1)
power_next c m e = rw add-one (omega arith)

-- a power of 10 below the twentieth
module _ (c m n : ℕ) (e : m ≡ 10 ^ c) (l : m ≤ n) (h : n < 10 ^ 19) where
  pub power_less : c < 19
  power_less =
      by_test (ltb c 19) (λ t. omega tests) λ t.
      let g : 19 ≤ c = omega tests in
      absurd (omega (arith, pow-le-pow_right {n = 10} (omega arith) {i = 19} {j = c} g))

  pub power_most : m ≤ 10 ^ 18
  power_most =
      let p = power_less in omega (arith, pow-le-pow_right {n = 10} (omega arith) {i = c} {j = 18} (omega arith))

-- a number from 10 ^ (c - 1) to below 10 ^ c has c digits; 0 has one
digits_count : (f c n : ℕ) (ds : Bytes) → c ≤ f → 1 ≤ c → n < 10 ^ c → (1 < c → 10 ^ c ≤ 10 * n)
    → digits f n ds ≡ last_digits c n ds
unfolding digits last_digits
digits_count f zero n ds l p h g = absurd (omega arith)
digits_count zero (suc c) n ds l p h g = absurd (omega arith)
digits_count (suc f) (suc zero) n ds l p h g = let e : n % 10 ≡ n = omega arith in rw (lt-ltb n 10 (omega arith), e) refl
digits_count (suc f) (suc (suc c)) n ds l p h g =
    let b : 10 ^ suc (suc c) ≤ 10 * n = g (omega arith) in
    let o : 1 ≤ 10 ^ c = one-le-pow c 10 (omega arith) in
    rw (le-ltb n 10 (omega arith))
    (digits_count f (suc c) (n / 10) ((48 + n % 10) ∷ ds) (omega arith) (omega arith) (omega arith) λ _. omega arith)

pub count_is : (c m n : ℕ) → 1 ≤ c → c ≤ 19 → m ≡ 10 ^ c → n < m → (1 < c → m ≤ 10 * n) → digits 20 n [] ≡ last_digits c n []
count_is c m n p q e h g = digits_count 20 c n [] (omega arith) p (omega arith) λ l. omega (arith, g l)

-- with i digits to go: the signs are there, and the digits written follow those to go
pub record Written (n at count : ℕ) (bytes : Bytes) (left i : ℕ) : Type 0 where
  pub most : i ≤ count
  pub size : length bytes ≡ 20
  pub signs : take at bytes ≡ replicate at 45
  pub rest : last_digits count n [] ≡ last_digits i left (take (count - i) (drop (at + i) bytes))

take_replicate : (k m a : ℕ) → k ≤ m → take k (replicate m a) ≡ replicate k a
take_replicate zero m a l = refl
take_replicate (suc k) zero a l = absurd (omega arith)
take_replicate (suc k) (suc m) a l = ap (λ bs. a ∷ bs) (take_replicate k m a (omega arith))

pub written_none : (n at count : ℕ) → at + count ≤ 20 → Written n at count (replicate 20 45) n count
written_none n at count fits =
    let e : count - count ≡ 0 = omega arith in
    record { most = omega arith; size = refl; signs = take_replicate at 20 45 (omega arith); rest = rw e refl }

drop_set : (l : Bytes) (i a : ℕ) → i < length l → drop i (set l i a) ≡ a ∷ drop (suc i) l
drop_set l i a h =
    drop-cons (set l i a) i 0 (rw length-set h) ∙ rw (get_or-set_same l i a 0 h, drop-set-lt (suc i) l i a (omega arith)) refl

module _ (n at count : ℕ) (fits : at + count ≤ 20) (bytes : Bytes) (left : ℕ) where
  one_more : (j : ℕ) → Written n at count bytes left (suc j)
      → Written n at count (set bytes (at + j) (48 + left % 10)) (left / 10) j
  unfolding last_digits
  one_more j w =
      let p : ℕ = at + j in
      let d : ℕ = 48 + left % 10 in
      let m = w.most in
      let z = w.size in
      let l : p < length bytes = omega arith in
      let c : count - j ≡ suc (count - suc j) = omega arith in
      let e : at + suc j ≡ suc p = omega arith in
      let s : take at (set bytes p d) ≡ take at bytes = take-set-le at bytes p d (omega arith) in
      record {
        most = omega arith;
        size = length-set bytes p d ∙ z;
        signs = s ∙ w.signs;
        rest = rw (c, drop_set bytes p d l) (rw e at w.rest);
      }

  pub written_more : (i : ℕ) → Written n at count bytes left i → 0 < i
      → Written n at count (set bytes (at + (i - 1)) (48 + left % 10)) (left / 10) (i - 1)
  written_more zero w h = absurd (omega arith)
  written_more (suc j) w h = let e : suc j - 1 ≡ j = omega arith in rw e (one_more j w)

  pub written_all : (i : ℕ) → Written n at count bytes left i → i ≤ 0
      → (take (at + count) bytes ≡ replicate at 45 ++ last_digits count n []) × (length bytes ≡ 20)
  unfolding last_digits
  written_all (suc j) w h = absurd (omega arith)
  written_all zero w h =
      let c : count - 0 ≡ count = omega arith in
      let r : last_digits count n [] ≡ take count (drop at bytes) = rw (c, add-zero) at w.rest in
      (take-add at count bytes ∙ rw (w.signs, r) refl, w.size)

pub with_signs : (signs count n : ℕ) (bytes : Bytes) → digits 20 n [] ≡ last_digits count n []
    → take (signs + count) bytes ≡ replicate signs 45 ++ last_digits count n []
    → take (signs + count) bytes ≡ replicate signs 45 ++ digits 20 n []
with_signs signs count n bytes e h = rw e h

-- of a number that was handed to callees as the machine reads it again
module _ {z : ℤ} (f : SFits w64 z) (n : ℕ) (m : n ≡ mag (again z)) (b : Bool) (s : b ≡ is_minus (again z)) where
  pub text_plus : b ≡ false → replicate 0 45 ++ digits 20 n [] ≡ text z
  unfolding text
  text_plus h = ap text (rw h at (known f n m b s))

  pub text_minus : b ≡ true → replicate 1 45 ++ digits 20 (n + 1) [] ≡ text z
  unfolding text
  text_minus h = rw add-one (ap text (rw h at (known f n m b s)))

-- the first len of the bytes, which are room in all, are xs
pub record Front (room len : ℕ) (bytes xs : Bytes) : Type 0 where
  pub is : take len bytes ≡ xs
  pub size : length bytes ≡ room
  pub most : len ≤ room
  pub count : len ≡ length (take len bytes)

pub front : (room len : ℕ) (bytes xs : Bytes) → take len bytes ≡ xs → length bytes ≡ room → len ≤ room → Front room len bytes xs
front room len bytes xs e s l = record { is = e; size = s; most = l; count = sym (length-take-le len bytes (omega arith)) }

pub front_as : (room len : ℕ) (bytes xs ys : Bytes) → Front room len bytes xs → xs ≡ ys → Front room len bytes ys
front_as room len bytes xs ys f e = rw (← e) f

-- ---- what the digits came to

pub told_number : (b : Bool) (v : Bytes) (w : Option ℕ) (n : ℕ) (o : Option ℤ) → w ≡ whole v → w ≡ Some n
    → o ≡ pick b (minus (Some n)) (plus (Some n)) → o ≡ pick b (minus (whole v)) (plus (whole v))
told_number b v w n o e i h = rw (← e, i) h

-- ---- the digits, one by one

-- a 0 goes before no other
pub first_digit : (v : Bytes) → (slice_index_or v 0 0 ≡ 48 → ⊥) → (length v ≡ 0 → ⊥) → whole v ≡ more 0 (drop 0 v)
unfolding whole more
first_digit [] p q = absurd (q refl)
first_digit (b ∷ []) p q = grind arith
first_digit (b ∷ c ∷ bs) p q = grind arith

-- a byte more: v says what n and the bytes from i on say
module _ (v : Bytes) (i n : ℕ) (l : i < length v) (e : whole v ≡ more n (drop i v)) where
  next : whole v ≡ pick (between 48 57 (slice_index_or v i 0)) (more (10 * n + (slice_index_or v i 0 - 48)) (drop (i + 1) v)) None
  unfolding more
  next = e ∙ rw (add-one, drop-cons v i 0 l) refl

  pub digit_low : slice_index_or v i 0 < 48 → None ≡ whole v
  digit_low h = grind (arith, next)

  pub digit_high : 57 < slice_index_or v i 0 → None ≡ whole v
  digit_high h = grind (arith, next)

  pub digit_turn : (d : ℕ) → 48 ≤ slice_index_or v i 0 → slice_index_or v i 0 ≤ 57 → d ≡ slice_index_or v i 0 - 48
      → whole v ≡ more (10 * n + d) (drop (i + 1) v)
  digit_turn d p q f = next ∙ rw (true_between 48 57 (slice_index_or v i 0) p q, f) refl

-- no byte more
pub digits_end : (v : Bytes) (i n : ℕ) → i ≤ length v → length v ≤ i → whole v ≡ more n (drop i v) → Some n ≡ whole v
unfolding more
digits_end v i n p q e = sym (e ∙ rw (drop_of_length-le v q) refl)

-- i digits say less than 10 ^ i
pub bound_turn : (i n d : ℕ) → n < 10 ^ i → d < 10 → 10 * n + d < 10 ^ (i + 1)
bound_turn i n d h g = rw add-one (omega arith)

pub bound_room : (i n : ℕ) → n < 10 ^ i → i < 19 → n < 10 ^ 18
bound_room i n h l = omega (arith, pow-le-pow_right {n = 10} (omega arith) {i = i} {j = 18} (omega arith))

pub minus_is : (b : Bool) (n : ℕ) (o : Option ℤ) → b ≡ true → (n ≡ 0 → ⊥) → o ≡ signed64 (of_sign true (n - 1))
    → o ≡ pick b (minus (Some n)) (plus (Some n))
unfolding minus
minus_is b zero o h p e = absurd (p refl)
minus_is b (suc n) o h p e = let q : suc n - 1 ≡ n = omega arith in rw h (rw q at e)

-- ---- bits, and the number of some

module _ {z : ℤ} (f : SFits w64 z) (n : ℕ) (m : n ≡ mag (again z)) (b : Bool) (s : b ≡ is_minus (again z)) where
  pub bits_plus : b ≡ false → n ≡ twos 8 z
  unfolding twos
  bits_plus h = ap (twos 8) (rw h at (known f n m b s))

  pub bits_minus : b ≡ true → 0xFFFF_FFFF_FFFF_FFFF - n ≡ twos 8 z
  unfolding twos
  bits_minus h =
      let e : 0xFFFF_FFFF_FFFF_FFFF - n ≡ 256 ^ 8 - suc n = omega arith in e ∙ ap (twos 8) (rw h at (known f n m b s))

module _ (k x h : ℕ) (z : ℤ) (e : h ≡ half k) (l : h ≤ 2 ^ 63) where
  pub decode_plus : x < h → z ≡ of_sign false x → again z ≡ of_twos k x
  unfolding of_twos
  decode_plus p g =
      rw (g, ← e, lt-ltb x h p) (to_z-of_z {w = w64} {z = pos x} (record { sfits = omega arith }))

  pub decode_minus : h ≤ x → x < 256 ^ k → 2 * h ≡ 256 ^ k → z ≡ of_sign true (h - 1 - (x - h)) → again z ≡ of_twos k x
  unfolding of_twos
  decode_minus p q t g =
      let n : h - 1 - (x - h) ≡ 256 ^ k - suc x = omega arith in
      rw (g, ← e, le-ltb x h p, ← n) (to_z-of_z {w = w64} {z = negsuc (h - 1 - (x - h))} (record { sfits = omega arith }))
