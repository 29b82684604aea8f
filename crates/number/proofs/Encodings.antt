-- The first kind that holds a number, and its bytes.
use Rattle.std.proofs.Common.{◌≡◌, refl, sym, ap, ◌∙◌, ℕ, zero, suc, ◌+◌, ◌/◌, ◌%◌, ◌^◌, ◌≤◌, Bool, true, [], ◌∷◌, take, slice_index_or, ℤ, pos, negsuc, SFits, w64, of_z, to_z-of_z, arith, take_all, one-add}
use Rattle.std.proofs.Math.Nat.{pow-suc, div-div-eq-div-mul}
use Rattle.std.specs.Int.Signed.{mag}
use Rattle.std.specs.Int.{to_le_bytes, bytes_low_first, byte_at}
use Rattle.layout.specs.Bytes.{Bytes, le, pick}
use Rattle.layout.specs.Number.{holds, twos}
use Rattle.layout.specs.Entry.{small, number_body}
use Rattle.layout.proofs.Bytes.{le_length}
use Rattle.number.proofs.Signs.{again}
use Rattle.number.proofs.Numbers.{twos_take}

-- ---- the first kind that holds z, by the tests in turn

abbrev pub in_kind : ℕ → ℕ → ℤ → Bytes
in_kind b k z = b ∷ take k (le 8 (twos 8 z))

small_body : (z : ℤ) → small z ≡ true → number_body z ≡ in_kind (0xF1 + mag z) 0 z
unfolding number_body twos
small_body (pos n) h = rw h
small_body (negsuc n) h = cc

-- of a number that was handed to callees as the machine reads it again
module _ {z : ℤ} (f : SFits w64 z) where
  -- the encoding byte says it
  pub kind_small : (n : ℕ) → small (again z) ≡ true → n ≡ mag (again z) → number_body z ≡ in_kind (0xF1 + n) 0 z
  kind_small n h e = rw e (rw (to_z-of_z f) (small_body z (rw (to_z-of_z f) at h)))

  -- k bytes do: the data are the first of the 8
  pub here : (k : ℕ) (b : Bool) → b ≡ holds k (again z) → b ≡ true → k ≤ 8 → (e : ℕ) (r : Bytes)
      → pick (holds k z) (e ∷ le k (twos k z)) r ≡ in_kind e k z
  here k b is h l e r = grind (arith, to_z-of_z f, twos_take k 8 z)

-- the last kind
pub last : (z : ℤ) → 0xE0 ∷ le 8 (twos 8 z) ≡ in_kind 0xE0 8 z
last z = ap (λ bs. 0xE0 ∷ bs) (sym (take_all 8 (le 8 (twos 8 z)) (rw le_length (omega arith))))

pub ruleset kind_of_laws = (kind_small, here, last)

-- ---- the bytes written

-- the library's bytes are layout's
byte_is : (i n : ℕ) → byte_at i n ≡ n / 256 ^ i % 256
byte_is zero n = omega arith
byte_is (suc i) n = refl

low_first : (i k n : ℕ) → bytes_low_first i k n ≡ le k (n / 256 ^ i)
unfolding le
low_first i zero n = refl
low_first i (suc k) n = rw (byte_is i n, low_first (suc i) k n, pow-suc 256 i, div-div-eq-div-mul n (256 ^ i) 256) refl

le_is : (n : ℕ) → to_le_bytes w64 n ≡ le 8 n
le_is n = let e : n / 256 ^ 0 ≡ n = omega arith in low_first 0 8 n ∙ ap (le 8) e

pub bits : (z : ℤ) → of_z w64 z ≡ twos 8 z
unfolding twos
bits (pos n) = refl
bits (negsuc n) = refl

pub body_bytes : {z : ℤ} (f : SFits w64 z) (b k : ℕ) (bs : Bytes) → number_body (again z) ≡ in_kind b k (again z)
    → bs ≡ to_le_bytes w64 (of_z w64 (again z)) → b ∷ take k bs ≡ number_body z
body_bytes {z} f b k bs e d =
    let g : number_body z ≡ in_kind b k z = rw (to_z-of_z f) at e in rw (d, to_z-of_z f, le_is, bits z) (sym g)

-- eight bytes, one by one
abbrev each : Bytes → Bytes
each bs =
    slice_index_or bs 0 0 ∷ slice_index_or bs 1 0 ∷ slice_index_or bs 2 0 ∷ slice_index_or bs 3 0 ∷ slice_index_or bs 4 0
    ∷ slice_index_or bs 5 0 ∷ slice_index_or bs 6 0 ∷ slice_index_or bs 7 0 ∷ []

pub each_bytes : {z : ℤ} (f : SFits w64 z) (b k : ℕ) (bs : Bytes) → number_body (again z) ≡ in_kind b k (again z)
    → bs ≡ to_le_bytes w64 (of_z w64 (again z)) → take (1 + k) (b ∷ each bs) ≡ number_body z
each_bytes {z} f b k bs e d =
    let h : each bs ≡ bs = rw d refl in rw (one-add, h) (body_bytes f b k bs e d)
