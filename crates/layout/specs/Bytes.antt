-- Bytes, and whole numbers written in bytes.
-- 01, Layout: "All fields are little-endian unless said otherwise"; a text's length goes "high byte first".
use Rattle.std.specs.Prelude.{ℕ, zero, suc, ◌+◌, ◌*◌, ◌/◌, ◌%◌, ◌<◌, Bool, true, false, ◌&&◌, List, [], ◌∷◌, reverse, leb, eqb}

-- a byte is a number; that it is below 256 is said where it matters
abbrev pub Bytes : Type 0
Bytes = List ℕ

abbrev pub AreBytes : Bytes → Type 0
AreBytes [] = Unit {0}
AreBytes (b ∷ bs) = (b < 256) × AreBytes bs

-- x in k bytes, the lowest first
unfoldable pub le : ℕ → ℕ → Bytes
le zero x = []
le (suc k) x = x % 256 ∷ le k (x / 256)

-- the number that bytes say, the lowest first
unfoldable pub le_of : Bytes → ℕ
le_of [] = 0
le_of (b ∷ bs) = b + 256 * le_of bs

-- the same, the highest first
unfoldable pub be : ℕ → ℕ → Bytes
be k x = reverse (le k x)

unfoldable pub be_of : Bytes → ℕ
be_of bs = le_of (reverse bs)

-- whether two byte strings are the same
unfoldable pub same : Bytes → Bytes → Bool
same [] [] = true
same [] (y ∷ ys) = false
same (x ∷ xs) [] = false
same (x ∷ xs) (y ∷ ys) = eqb x y && same xs ys

-- x if the test is true, y if it is false
abbrev pub pick {ℓ} : {X : Type ℓ} → Bool → X → X → X
pick true x y = x
pick false x y = y

-- whether n is from lo to hi, both included
abbrev pub between : ℕ → ℕ → ℕ → Bool
between lo hi n = leb lo n && leb n hi
