-- Signed numbers as the machine has them, by their bits.
use Rattle.std.proofs.Common.{◌≡◌, refl, ℕ, ◌^◌, ℤ, pos, negsuc, ltb, SFits, w64, to_z, of_z, Option, Some, None, Result, Ok, Err, lt-ltb}
use Rattle.std.specs.Prelude.{SomeIff, OkIff}
use Rattle.std.specs.Result.{result_ok}
use Rattle.std.specs.Int.Signed.{mag}
use Rattle.layout.specs.Number.{half, holds, signed64, plus}
use Rattle.layout.proofs.Picks.{tests, by_test}

-- z as the machine reads it again
abbrev pub again : ℤ → ℤ
again z = to_z w64 (of_z w64 z)

-- what k bytes hold, by the magnitude
pub holds_mag : (k : ℕ) (z : ℤ) → ltb (mag z) (half k) ≡ holds k z
unfolding holds
holds_mag k (pos n) = refl
holds_mag k (negsuc n) = refl

-- ---- 64 bits

-- they hold what fits them, and nothing else
held : (z : ℤ) → SFits w64 z → Some z ≡ signed64 z
unfolding signed64
held z f = rw (← holds_mag 8 z, lt-ltb (mag z) (2 ^ 63) f.sfits) refl

pub not_held : (z : ℤ) → (SFits w64 z → ⊥) → None ≡ signed64 z
unfolding signed64
not_held z h =
    by_test (ltb (mag z) (2 ^ 63)) (λ t. absurd (h (record { sfits = omega tests }))) λ t. rw (← holds_mag 8 z, t) refl

pub held_if : (r : Option ℤ) (z : ℤ) → SomeIff r (SFits w64 z) z → r ≡ signed64 z
held_if None z h = not_held z h
held_if (Some x) z h = rw h.1 (held z h.0)

pub plus_held : {E : Type 0} (n : ℕ) (r : Result ℤ E) → OkIff r (SFits w64 (pos n)) (pos n) → result_ok r ≡ plus (Some n)
unfolding plus
plus_held n (Ok z) h = held_if (Some z) (pos n) h
plus_held n (Err e) h = held_if None (pos n) h
