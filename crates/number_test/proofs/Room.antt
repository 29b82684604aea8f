-- A byte more fits where fewer than 8 were read.
use Rattle.std.proofs.Common.{◌≡◌, ℕ, suc, ◌+◌, ◌-◌, ◌*◌, ◌^◌, ◌≤◌, ◌<◌, Fits, w64, arith}
use Rattle.std.proofs.Math.Nat.{pow-le-pow_right}

-- the bytes from i + 1 to w say x
pub room : (w i x : ℕ) → x < 256 ^ (w - i) → 0 < i → w ≤ 8 → (m : ℕ) → m ≤ 256 * x + 255 → Fits w64 m
room w i x h p q m e =
    let l = pow-le-pow_right {n = 256} (omega arith) {i = w - i} {j = 7} (omega arith) in record { fits = omega (arith, l) }

-- k bytes do
pub one_more : (k x m : ℕ) → x < 256 ^ k → k ≤ 7 → m ≤ 256 * x + 255 → Fits w64 m
one_more k x m h l g = let e : suc k - 1 ≡ k = omega arith in room (suc k) 1 x (rw e h) (omega arith) (omega arith) m g
