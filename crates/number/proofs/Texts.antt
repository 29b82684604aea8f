-- A number's text is what the library writes of it.
use Rattle.std.proofs.Common.{◌≡◌, ap, ◌∙◌, ℕ, suc, ◌^◌, ◌<◌, [], ◌∷◌, ℤ, pos, negsuc, SFits, w64, arith, append-nil}
use Rattle.std.specs.Fmt.{decimal, signed_decimal}
use Rattle.std.proofs.lemmas.Fmt.{PrependsLastDigit, decimal_from_prepends, length-decimal-le}
use Rattle.layout.specs.Number.{digits, text}

from_the_last : PrependsLastDigit digits
unfolding digits
from_the_last = record { one = λ k n ds l. grind arith; more = λ k n ds l. grind arith }

digits_decimal : (n : ℕ) → n < 2 ^ 64 → digits 20 n [] ≡ decimal n
digits_decimal n l =
    decimal_from_prepends digits from_the_last 20 n [] l (length-decimal-le 20 n (omega arith) (omega arith) l) ∙ append-nil (decimal n)

pub text_decimal : (z : ℤ) → SFits w64 z → text z ≡ signed_decimal z
unfolding text
text_decimal (pos n) f = digits_decimal n (omega (arith, f.sfits))
text_decimal (negsuc n) f = ap (λ ds. 45 ∷ ds) (digits_decimal (suc n) (omega (arith, f.sfits)))
