-- The kinds of number: each one's encoding byte, and how many bytes of data follow it.
use Rattle.std.specs.Prelude.{ℕ, ◌+◌}
use Rattle.number.specs.declared.kinds.Kind.{Kind}
use Rattle.number.specs.declared.kinds.Kind.TheVariants.{InByte, OneByte, TwoBytes, ThreeBytes, FourBytes, EightBytes}

abbrev pub byte_of : Kind → ℕ
byte_of (InByte s) = 0xF1 + s.number
byte_of OneByte = 0xFE
byte_of TwoBytes = 0xC0
byte_of ThreeBytes = 0xF0
byte_of FourBytes = 0xD0
byte_of EightBytes = 0xE0

abbrev pub data_len : Kind → ℕ
data_len (InByte s) = 0
data_len OneByte = 1
data_len TwoBytes = 2
data_len ThreeBytes = 3
data_len FourBytes = 4
data_len EightBytes = 8
