-- The test for a shorter kind, by the width: what layout's `read_body` hands `read_number` beside it.
use Rattle.std.specs.Prelude.{ℕ, ◌-◌, Bool, eqb, ℤ}
use Rattle.layout.specs.Bytes.{pick}
use Rattle.layout.specs.Number.{holds}
use Rattle.layout.specs.Entry.{small}

-- at 1, 2, 3, 4 and 8 it computes to `small`, `holds 1`, `holds 2`, `holds 3` and `holds 4`
abbrev pub shorter : ℕ → ℤ → Bool
shorter k = pick (eqb k 1) small (pick (eqb k 8) (holds 4) (holds (k - 1)))
