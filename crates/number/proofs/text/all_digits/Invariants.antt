use Rattle.std.proofs.Common.{◌≡◌, ◌^◌, ◌<◌, drop}
use Rattle.layout.specs.Number.{more}
use Rattle.number.proofs.text.all_digits.Given as goal

abbrev pub invariant-loop-b : goal.invariant-loop-b
invariant-loop-b l = (l.n < 10 ^ l.b-index) × (more 0 l.v ≡ more l.n (drop l.b-index l.v))
