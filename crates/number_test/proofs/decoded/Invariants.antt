use Rattle.std.proofs.Common.{◌≡◌, ◌+◌, ◌^◌, ◌<◌, length}
use Rattle.number_test.proofs.decoded.Given as goal

abbrev pub invariant-loop-b : goal.invariant-loop-b
invariant-loop-b l =
    (l.x < 256 ^ length l.yielded) × (length l.yielded + length l.b-iterator.iter.rest.now ≡ length l.data)
