use Rattle.std.proofs.Common.{rules, length, arith}
use Rattle.number_test.proofs.Room.{one_more}
use Rattle.number_test.proofs.decoded.Goals as goal

pub overflow_mul-x : goal.overflow_mul-x
overflow_mul-x c = one_more (length c.loop-b.yielded) c.loop-b.x _ c.loop-b.invariant.0 (search rules) (omega arith)

pub overflow_add-x : goal.overflow_add-x
overflow_add-x c =
    one_more (length c.loop-b.yielded) c.loop-b.x _ c.loop-b.invariant.0 (search rules) (search rules)
