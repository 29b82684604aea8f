use Rattle.std.proofs.Common.{◌-◌, ◌*◌, arith}
use Rattle.number.proofs.Numbers.{decoded}
use Rattle.number.proofs.widths.Width.decode.Goals as goal

pub returns : goal.returns
returns c =
    let s = c.args.self in
    decoded s.bytes (64 - 8 * s.bytes) c.args.x _ s.least (omega (arith, s.most)) c.requires c.cast_signed.ensures
