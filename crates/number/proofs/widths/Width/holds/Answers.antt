use Rattle.number.proofs.Numbers.{fits_is}
use Rattle.number.proofs.widths.Width.holds.Goals as goal

pub returns : goal.returns
returns c = fits_is c.ranges.z _ _ _ c.magnitude.ensures.0 c.half.ensures.0
