-- Answers to the goals of `is_far` in `src/limits.rt`.
use Rattle.mpw_placings.proofs.Tests.{far_is}
use Rattle.mpw_placings.proofs.limits.is_far.Goals as goal

pub returns : goal.returns
returns c = far_is c.args.shelf.now c.args.root.now c.fits.result c.requires c.fits.ensures
