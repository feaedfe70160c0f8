-- Answers to the goals of `Mask::contains` in `src/mask.rt`.
use Rattle.mpw_roles.proofs.MaskLemmas.{has-bit, has-past}
use Rattle.mpw_roles.proofs.mask.Mask.contains.Goals as goal

pub returns-then-place-ge-PLACES : goal.returns-then-place-ge-PLACES
returns-then-place-ge-PLACES c = has-past c.args.self.now c.args.place c.if-place-ge-PLACES.true

pub returns : goal.returns
returns c = has-bit c.args.self.now c.args.place c.if-place-ge-PLACES.false
