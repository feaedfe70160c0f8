-- One holder, whose mask is made.
use Rattle.mpw_rbac.proofs.separation.first_broken.Goals as goal

pub returns : goal.returns
returns c = c.first_broken.ensures c.args.roles.now c.args.seniors.now c.is_hierarchy.ensures
    c.requires c.mask_below-below.ensures
