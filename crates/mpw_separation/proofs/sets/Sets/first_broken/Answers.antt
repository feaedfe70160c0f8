-- One holder.
use Rattle.std.proofs.Common.{◌∙◌, sym, ap, filter}
use Rattle.mpw_geom.specs.Least.{least_name}
use Rattle.mpw_separation.specs.Separation.{is_reached, set_names, sets_of}
use Rattle.mpw_separation.proofs.BrokenLemmas.{broken-one}
use Rattle.mpw_separation.proofs.sets.Sets.first_broken.Goals as goal

pub returns : goal.returns
returns c =
    let sets = sets_of c.args.kind c.args.self.now in
    c.least_reached.ensures
    ∙ (λ i. least_name (set_names (filter (is_reached (c.below.ensures i)) (c.of_kind.ensures i))))
    ∙ ap least_name (sym (broken-one c.args.roles.now sets c.args.seniors.now))
