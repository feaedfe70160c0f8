-- What `retain` leaves of the names.
use Rattle.std.proofs.Common.{rules, ◌∙◌, ap, filter}
use Rattle.std.proofs.lemmas.Fn.{filter_same}
use Rattle.mpw_geom.specs.Names.{contains_name}
use Rattle.mpw_rbac.proofs.trim.keep_below.Goals as goal

pub returns : goal.returns
returns c =
    let test = contains_name c.args.below.now in
    c.from_vec.ensures ∙ filter_same _ test _ (λ x b f call. search rules) _ _
    c.retain.ensures.filtered ∙ ap (filter test)
    (c.into_vec-items.ensures ∙ c.replace.ensures.value)
