-- The name is a key.
use Rattle.std.proofs.Common.{◌∙◌, ap, is_some}
use Rattle.std.specs.Map.{lookup}
use Rattle.mpw_geom.specs.Names.{name_eq}
use Rattle.mpw_separation.specs.Separation.{has_set}
use Rattle.mpw_separation.proofs.NamedLemmas.{lookup-with_names}
use Rattle.mpw_separation.proofs.named.NamedSets.contains.Goals as goal

pub returns : goal.returns
returns c =
    let name = c.args.name.now in
    c.contains_key.ensures
    ∙ ap (λ es. is_some (lookup (name_eq name) es)) c.self.invariant
    ∙ lookup-with_names (name_eq name) _
    ∙ ap (λ l. has_set l name) c.self.view_is
