-- The other objects have their masks as before.
use Rattle.std.proofs.Common.{rules, not}
use Rattle.std.proofs.lemmas.Fn.{filter_same}
use Rattle.mpw_permissions.specs.Grant.{object_eq}
use Rattle.mpw_permissions.specs.declared.bucket.Held.{Held}
use Rattle.mpw_permissions.proofs.bucket.take_out.Goals as goal

pub returns : goal.returns
returns c = filter_same _ (λ (held : Held). not (object_eq c.args.object.now held.object)) _
    (λ x b f call. search rules) _ _ c.retain.ensures.filtered
