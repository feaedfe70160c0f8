-- The other objects have their masks as before.
use Rattle.std.proofs.Common.{◌∙◌, [], ◌∷◌, ◌++◌, ap, refl}
use Rattle.std.proofs.lemmas.Result.{on_ok_weaker}
use Rattle.mpw_permissions.specs.Internal.Holders.{holds_in}
use Rattle.mpw_permissions.proofs.BucketLemmas.{in-put, in-gone, both-false}
use Rattle.mpw_permissions.proofs.bucket.keep.Goals as goal

pub returns-then-not-meets : goal.returns-then-not-meets
returns-then-not-meets c = λ all is other q.
    ap (λ l. holds_in l other q) is
    ∙ in-gone c.args.object.now c.args.mask.now all
    (λ p. both-false _ (c.meets.ensures.none c.if-not-meets.true p)) other q

pub returns : goal.returns
returns c = on_ok_weaker c.add.result (λ added all is other q.
    ap (λ l. holds_in l other q) (added
    ∙ ap (λ l. l ++ record { object = c.args.object.now; mask = c.args.mask.now } ∷ []) is)
    ∙ in-put c.args.object.now c.args.object.now c.args.mask.now all refl other q) c.add.ensures
