-- The other objects have their masks as before.
use Rattle.std.proofs.lemmas.Result.{on_ok_weaker}
use Rattle.mpw_permissions.proofs.bucket.write.Goals as goal

pub returns : goal.returns
returns c = on_ok_weaker c.keep.result (λ kept. kept c.args.masks.now.items c.take_out.ensures)
    c.keep.ensures
