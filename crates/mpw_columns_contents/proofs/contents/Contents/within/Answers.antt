-- Answers to the goals of `Contents::within` in `src/part.rt`.
use Rattle.std.proofs.Common.{subst}
use Rattle.mpw_columns_contents.specs.Contents.{AreSound}
use Rattle.mpw_columns_contents.specs.Things.{things_items}
use Rattle.mpw_columns_contents.proofs.contents.Contents.within.Goals as goal

pub returns-in-Ok-clause-sound : goal.returns-in-Ok-clause-sound
returns-in-Ok-clause-sound c =
    let new = c.in-Ok.contents in
    subst (λ ts. AreSound (things_items c.args.shelf.now ts) (things_items c.args.shelf.now new))
    c.things.ensures.things (subst (λ ss. AreSound (things_items ss c.things.result.now)
    (things_items ss new)) c.of-layout.ensures.shelf c.in-Ok.ensures.shows.sound)
