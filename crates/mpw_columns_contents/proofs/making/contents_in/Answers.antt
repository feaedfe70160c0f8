-- Answers to the goals of `contents_in` in `src/making.rt`.
use Rattle.std.proofs.Common.{subst}
use Rattle.mpw_hier.specs.Values.{flat}
use Rattle.mpw_columns_contents.specs.Contents.{AreSound}
use Rattle.mpw_columns_contents.specs.Things.{things_items}
use Rattle.mpw_columns_contents.proofs.making.contents_in.Goals as goal

pub returns-in-Ok-clause-sound : goal.returns-in-Ok-clause-sound
returns-in-Ok-clause-sound c =
    subst (λ ss. AreSound (flat ss 0) (things_items ss c.in-Ok.contents)) c.of-layout.ensures.shelf
    c.in-Ok.ensures.shows.sound
