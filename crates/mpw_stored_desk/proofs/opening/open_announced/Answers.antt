-- Answers to the goals of `open_announced` in `src/opening.rt`.
use Rattle.sqlite.specs.Files.{file_state}
use Rattle.mpw_stored_desk.proofs.ClosingLemmas.{clean-before}
use Rattle.mpw_stored_desk.proofs.opening.open_announced.Goals as goal

pub returns-in-Ok-announce_rows-clause-idle : goal.returns-in-Ok-announce_rows-clause-idle
returns-in-Ok-announce_rows-clause-idle c clean =
    let before = clean-before (file_state c.in-Ok.conn) (file_state c.announce_rows.new.conn)
    c.announce_rows.ensures.clean clean in
    (c.in-Ok-announce_rows.ensures.still clean (c.in-Ok.ensures.idle before)).0
