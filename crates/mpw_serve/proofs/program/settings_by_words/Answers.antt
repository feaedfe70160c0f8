-- Answers to the goals of `settings_by_words` in `src/program.rt`.
use Rattle.mpw_serve.specs.Status.{ReadsWords}
use Rattle.mpw_serve.proofs.StatusLemmas.{reads_unset}
use Rattle.mpw_serve.proofs.program.settings_by_words.Goals as goal

pub returns-in-Ok : goal.returns-in-Ok
returns-in-Ok c = ReadsWords.set c.in-Ok.settings c.in-Ok.ensures.ok

pub returns-in-Err : goal.returns-in-Err
returns-in-Err c =
    reads_unset _ c.in-Err.fault c.from.result c.in-Err.ensures.refused c.from.ensures
