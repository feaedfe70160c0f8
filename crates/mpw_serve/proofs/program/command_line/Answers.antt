-- Answers to the goals of `command_line` in `src/program.rt`.
use Rattle.mpw_settings.specs.declared.fault.SettingsFault.TheVariants.{Memory}
use Rattle.mpw_serve.specs.Status.{ReadsCommandLine}
use Rattle.mpw_serve.proofs.StatusLemmas.{reads_wordless}
use Rattle.mpw_serve.proofs.program.command_line.Goals as goal

pub returns-in_err-words : goal.returns-in_err-words
returns-in_err-words c = reads_wordless c.in_err-words.field-0.0 c.from_residual.result
    c.from_residual.ensures.1

pub returns-in_err-words-2 : goal.returns-in_err-words-2
returns-in_err-words-2 c =
    reads_wordless Memory c.from_residual-in_err-words-2.result
    c.from_residual-in_err-words-2.ensures.1

pub returns : goal.returns
returns c = ReadsCommandLine.worded _ c.settings_by_words.result c.settings_by_words.ensures
