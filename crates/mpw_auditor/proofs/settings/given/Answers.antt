-- Answers to the goals of `given` in `src/settings.rt`.
use Rattle.std.proofs.Common.{◌∙◌, sym}
use Rattle.clap.specs.Words.{found_of}
use Rattle.mpw_auditor.proofs.SettingsLemmas.{first_is_value}
use Rattle.mpw_auditor.proofs.settings.given.Goals as goal

pub returns : goal.returns
returns c =
    c.get_str.ensures ∙ sym (first_is_value (found_of c.args.options.now) c.args.name.now)
