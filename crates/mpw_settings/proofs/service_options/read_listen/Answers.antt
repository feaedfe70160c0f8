-- Answers to the goals of `read_listen` in `src/service_options.rt`.
use Rattle.std.proofs.Common.{inr}
use Rattle.clap.specs.Words.{found_of, rows_of}
use Rattle.mpw_settings.proofs.SettingsLemmas.{no-address, none-read}
use Rattle.mpw_settings.proofs.service_options.read_listen.Goals as goal

pub returns-in-Err-clause-refused : goal.returns-in-Err-clause-refused
returns-in-Err-clause-refused c =
    inr (no-address (rows_of (found_of c.args.options.now)) c.in_ok-text.text.now
    c.in_ok-text.ensures.ok
    (none-read c.in_ok-text.text.now c.parse.result _ c.in-Err.is c.parse.ensures.value))
