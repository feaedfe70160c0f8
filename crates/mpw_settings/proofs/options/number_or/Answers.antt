-- Answers to the goals of `number_or` in `src/options.rt`.
use Rattle.std.proofs.Common.{◌∙◌, sym}
use Rattle.clap.specs.Words.{found_of, rows_of}
use Rattle.mpw_settings.proofs.SettingsLemmas.{number_else, refused-more}
use Rattle.mpw_settings.proofs.options.number_or.Goals as goal

pub returns-then-has_value-clause-refused : goal.returns-then-has_value-clause-refused
returns-then-has_value-clause-refused c =
    refused-more c.number_of.result _ _ (number_else c.args.default c.args.name.now c.args.range.0
    c.args.range.1 (rows_of (found_of c.args.options.now))
    (sym c.has_value.ensures ∙ c.if-has_value.true)) c.number_of.ensures.refused
