-- Answers to the goals of `trail_of` in `src/settings.rt`.
use Rattle.std.proofs.Common.{List, Some, None}
use Rattle.clap.specs.Words.{Row, found_of, rows_of}
use Rattle.mpw_auditor.specs.declared.settings.Asked.TheVariants.{Rows, Payload, Check, Help}
use Rattle.mpw_auditor.specs.Settings.{AsksNoPlace, AsksNothing, AsksTrail}
use Rattle.mpw_auditor.proofs.SettingsLemmas.{passed-on}
use Rattle.mpw_auditor.proofs.settings.trail_of.Goals as goal

placeless : (rows : List Row) → AsksNoPlace rows → AsksNothing (AsksTrail rows)
placeless rows none (Rows file) asked = none None asked.1
placeless rows none (Payload file place) asked = none (Some place) asked.1
placeless rows none (Check file) asked = asked
placeless rows none (Help text) asked = asked

pub returns-in_err-place_of-clause-refused : goal.returns-in_err-place_of-clause-refused
returns-in_err-place_of-clause-refused c =
    passed-on c.from_residual-in_err-place_of.result _ _ _
    c.from_residual-in_err-place_of.ensures.1 (placeless (rows_of (found_of c.args.options.now)))
    c.in_err-place_of.ensures.refused
