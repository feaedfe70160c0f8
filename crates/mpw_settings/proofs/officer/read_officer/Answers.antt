-- Answers to the goals of `read_officer` in `src/officer.rt`.
use Rattle.std.proofs.Common.{inr}
use Rattle.clap.specs.Words.{found_of, rows_of}
use Rattle.mpw_requests.proofs.DigestLemmas.{unspelt}
use Rattle.mpw_settings.proofs.SettingsLemmas.{bad-digits}
use Rattle.mpw_settings.proofs.officer.read_officer.Goals as goal

pub returns-in-None-clause-refused : goal.returns-in-None-clause-refused
returns-in-None-clause-refused c =
    inr (bad-digits (rows_of (found_of c.args.options.now)) c.in_ok-digits.digits.now
    c.in_ok-digits.ensures.ok (unspelt c.in_ok-digits.digits.now c.read_digest.result
    c.read_digest.ensures.found c.in-None.is))
