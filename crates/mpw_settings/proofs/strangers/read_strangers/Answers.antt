-- Answers to the goals of `read_strangers` in `src/strangers.rt`.
use Rattle.std.proofs.Common.{◌∙◌, sym}
use Rattle.clap.specs.Words.{found_of, rows_of}
use Rattle.mpw_settings.proofs.SettingsLemmas.{no_login, no_memory, no_rate, passed-on}
use Rattle.mpw_settings.proofs.strangers.read_strangers.Goals as goal

pub returns-in_err-memory-clause-refused : goal.returns-in_err-memory-clause-refused
returns-in_err-memory-clause-refused c = passed-on c.from_residual.result _ _ _
    c.from_residual.ensures.1
    (no_memory c.args.is_ongoing (rows_of (found_of c.args.options.now))
    (sym c.are_limited.ensures ∙ c.if-not-are_limited.false)) c.in_err-memory.ensures.refused

pub returns-in_err-rate-clause-refused : goal.returns-in_err-rate-clause-refused
returns-in_err-rate-clause-refused c = passed-on c.from_residual-in_err-rate.result _ _ _
    c.from_residual-in_err-rate.ensures.1
    (no_rate c.args.is_ongoing (rows_of (found_of c.args.options.now))
    (sym c.are_limited.ensures ∙ c.if-not-are_limited.false)) c.in_err-rate.ensures.refused

pub returns-in_err-login-clause-refused : goal.returns-in_err-login-clause-refused
returns-in_err-login-clause-refused c = passed-on c.from_residual-in_err-login.result _ _ _
    c.from_residual-in_err-login.ensures.1
    (no_login c.args.is_ongoing (rows_of (found_of c.args.options.now))
    (sym c.are_limited.ensures ∙ c.if-not-are_limited.false)) c.in_err-login.ensures.refused
