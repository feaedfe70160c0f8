-- Answers to the goals of `read_service` in `src/service_options.rt`.
use Rattle.std.specs.String.{string_bytes}
use Rattle.clap.specs.Words.{found_of, rows_of}
use Rattle.mpw_settings.proofs.SettingsLemmas.{passed-on, unlimited}
use Rattle.mpw_settings.proofs.service_options.read_service.Goals as goal

pub returns-in_err-connections-clause-refused : goal.returns-in_err-connections-clause-refused
returns-in_err-connections-clause-refused c = passed-on c.from_residual.result _ _ _
    c.from_residual.ensures.1
    (λ none service given. none service.connections given.connections) c.in_err-connections.ensures.refused

pub returns-in_err-workers-clause-refused : goal.returns-in_err-workers-clause-refused
returns-in_err-workers-clause-refused c = passed-on c.from_residual-in_err-workers.result _ _ _
    c.from_residual-in_err-workers.ensures.1
    (λ none service given. none service.workers given.workers) c.in_err-workers.ensures.refused

pub returns-in_err-idle-clause-refused : goal.returns-in_err-idle-clause-refused
returns-in_err-idle-clause-refused c = passed-on c.from_residual-in_err-idle.result _ _ _
    c.from_residual-in_err-idle.ensures.1
    (λ none service given. none service.idle given.idle) c.in_err-idle.ensures.refused

pub returns-in_err-strangers-clause-refused : goal.returns-in_err-strangers-clause-refused
returns-in_err-strangers-clause-refused c = passed-on c.from_residual-in_err-strangers.result _ _ _
    c.from_residual-in_err-strangers.ensures.1
    (unlimited (rows_of (found_of c.args.options.now)) c.is_given-is_ongoing.result
    c.is_given-is_ongoing.ensures) c.in_err-strangers.ensures.refused

pub returns-in_err-listen-clause-refused : goal.returns-in_err-listen-clause-refused
returns-in_err-listen-clause-refused c = passed-on c.from_residual-in_err-listen.result _ _ _
    c.from_residual-in_err-listen.ensures.1
    (λ none service given. none (string_bytes service.listen) given.listen) c.in_err-listen.ensures.refused
