-- Answers to the goals of `unknown_users_are_denied_like_wrong_tokens` in `src/desk.rt`.
use Rattle.mpw_laws.proofs.RefusalLemmas.{unknown-login, wrong-login}
use Rattle.mpw_laws.proofs.desk.unknown_users_are_denied_like_wrong_tokens.Goals as goal

pub returns : goal.returns
returns c = record { unknown = unknown-login; wrong = wrong-login }
