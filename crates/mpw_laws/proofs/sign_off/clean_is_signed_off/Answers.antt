-- Answers to the goals of `clean_is_signed_off` in `src/sign_off.rt`.
use Rattle.mpw_laws.proofs.Verdicts.{clean_is_signed}
use Rattle.mpw_laws.proofs.sign_off.clean_is_signed_off.Goals as goal

pub returns : goal.returns
returns c = clean_is_signed c.tests_are_exact.ensures c.none_unsigned_where_all_are_signed.ensures
