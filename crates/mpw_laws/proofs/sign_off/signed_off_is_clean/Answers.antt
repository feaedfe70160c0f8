-- Answers to the goals of `signed_off_is_clean` in `src/sign_off.rt`.
use Rattle.mpw_laws.proofs.Verdicts.{signed_is_clean}
use Rattle.mpw_laws.proofs.sign_off.signed_off_is_clean.Goals as goal

pub returns : goal.returns
returns c = signed_is_clean c.tests_are_exact.ensures c.none_unsigned_where_all_are_signed.ensures
