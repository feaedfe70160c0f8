-- The sets of the other kind stay, so all do if those of the kind do.
use Rattle.std.proofs.lemmas.Result.{on_err_weaker}
use Rattle.mpw_rbac.proofs.separation.remove.Goals as goal

pub returns-in-Static-clause-err : goal.returns-in-Static-clause-err
returns-in-Static-clause-err c = on_err_weaker c.remove_ssd.result
    (λ same i. record { ssd = same i; dsd = c.remove_ssd.ensures.others i }) c.remove_ssd.ensures.err

pub returns-in-Dynamic-clause-err : goal.returns-in-Dynamic-clause-err
returns-in-Dynamic-clause-err c = on_err_weaker c.remove_dsd.result
    (λ same i. record { ssd = c.remove_dsd.ensures.others i; dsd = same i }) c.remove_dsd.ensures.err
