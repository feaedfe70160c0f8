-- One session changes, or is added at the end.
use Rattle.std.proofs.Common.{◌∙◌, sym, ap, subst, ◌==◌}
use Rattle.mpw_rbac.specs.Table.{insert_entry}
use Rattle.mpw_rbac.specs.Masked.{AreActing, KeptSessions, sessions_in}
use Rattle.mpw_rbac.proofs.SessionLemmas.{AreActive, sessions-insert, acting-insert}
use Rattle.mpw_rbac.proofs.active.Sessions.insert.Goals as goal

pub returns-clause-ok : goal.returns-clause-ok
returns-clause-ok c =
    let es = c.self.inside.table.items in
    ap sessions_in c.in_ok-put.ensures.ok
    ∙ sessions-insert es c.args.connection c.args.active
    ∙ ap (λ (k : KeptSessions). insert_entry (λ a b. a == b) k.sessions c.args.connection
    c.args.active.session) c.self.view_is

pub returns-clause-acting : goal.returns-clause-acting
returns-clause-acting c = λ h acts here.
    let es = c.self.inside.table.items in
    subst (AreActive h) (sym c.in_ok-put.ensures.ok)
    (acting-insert h es c.args.connection c.args.active
    (subst (AreActing h) (sym c.self.view_is) acts) here)
