-- One session is removed, and the others stay.
use Rattle.std.proofs.Common.{rules, ◌∙◌, ℕ, sym, ap, subst, not, ◌==◌}
use Rattle.std.proofs.lemmas.Fn.{filter_same}
use Rattle.mpw_rbac.specs.Masked.{AreActing, KeptSessions, sessions_in}
use Rattle.mpw_rbac.specs.Table.{without_key}
use Rattle.mpw_rbac.specs.declared.active.Active.{Active}
use Rattle.mpw_rbac.proofs.SessionLemmas.{AreActive, sessions-filter, acting-filter}
use Rattle.mpw_rbac.proofs.active.Sessions.remove.Goals as goal

pub returns-clause-sessions : goal.returns-clause-sessions
returns-clause-sessions c =
    let left = filter_same _ (λ (e : ℕ × Active). not (c.args.connection == e.0)) _
    (λ x b f call. search rules) _ _ c.retain.ensures.filtered in
    ap sessions_in left
    ∙ sessions-filter (λ other. not (c.args.connection == other)) c.self.inside.table.items
    ∙ ap (λ (k : KeptSessions). without_key (λ a b. a == b) k.sessions c.args.connection)
    c.self.view_is

pub returns-clause-acting : goal.returns-clause-acting
returns-clause-acting c = λ h acts.
    let left = filter_same _ (λ (e : ℕ × Active). not (c.args.connection == e.0)) _
    (λ x b f call. search rules) _ _ c.retain.ensures.filtered in
    subst (AreActive h) (sym left) (acting-filter h (λ other. not (c.args.connection == other))
    c.self.inside.table.items (subst (AreActing h) (sym c.self.view_is) acts))
