-- The session, without its mask.
use Rattle.std.proofs.Common.{◌≡◌, ◌∙◌, ◌==◌, ℕ, List, Option, ap, option_map}
use Rattle.std.specs.Map.{lookup}
use Rattle.mpw_rbac.specs.declared.active.Active.{Active}
use Rattle.mpw_rbac.proofs.SessionLemmas.{session-found}
use Rattle.mpw_rbac.proofs.active.Sessions.get.Goals as goal

-- what is found in the slice is found in the vector
found : (connection : ℕ) {o : Option Active} {es fs : List (ℕ × Active)}
    → o ≡ lookup (λ other. connection == other) es → es ≡ fs
    → o ≡ lookup (λ other. connection == other) fs
found connection is same = is ∙ ap (lookup (λ other. connection == other)) same

pub returns-in-Some : goal.returns-in-Some
returns-in-Some c = rw (← c.self.view_is)
    (ap (option_map (λ (a : Active). a.session)) (found c.args.connection c.in-Some.ensures c.as_slice.ensures.value)
    ∙ session-found c.self.inside.table.items c.args.connection)

pub returns-in-None : goal.returns-in-None
returns-in-None c = rw (← c.self.view_is)
    (ap (option_map (λ (a : Active). a.session)) (found c.args.connection c.in-None.ensures c.as_slice.ensures.value)
    ∙ session-found c.self.inside.table.items c.args.connection)
