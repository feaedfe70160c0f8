-- The mask, next to its session.
use Rattle.std.proofs.Common.{◌≡◌, ◌∙◌, ℕ, List, sym, ap, subst, option_map, Option, [], ◌==◌}
use Rattle.std.specs.Map.{lookup}
use Rattle.std.specs.Option.{option_map_or}
use Rattle.mpw_roles.specs.Places.{is_place_below}
use Rattle.mpw_rbac.specs.Masked.{AreActing, KeptSessions}
use Rattle.mpw_rbac.specs.Table.{value_at}
use Rattle.mpw_rbac.specs.declared.active.Active.{Active}
use Rattle.mpw_rbac.specs.declared.session.Session.{Session}
use Rattle.mpw_rbac.proofs.MaskedLemmas.{none-below}
use Rattle.mpw_rbac.proofs.SessionLemmas.{session-found, acting-found}
use Rattle.mpw_rbac.proofs.active.Sessions.acting.Goals as goal

-- what is found in the slice is found in the vector
found : (connection : ℕ) {o : Option Active} {es fs : List (ℕ × Active)}
    → o ≡ lookup (λ other. connection == other) es → es ≡ fs
    → o ≡ lookup (λ other. connection == other) fs
found connection is same = is ∙ ap (lookup (λ other. connection == other)) same

pub returns-in-Some : goal.returns-in-Some
returns-in-Some c = λ h acts place.
    let es = c.self.inside.table.items in
    acting-found h es c.args.connection c.in-Some.active.now
    (subst (AreActing h) (sym c.self.view_is) acts) (found c.args.connection c.in-Some.ensures c.as_slice.ensures.value)
    place
    ∙ ap (λ (o : Option Session). is_place_below h (option_map_or (λ (s : Session). s.active) o [])
    place) (ap (option_map (λ (a : Active). a.session)) (found c.args.connection c.in-Some.ensures c.as_slice.ensures.value)
    ∙ session-found es c.args.connection)
    ∙ ap (λ (k : KeptSessions). is_place_below h
    (option_map_or (λ (s : Session). s.active)
    (value_at (λ a b. a == b) k.sessions c.args.connection)
    []) place) c.self.view_is

pub returns-in-None : goal.returns-in-None
returns-in-None c = λ h acts place.
    let es = c.self.inside.table.items in
    c.new.ensures place
    ∙ none-below h place
    ∙ ap (λ (o : Option Session). is_place_below h (option_map_or (λ (s : Session). s.active) o [])
    place) (ap (option_map (λ (a : Active). a.session)) (found c.args.connection c.in-None.ensures c.as_slice.ensures.value)
    ∙ session-found es c.args.connection)
    ∙ ap (λ (k : KeptSessions). is_place_below h
    (option_map_or (λ (s : Session). s.active)
    (value_at (λ a b. a == b) k.sessions c.args.connection)
    []) place) c.self.view_is
