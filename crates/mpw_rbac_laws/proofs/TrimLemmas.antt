-- A sound policy has nothing to trim.
use Rattle.std.proofs.Common.{◌≡◌, ◌∙◌, ℕ, Bool, true, cond, List, [], ◌∷◌, map, filter, refl, ap}
use Rattle.std.specs.List.{list_all}
use Rattle.mpw_geom.specs.Names.{contains_name}
use Rattle.mpw_rbac.specs.Policy.{Policy, authorized, is_user, kept_roles, kept_sessions, trim}
use Rattle.mpw_rbac.specs.Sound.{Sound, is_authorized_session}
use Rattle.mpw_rbac.specs.declared.session.Session.{Session}
use Rattle.mpw_rbac.proofs.SeparationLemmas.{parts}

filter-all : {X : Type 0} (p : X → Bool) (xs : List X) → list_all p xs ≡ true → filter p xs ≡ xs
filter-all p [] all = refl
filter-all p (x ∷ xs) all =
    let s = parts (p x) (list_all p xs) all in
    λ i. cond (s.0 i) (x ∷ filter-all p xs s.1 i) (filter-all p xs s.1 i)

abbrev kept : Policy → ℕ × Session → ℕ × Session
kept p entry = (entry.0, kept_roles p entry.1)

abbrev has_user : Policy → ℕ × Session → Bool
has_user p entry = is_user p entry.1.user

abbrev is_authorized_entry : Policy → ℕ × Session → Bool
is_authorized_entry p entry = is_authorized_session p entry.1

sessions-kept : (p : Policy) (es : List (ℕ × Session)) → list_all (is_authorized_entry p) es ≡ true
    → kept_sessions p es ≡ es
sessions-kept p [] all = refl
sessions-kept p (e ∷ es) all =
    let here = parts (is_authorized_entry p e) (list_all (is_authorized_entry p) es) all in
    let own =
    parts (has_user p e) (list_all (contains_name (authorized p e.1.user)) e.1.active) here.0 in
    ap (λ b. map (kept p) (cond b (e ∷ filter (has_user p) es) (filter (has_user p) es))) own.0
    ∙ (λ i. (
      e.0,
      record e.1 {
        active = filter-all (contains_name (authorized p e.1.user))
            e.1.active own.1 i;
      },
    ) ∷ sessions-kept p es here.1 i)

pub trim-sound : (p : Policy) → Sound p → trim p ≡ p
trim-sound p sound = ap (λ (s : List (ℕ × Session)). record p { sessions = s })
    (sessions-kept p p.sessions sound.sessions)
