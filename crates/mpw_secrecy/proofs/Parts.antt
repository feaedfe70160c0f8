-- What is the same on two desks on which a connection's sessions have the same view: its session, what is granted
-- to it, and what the guard lets it do.
use Rattle.std.proofs.Common.{◌≡◌, ◌∙◌, ℕ, Bool, true, false, cond, [], ◌∷◌, Option, None, Some, is_some, refl, sym, ap}
use Rattle.std.specs.Prelude.{option_map}
use Rattle.std.specs.Option.{option_map_or}
use Rattle.mpw_roles.specs.Decided.{decided}
use Rattle.mpw_permissions.specs.declared.permission.Object.{Object}
use Rattle.mpw_permissions.specs.declared.permission.Operation.{Operation}
use Rattle.mpw_rbac.specs.declared.session.Session.{Session}
use Rattle.mpw_rbac.specs.Policy.{Policy, identity_of, permits, session_of, session_permits}
use Rattle.mpw_requests.specs.declared.need.Need.{Need}
use Rattle.mpw_requests.specs.declared.need.Need.TheVariants as need
use Rattle.mpw_replies.specs.Rows.{denied}
use Rattle.mpw_access.specs.Guard.{entered}
use Rattle.mpw_trail.specs.declared.verdict.Denial.TheVariants as denial
use Rattle.mpw_replies.specs.declared.row.Ending.TheVariants as ending
use Rattle.mpw_events.specs.Step.{State}
use Rattle.mpw_secrecy.specs.Views.{SameView}

pub cond_alike : {A : Type 0} (b : Bool) (x y z : A) → (b ≡ true → x ≡ y) → cond b x z ≡ cond b y z
cond_alike true x y z on = on refl
cond_alike false x y z on = refl

-- ---- the session

some_seen : (policy : Policy) (o : Option Session)
    → is_some o ≡ is_some (option_map (identity_of policy) o)
some_seen policy None = refl
some_seen policy (Some s) = refl

pub same_session : (connection : ℕ) (a b : State) → SameView connection a b
    → is_some (session_of a.policy connection) ≡ is_some (session_of b.policy connection)
same_session connection a b same = some_seen a.policy (session_of a.policy connection)
    ∙ ap is_some same.identity ∙ sym (some_seen b.policy (session_of b.policy connection))

-- without a session nothing is granted
no_grant : (policy : Policy) (operation : Operation) (object : Object) (o : Option Session)
    → is_some o ≡ false
    → option_map_or (λ (session : Session). session_permits policy session operation object) o false
    ≡ false
no_grant policy operation object None e = refl
no_grant policy operation object (Some s) e = absurd cc

pub same_grants : (connection : ℕ) (a b : State) → SameView connection a b
    → (operation : Operation) (object : Object)
    → permits a.policy connection operation object ≡ permits b.policy connection operation object
same_grants connection a b same operation object =
    go (is_some (session_of a.policy connection)) refl
  where
    go : (s : Bool) → is_some (session_of a.policy connection) ≡ s
        → permits a.policy connection operation object ≡ permits b.policy connection operation
        object
    go true is = (same.sight is).grants operation object
    go false is =
        no_grant a.policy operation object (session_of a.policy connection) is
        ∙ sym (no_grant b.policy operation object (session_of b.policy connection)
        (sym (same_session connection a b same) ∙ is))

-- ---- the guard

pub same_entered : (connection : ℕ) (a b : State) → SameView connection a b → (need : Need)
    → entered a.policy connection need ≡ entered b.policy connection need
same_entered connection a b same need.Nothing = refl
same_entered connection a b same need.Session =
    ap (λ s. decided ((s, ending.Denied denial.Session) ∷ []) tt) (same_session connection a b same)
same_entered connection a b same (need.Permission operation object) =
    λ i. decided ((same_session connection a b same i, ending.Denied denial.Session)
    ∷ (same_grants connection a b same operation object i, denied operation object) ∷ []) tt
