-- The set of separation of duty that a denial names is the first of its kind, in alphabetical order, that the
-- requested policy would break.
use Rattle.std.proofs.Common.{◌≡◌, ℕ, List, Result, Err}
use Rattle.mpw_rbac.specs.declared.refusal.Refusal.{Refusal}
use Rattle.mpw_rbac.specs.declared.refusal.Refusal.TheVariants.{Ssd, Dsd}
use Rattle.mpw_rbac.specs.Policy.{Policy}
use Rattle.mpw_rbac_laws.specs.Accepted.{TellsNoStatic, TellsNoDynamic}
use Rattle.mpw_rbac_laws.specs.Laws.{IsLeastStatic, IsLeastDynamic}

pub record TellsRightly (row : Policy → Result Policy Refusal) (asked : Policy → Policy)
    : Type 0 where
  pub static : (p : Policy) (name : List ℕ) → row p ≡ Err (Ssd name)
      → IsLeastStatic (asked p) name
  pub dynamic : (p : Policy) (name : List ℕ) → row p ≡ Err (Dsd name)
      → IsLeastDynamic (asked p) name

-- a decision table that names no set
pub tells_none : (row : Policy → Result Policy Refusal) (asked : Policy → Policy)
    → TellsNoStatic row → TellsNoDynamic row → TellsRightly row asked
tells_none row asked no_static no_dynamic = record {
  static = λ p name is. absurd (no_static p name is);
  dynamic = λ p name is. absurd (no_dynamic p name is);
}
