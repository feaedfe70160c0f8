-- Which tables' denials name no set of separation of duty.
use Rattle.std.specs.Prelude.{◌≡◌, Result, Err}
use Rattle.mpw_roles.specs.Hierarchy.{Name}
use Rattle.mpw_rbac.specs.declared.refusal.Refusal.{Refusal}
use Rattle.mpw_rbac.specs.declared.refusal.Refusal.TheVariants.{Ssd, Dsd}
use Rattle.mpw_rbac.specs.Policy.{Policy}

-- the table's denials name no static set, and no dynamic one
abbrev pub TellsNoStatic : (Policy → Result Policy Refusal) → Type 0
TellsNoStatic row = (p : Policy) (name : Name) → row p ≡ Err (Ssd name) → ⊥

abbrev pub TellsNoDynamic : (Policy → Result Policy Refusal) → Type 0
TellsNoDynamic row = (p : Policy) (name : Name) → row p ≡ Err (Dsd name) → ⊥
