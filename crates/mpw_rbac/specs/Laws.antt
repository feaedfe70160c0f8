-- Laws of the decision tables.
use Rattle.std.specs.Prelude.{◌≡◌, true, List, Result, Ok}
use Rattle.mpw_geom.specs.Names.{contains_name}
use Rattle.mpw_roles.specs.Hierarchy.{Name}
use Rattle.mpw_rbac.specs.declared.refusal.Refusal.{Refusal}
use Rattle.mpw_rbac.specs.Policy.{Policy}
use Rattle.mpw_rbac.specs.Sound.{Sound}

-- if a decision table accepts, the new policy is sound if the one before was
abbrev pub KeepsSound : (Policy → Result Policy Refusal) → Type 0
KeepsSound row = (p q : Policy) → row p ≡ Ok q → Sound p → Sound q

-- each of the first names is one of the others
abbrev pub IsPart : List Name → List Name → Type 0
IsPart few many = (role : Name) → contains_name few role ≡ true → contains_name many role ≡ true
