-- The decision table of a change of an immediate pair, and the tests of the sets after it.
use Rattle.std.specs.Prelude.{Result, ◌∷◌, []}
use Rattle.mpw_roles.specs.Decided.{decided}
use Rattle.mpw_roles.specs.Hierarchy.{Name, Hierarchy}
use Rattle.mpw_roles.specs.Rows as rows
use Rattle.mpw_roles.specs.declared.fault.RolesFault.{RolesFault}
use Rattle.mpw_rbac.specs.declared.hierarchy.PairChange.{PairChange}
use Rattle.mpw_rbac.specs.declared.hierarchy.PairChange.TheVariants.{Inherit, Uninherit}
use Rattle.mpw_rbac.specs.declared.refusal.Refusal.{Refusal}
use Rattle.mpw_rbac.specs.Policy.{Policy}
use Rattle.mpw_rbac.specs.Rows as policy_rows

abbrev pub pair_row : PairChange → Hierarchy → Name → Name → Result Hierarchy RolesFault
pair_row Inherit hierarchy senior junior = rows.inherit hierarchy senior junior
pair_row Uninherit hierarchy senior junior = rows.uninherit hierarchy senior junior

-- whether no set is broken in another hierarchy
abbrev pub holding : Policy → Hierarchy → Result Policy Refusal
holding policy hierarchy =
    let next = record policy { roles = hierarchy } in
    decided (policy_rows.ssd_holds next ∷ policy_rows.dsd_holds next ∷ []) next
