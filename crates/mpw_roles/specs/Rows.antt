-- The administrative commands of the hierarchy, each with its tests in order (ANSI INCITS 359-2004, 6.1.1 and 6.2.1).
use Rattle.std.specs.Prelude.{◌∷◌, [], ◌&&◌, not, nat_lt, length, Result}
use Rattle.mpw_roles.specs.Decided.{decided}
use Rattle.mpw_roles.specs.Hierarchy.{Name, Hierarchy, max_roles, is_role, is_immediate, with_role, without_role, with_pair, without_pair}
use Rattle.mpw_roles.specs.Order.{at_least}
use Rattle.mpw_roles.specs.declared.fault.RolesFault.{RolesFault}
use Rattle.mpw_roles.specs.declared.fault.RolesFault.TheVariants.{NoRole, Known, Cycle, NoPair, Full}

abbrev pub add : Hierarchy → Name → Result Hierarchy RolesFault
add hierarchy role =
    decided ((not (is_role hierarchy role), Known) ∷ (nat_lt (length hierarchy) max_roles, Full)
    ∷ []) (with_role hierarchy role)

abbrev pub remove : Hierarchy → Name → Result Hierarchy RolesFault
remove hierarchy role =
    decided ((is_role hierarchy role, NoRole) ∷ []) (without_role hierarchy role)

abbrev pub inherit : Hierarchy → Name → Name → Result Hierarchy RolesFault
inherit hierarchy senior junior =
    decided
    ((is_role hierarchy senior && is_role hierarchy junior, NoRole)
    ∷ (not (is_immediate hierarchy senior junior), Known)
    ∷ (not (at_least hierarchy junior senior), Cycle)
    ∷ [])
    (with_pair hierarchy senior junior)

abbrev pub uninherit : Hierarchy → Name → Name → Result Hierarchy RolesFault
uninherit hierarchy senior junior =
    decided ((is_immediate hierarchy senior junior, NoPair) ∷ [])
    (without_pair hierarchy senior junior)
