-- A set of roles of which nobody may have as many as its cardinality (ANSI INCITS 359-2004, 6.3 and 6.4).
use Rattle.std.specs.Prelude.{ℕ, Bool, ◌&&◌, nat_le, List, length, Option, Some, None, if◌then◌else◌}
use Rattle.mpw_roles.specs.Hierarchy.{Name}
use Rattle.mpw_roles.specs.Order.{are_distinct}

pub record SeparationSet : Type 0 where
  pub name : Name
  pub cardinality : ℕ
  pub roles : List Name

-- the form of every set: the cardinality is from 2 to the number of the roles, and each role occurs once
abbrev pub has_form : SeparationSet → Bool
has_form set = nat_le 2 set.cardinality
    && (nat_le set.cardinality (length set.roles) && are_distinct set.roles)

-- a set of this form, or none
abbrev pub formed : SeparationSet → Option SeparationSet
formed set = if has_form set then Some set else None
