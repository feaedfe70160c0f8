-- Definitions for private functions and proofs alone. No public contract uses them.
use Rattle.std.specs.Prelude.{List, map}
use Rattle.mpw_roles.specs.Hierarchy.{Name}
use Rattle.mpw_separation.specs.Set.{SeparationSet}
use Rattle.mpw_separation.specs.declared.set.Kind.{Kind}
use Rattle.mpw_separation.specs.declared.set.Kind.TheVariants.{Static, Dynamic}

-- the other kind
abbrev pub other : Kind → Kind
other Static = Dynamic
other Dynamic = Static

-- each set with its name as a key
abbrev pub with_names : List SeparationSet → List (Name × SeparationSet)
with_names sets = map (λ (set : SeparationSet). (set.name, set)) sets
