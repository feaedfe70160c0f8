-- The administrative commands of the sets of one kind, each with its tests in order (ANSI INCITS 359-2004, 6.3.1, 6.4.1).
use Rattle.std.specs.Prelude.{◌∷◌, [], ◌++◌, List, not, nat_lt, length, Result}
use Rattle.mpw_roles.specs.Decided.{decided}
use Rattle.mpw_roles.specs.Hierarchy.{Name}
use Rattle.mpw_separation.specs.declared.fault.SetsFault.{SetsFault}
use Rattle.mpw_separation.specs.declared.fault.SetsFault.TheVariants.{Known, Unknown, Full}
use Rattle.mpw_separation.specs.Set.{SeparationSet}
use Rattle.mpw_separation.specs.Separation.{max_sets, has_set, without_set}

abbrev pub make : List SeparationSet → SeparationSet → Result (List SeparationSet) SetsFault
make sets set = decided ((not (has_set sets set.name), Known)
    ∷ (nat_lt (length sets) max_sets, Full) ∷ []) (sets ++ set ∷ [])

abbrev pub remove : List SeparationSet → Name → Result (List SeparationSet) SetsFault
remove sets name = decided ((has_set sets name, Unknown) ∷ []) (without_set sets name)
