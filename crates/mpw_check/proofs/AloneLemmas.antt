-- A library's top as the only submission of a shelf.
use Rattle.std.proofs.Common.{◌≡◌, ℕ, ◌^◌, List, [], Some, refl, subst}
use Rattle.mpw_hier.specs.declared.bindings.Binding.{Binding}
use Rattle.mpw_hier.specs.declared.fault.HierFault.{HierFault}
use Rattle.mpw_hier.specs.declared.fault.HierFault.TheVariants as limits
use Rattle.mpw_hier.specs.declared.submission.Submission.{Submission}
use Rattle.mpw_hier.specs.Limits.{IsRefused}
use Rattle.mpw_hier.specs.Outside.{AreExternals}
use Rattle.mpw_hier.specs.Shelf.{bound_to, present}
use Rattle.mpw_structures.specs.declared.structures.Structure.{Structure}
use Rattle.mpw_check.specs.Drawn.{offered, told, IsOfTop}

-- The bindings of no names are empty.
pub none-bound : (names : List (List ℕ)) (bound : List Binding) → names ≡ [] → bound ≡ []
    → bound_to [] names ≡ Some bound
unfolding bound_to
none-bound names bound no_names no_bound = rw (no_names, no_bound) refl

-- The refusal of an empty shelf is that of the structures.
pub refused-alone : (top : List ℕ) (library : List Structure) (fault : HierFault)
    → AreExternals library top [] → IsRefused (2 ^ 40) [] (offered top library) fault
    → IsOfTop top library (told fault)
unfolding present
refused-alone top library limits.Memory whole why = tt
refused-alone top library limits.NoTop whole why = absurd why
refused-alone top library limits.Cycle whole why = absurd why
refused-alone top library limits.NoCell whole why = absurd why
refused-alone top library limits.Extent whole why = (whole, why)
refused-alone top library limits.Shapes whole why = (whole, why)
refused-alone top library limits.Deep whole why = (whole, why)
refused-alone top library limits.Full whole why = absurd (let full = why.1.1.1 in cc)

-- The same for a shelf that is empty, and a submission that is the top's.
pub refused-from-empty : (shelf : List Submission) (submission : Submission) (top : List ℕ)
    (library : List Structure) (fault : HierFault) → shelf ≡ [] → submission ≡ offered top library
    → AreExternals library top [] → IsRefused (2 ^ 40) shelf submission fault
    → IsOfTop top library (told fault)
refused-from-empty shelf submission top library fault empty offers whole why =
    refused-alone top library fault whole
    (subst (λ s. IsRefused (2 ^ 40) [] s fault) offers
    (subst (λ ss. IsRefused (2 ^ 40) ss submission fault) empty why))
