-- The shelf: submissions in the order in which they came. The number of a submission is its index, counted from 0.
use Rattle.std.specs.Prelude.{◌≡◌, ℕ, ◌+◌, List, [], ◌∷◌, count_by, Option, Some, None, if◌then◌else◌}
use Rattle.mpw_geom.specs.Names.{name_eq}
use Rattle.mpw_hier.specs.declared.bindings.Binding.{Binding}
use Rattle.mpw_hier.specs.declared.fault.HierFault.{HierFault}
use Rattle.mpw_hier.specs.declared.fault.HierFault.TheVariants as faults
use Rattle.mpw_hier.specs.declared.submission.Submission.{Submission}

-- The later of two numbers, if there is one.
abbrev pub later : Option ℕ → Option ℕ → Option ℕ
later (Some n) before = Some n
later None before = before

-- The number of the last submission of a cell, if the first one of the list has the given number.
abbrev pub present_from : ℕ → List Submission → List ℕ → Option ℕ
present_from number [] cell = None
present_from number (s ∷ ss) cell =
    later (present_from (number + 1) ss cell) (if name_eq s.cell cell then Some number else None)

-- The number of the present submission of a cell.
unfoldable pub present : List Submission → List ℕ → Option ℕ
present ss cell = present_from 0 ss cell

-- How many submissions of a cell there are.
abbrev pub versions : List Submission → List ℕ → ℕ
versions ss cell = count_by (λ s. name_eq s.cell cell) ss

-- ---- names outside a library

abbrev pub bound_before : List ℕ → Option ℕ → Option (List Binding) → Option (List Binding)
bound_before name None rest = None
bound_before name (Some n) None = None
bound_before name (Some n) (Some bindings) =
    Some (record { name = name; submission = n } ∷ bindings)

-- Each name with the present submission of the cell of that name, or none if a cell has no submission.
unfoldable pub bound_to : List Submission → List (List ℕ) → Option (List Binding)
bound_to ss [] = Some []
bound_to ss (name ∷ names) = bound_before name (present ss name) (bound_to ss names)

-- Why names can't be bound: out of memory, or a cell without a submission.
abbrev pub IsOfBinding : List Submission → List (List ℕ) → HierFault → Type 0
IsOfBinding ss names faults.Memory = Unit {0}
IsOfBinding ss names faults.NoCell = bound_to ss names ≡ None
IsOfBinding ss names faults.NoTop = ⊥
IsOfBinding ss names faults.Cycle = ⊥
IsOfBinding ss names faults.Extent = ⊥
IsOfBinding ss names faults.Shapes = ⊥
IsOfBinding ss names faults.Deep = ⊥
IsOfBinding ss names faults.Full = ⊥
