-- For private functions and proofs: the sizes of names.
use Rattle.std.specs.Prelude.{◌≡◌, ℕ, false, List, Option, Some}
use Rattle.std.specs.List.{AllZip}
use Rattle.mpw_geom.specs.declared.plane.Box2.{Box2}
use Rattle.mpw_hier.specs.declared.size.Size.{Size}
use Rattle.mpw_hier.specs.Items.{Item}
use Rattle.mpw_hier.specs.Boxes.{is_box_near}
use Rattle.mpw_hier.specs.Sizes.{IsToldBy, total_of}

pub record IsExtentFar (extent : Option Box2) : Type 0 where
  pub box : Box2
  pub is : extent ≡ Some box
  pub far : is_box_near box ≡ false

-- Each size represents the content of its name.
abbrev pub AreToldBy : (List ℕ → List Item) → (List ℕ → ℕ) → List (List ℕ) → List Size → Type 0
AreToldBy items heights names sizes =
    AllZip (λ name size. IsToldBy (total_of (items name) (heights name)) size) names sizes
