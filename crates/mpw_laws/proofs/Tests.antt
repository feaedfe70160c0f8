-- What holds of both outcomes of a test holds of the one that it gives.
use Rattle.std.proofs.Common.{◌≡◌, Bool, true, false, refl}
use Rattle.std.specs.Prelude.{if◌then◌else◌}
use Rattle.mpw_run.specs.Step.{Outcome}

pub either : (P : Outcome → Type 0) (b : Bool) (x y : Outcome) → (b ≡ true → P x)
    → (b ≡ false → P y) → P (if b then x else y)
either P true x y f g = f refl
either P false x y f g = g refl
