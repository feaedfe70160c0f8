-- A box that is lifted by a level.
use Rattle.std.proofs.Common.{◌≡◌, ◌<◌, ◌-◌, ℕ, zero, suc, true, false, List, refl, arith, Option, Some, None}
use Rattle.std.specs.Prelude.{option_and_then}
use Rattle.mpw_geom.specs.Names.{name_eq}
use Rattle.mpw_geom.specs.declared.plane.Box2.{Box2}
use Rattle.mpw_firm_faults.specs.Lifting.{lifted, step_from}
use Rattle.mpw_firm_faults.specs.declared.lifting.Step.{Step}
use Rattle.mpw_firm_skipping.specs.Structures.{name_at}
use Rattle.mpw_firm_skipping.specs.declared.span.ElementSpan.{ElementSpan}

pub lifted_there : (levels unit : ℕ) (text : List ℕ) (spans : List ElementSpan) (top : List ℕ)
    (at : ℕ) (area : Box2) → name_eq (name_at text at) top ≡ true
    → Some area ≡ lifted levels unit text spans top at area
unfolding lifted
lifted_there zero unit text spans top at area is = rw is refl
lifted_there (suc n) unit text spans top at area is = rw is refl

pub lifted_end : (levels unit : ℕ) (text : List ℕ) (spans : List ElementSpan) (top : List ℕ)
    (at : ℕ) (area : Box2) → levels ≡ 0 → name_eq (name_at text at) top ≡ false
    → None ≡ lifted levels unit text spans top at area
unfolding lifted
lifted_end levels unit text spans top at area none is = rw (none, is) refl

pub lifted_on : (levels unit : ℕ) (text : List ℕ) (spans : List ElementSpan) (top : List ℕ)
    (at : ℕ) (area : Box2) (next : Option Step) → 0 < levels
    → name_eq (name_at text at) top ≡ false → step_from unit text spans at area ≡ next
    → option_and_then (λ s. lifted (levels - 1) unit text spans top s.structure s.area) next
    ≡ lifted levels unit text spans top at area
unfolding lifted
lifted_on zero unit text spans top at area next some is by = absurd (omega (arith, some))
lifted_on (suc n) unit text spans top at area next some is by =
    let e : suc n - 1 ≡ n = omega arith in rw (e, is, by) refl
