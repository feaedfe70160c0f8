-- Answers to the goals of `Points::at` in `src/points.rt`.
use Rattle.std.proofs.Common.{◌∙◌, ◌<◌, sym, arith}
use Rattle.mpw_structures.specs.Internal.Coordinates.{IsWithin}
use Rattle.mpw_structures.proofs.TextPoints.{shared_length, shared_within, shared_point}
use Rattle.mpw_structures.proofs.points.Points.at.Goals as goal

within : (c : goal.After-row_known-1) → IsWithin c.in-Shared.text c.self.inside.at c.self.inside.count
within c = shared_within _ _ _ _ (sym c.deref.ensures ∙ c.in-Shared.is) c.self.invariant

less : (c : goal.After-row_known-1) → c.args.index < c.self.inside.count
less c = omega (
  arith,
  c.requires,
  shared_length _ _ _ _ _ (sym c.deref.ensures ∙ c.in-Shared.is) c.self.view_is,
)

pub overflow_mul-index : goal.overflow_mul-index
overflow_mul-index c =
    let w = within c in omega (arith, less c, w.there, c.in-Shared.text.bytes.value.ok.0)

pub overflow_add-self-inside : goal.overflow_add-self-inside
overflow_add-self-inside c =
    let w = within c in omega (arith, less c, w.there, c.in-Shared.text.bytes.value.ok.0)

pub point-requires-clause-there : goal.point-requires-clause-there
point-requires-clause-there c = let w = within c in omega (arith, less c, w.there)

pub returns-in-Shared : goal.returns-in-Shared
returns-in-Shared c =
    c.point.ensures
    ∙ sym (shared_point _ _ _ _ _ _ (sym c.deref.ensures ∙ c.in-Shared.is) c.self.view_is c.requires)
