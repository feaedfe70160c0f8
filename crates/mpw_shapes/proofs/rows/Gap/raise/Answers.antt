-- Answers to the goals of `Gap::raise` in `src/rows.rt`.
use Rattle.std.proofs.Common.{◌≡◌, inl, inr, arith, rules, FitsSigned, ℤ, ◌+ℤ◌, ◌≤ℤ◌, to_z, of_z}
use Rattle.std.specs.Int.{w64, saturate_signed}
use Rattle.std.proofs.lemmas.Int.{ints}
use Rattle.mpw_shapes.proofs.rows.Gap.raise.Goals as goal

under : (a b w r : ℤ) → w ≤ℤ a → FitsSigned w64 (w +ℤ b) → r ≡ saturate_signed w64 (a +ℤ b)
    → (w +ℤ b) ≤ℤ r
under a b w r h f e = grind (arith, ints)

over : (a b w r : ℤ) → a ≤ℤ w → FitsSigned w64 (w +ℤ b) → r ≡ saturate_signed w64 (a +ℤ b)
    → r ≤ℤ (w +ℤ b)
over a b w r h f e = grind (arith, ints)

pub returns : goal.returns
returns c =
    let a : FitsSigned w64 c.args.added.winding = search rules in
    let d : FitsSigned w64 c.args.self.down = search rules in
    let u : FitsSigned w64 c.args.self.up = search rules in
    let p : FitsSigned w64 c.saturating_add.result = search rules in
    let q : FitsSigned w64 c.saturating_add-2.result = search rules in
    let e : to_z w64 (of_z w64 c.args.added.winding) ≡ c.args.added.winding = omega (arith, ints) in
    let f : to_z w64 (of_z w64 c.args.self.down) ≡ c.args.self.down = omega (arith, ints) in
    let g : to_z w64 (of_z w64 c.args.self.up) ≡ c.args.self.up = omega (arith, ints) in
    λ w fits h. elim h [
      | inl x ↦ let r = under c.args.self.down c.args.added.winding w _ x fits
          (rw (e, f) at c.saturating_add.ensures) in inl (omega (arith, ints, r))
      | inr x ↦ let r = over c.args.self.up c.args.added.winding w _ x fits
          (rw (e, g) at c.saturating_add-2.ensures) in inr (omega (arith, ints, r))
    ]
