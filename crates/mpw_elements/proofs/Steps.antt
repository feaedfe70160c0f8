-- The steps of a list of points, one at a time.
use Rattle.std.proofs.Common.{◌≡◌, ℕ, zero, suc, ◌+◌, ◌-◌, ◌<◌, ◌≤◌, Bool, true, false, ◌&&◌, List, [], ◌∷◌, ◌++◌, length, get_or, drop, refl, ap, ◌∙◌, add-one, arith, drop-cons}
use Rattle.std.proofs.Common.{eqb, inl, inr}
use Rattle.std.proofs.lemmas.Bool.Decides.{eqb_tells}
use Rattle.mpw_geom.specs.declared.plane.Point.{Point}
use Rattle.mpw_structures.specs.Element.{each_step, closed}

module _ (f : Point → Point → Bool) (d : Point) where
  pub step_at : (ps : List Point) (i : ℕ) → i + 1 < length ps
      → each_step f (drop i ps) ≡ (f (get_or ps i d) (get_or ps (i + 1) d)
      && each_step f (drop (i + 1) ps))
  step_at ps i h =
      let lt : i < length ps = omega arith in
      let lt1 : suc i < length ps = omega arith in
      rw (add-one, drop-cons ps i d lt, drop-cons ps (suc i) d lt1) refl

  pub short_true : (ps : List Point) → length ps ≤ 1 → each_step f ps ≡ true
  short_true [] h = refl
  short_true (p ∷ []) h = refl
  short_true (p ∷ q ∷ ps) h = absurd (omega arith)

  and_true : (a : Bool) → (a && true) ≡ (true && a)
  and_true true = refl
  and_true false = refl

  and_assoc3 : (a b c : Bool) → (a && (b && c)) ≡ ((a && b) && c)
  and_assoc3 true b c = refl
  and_assoc3 false b c = refl

  -- one more point after the last, which has the index k
  pub step_more : (ps : List Point) (k : ℕ) (q : Point) → k + 1 ≡ length ps
      → each_step f (ps ++ q ∷ []) ≡ (each_step f ps && f (get_or ps k d) q)
  step_more [] k q e = absurd (omega arith)
  step_more (p ∷ []) zero q e = and_true (f p q)
  step_more (p ∷ []) (suc k) q e = absurd (omega arith)
  step_more (p ∷ r ∷ ps) zero q e = absurd (omega arith)
  step_more (p ∷ r ∷ ps) (suc k) q e = ap (λ b. f p r && b) (step_more (r ∷ ps) k q (omega arith))
      ∙ and_assoc3 (f p r) (each_step f (r ∷ ps)) (f (get_or (r ∷ ps) k d) q)

  pub closed_steps : (ps : List Point) (k : ℕ) → k + 1 ≡ length ps
      → each_step f (closed ps) ≡ (each_step f ps && f (get_or ps k d) (get_or ps 0 d))
  closed_steps [] k e = absurd (omega arith)
  closed_steps (p ∷ ps) k e = step_more (p ∷ ps) k p e

pub not_empty : (n : ℕ) → false ≡ eqb n 0 → (n - 1) + 1 ≡ n
not_empty n e =
    elim (eqb_tells n 0) [ inl p ↦ absurd (let q = e ∙ p.0 in cc) | inr p ↦ omega (arith, p.1) ]
