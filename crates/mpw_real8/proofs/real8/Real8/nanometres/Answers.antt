-- Answers to the goals of `Real8::nanometres` in `src/real8.rt`.
use Rattle.std.proofs.Common.{◌≡◌, ◌*◌, ◌^◌, ◌⊎◌, false, inl, inr, ap, sym, ◌∙◌, arith}
use Rattle.std.proofs.lemmas.Nat.{mul-le}
use Rattle.mpw_real8.specs.Real.{nanometres}
use Rattle.mpw_real8.proofs.Scale.{power_pos}
use Rattle.mpw_real8.proofs.Signs.{none_below, not_below}
use Rattle.mpw_real8.proofs.real8.Real8.nanometres.Goals as goal
use Rattle.mpw_real8.proofs.real8.Real8.nanometres.Goals.{else-self-via-then-self+else-self-ne0, else-self-via-else-self}

pub returns-then-self-ne0-clause-value : goal.returns-then-self-ne0-clause-value
returns-then-self-ne0-clause-value c =
    let old = c.self.inside in
    let p = mul-le 1 1 old.mantissa (16 ^ old.exponent) (omega arith)
    (let h = power_pos old.exponent in omega (arith, h)) in
    rw (← c.self.view_is, c.if-self.true)
    (none_below (old.mantissa * 16 ^ old.exponent) (omega (arith, p)))

pub returns-clause-value : goal.returns-clause-value
returns-clause-value c =
    let old = c.self.inside in
    let value = old.mantissa * 16 ^ old.exponent in
    let which : (old.negative ≡ false) ⊎ (value ≡ 0) = elim c.else-self.branch [
      | else-self-via-then-self+else-self-ne0 w
          ↦ inr (let z : old.mantissa ≡ 0 = omega arith in ap (λ m. m * 16 ^ old.exponent) z
          ∙ omega arith)
      | else-self-via-else-self w ↦ inl w.if-self.false
    ] in
    c.nearest.ensures.value ∙ ap nanometres (sym (not_below old.negative value which)
    ∙ c.self.view_is)
