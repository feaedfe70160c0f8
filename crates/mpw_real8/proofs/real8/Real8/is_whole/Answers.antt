-- Answers to the goals of `Real8::is_whole` in `src/real8.rt`.
use Rattle.std.proofs.Common.{◌*◌, ◌^◌, sym, ap, ◌∙◌, arith}
use Rattle.std.proofs.lemmas.Bool.{eqb-true}
use Rattle.std.proofs.lemmas.Int.{to_z-of_z}
use mir.Syntax.{w32}
use Rattle.mpw_real8.proofs.Scale.{whole}
use Rattle.mpw_real8.proofs.Signs.{same_size}
use Rattle.mpw_real8.proofs.real8.Real8.is_whole.Goals as goal

pub returns : goal.returns
returns c =
    let old = c.self.inside in
    let fits = c.ranges.number in
    let size = c.unsigned_abs.ensures.value in
    let equal = eqb-true (old.mantissa * 16 ^ old.exponent) (c.unsigned_abs.result * whole)
    (sym c.is_multiple.ensures ∙ c.if-not-is_multiple.false) in
    rw (← c.self.view_is, to_z-of_z) (same_size old.negative (old.mantissa * 16 ^ old.exponent)
    c.args.number whole (omega arith) (λ e. c.if-number-eq0.false (ap (mir.Val.of_z w32) e))
    (equal ∙ ap (λ x. x * whole) (rw to_z-of_z at size)))
