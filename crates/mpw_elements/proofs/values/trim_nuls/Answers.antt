-- Answers to the goals of `trim_nuls` in `src/values.rt`.
use Rattle.std.proofs.Common.{◌≡◌, take, sym, ◌∙◌, arith}
use Rattle.mpw_elements.specs.Values.{without_nuls}
use Rattle.mpw_elements.proofs.Numbers.{trim_zero, trim_done, none_left}
use Rattle.mpw_elements.proofs.values.trim_nuls.Goals as goal
use Rattle.mpw_elements.proofs.values.trim_nuls.Goals.{then-loop-end-test+else-bytes-end-eq0, else-loop-end-test}

pub loop-end-preserved : goal.loop-end-preserved
loop-end-preserved c = record {
  within = omega arith;
  same = trim_zero c.args.bytes.now c.loop-end.end (omega arith) (omega arith)
      c.if-bytes-end-eq0.true ∙ c.loop-end.invariant.same;
}

pub returns : goal.returns
returns c =
    let bytes = c.args.bytes.now in
    let done : without_nuls (take c.loop-end.end bytes) ≡ take c.loop-end.end bytes =
    elim c.loop-end-test.branch [
      | then-loop-end-test+else-bytes-end-eq0 w ↦ trim_done bytes c.loop-end.end (omega arith)
          (omega arith) w.if-bytes-end-eq0.false
      | else-loop-end-test w ↦ let z : c.loop-end.end ≡ 0 = omega arith in rw z none_left
    ] in
    sym done ∙ c.loop-end.invariant.same
