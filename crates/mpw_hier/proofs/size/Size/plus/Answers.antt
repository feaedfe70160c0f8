-- Answers to the goals of `Size::plus` in `src/size.rt`.
use Rattle.std.proofs.Common.{◌≡◌, ◌+◌, ◌^◌, min, arith}
use Rattle.mpw_hier.proofs.Told.{told_together}
use Rattle.mpw_hier.proofs.size.Size.plus.Goals as goal

pub returns : goal.returns
returns c =
    let s = c.args.self in
    let o = c.args.other in
    λ a b p q. let count : c.min.result ≡ min (2 ^ 40 + 1) (s.count + o.count) =
    omega (arith, c.min.ensures, c.saturating_add.ensures) in told_together a b s o _ p q count
    c.max.ensures c.hull.ensures
