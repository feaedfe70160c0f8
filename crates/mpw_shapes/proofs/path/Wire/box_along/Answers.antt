-- Answers to the goals of `Wire::box_along` in `src/path.rt`.
use Rattle.std.proofs.Common.{◌∙◌, sym, rules, arith}
use Rattle.std.proofs.lemmas.Int.{ints}
use Rattle.mpw_shapes.proofs.Wires.{wire_level, wire_upright}
use Rattle.mpw_shapes.proofs.path.Wire.box_along.Goals as goal

pub returns-then-from-to : goal.returns-then-from-to
returns-then-from-to c =
    let w = c.args.self in
    rw (wire_level w.half w.before w.behind c.args.from c.args.to (omega (arith, ints)))
    (search rules)

pub returns-else-from-to : goal.returns-else-from-to
returns-else-from-to c =
    let w = c.args.self in
    rw (wire_upright w.half w.before w.behind c.args.from c.args.to (λ e. omega (arith, ints)))
    (search rules)
