-- Answers to the goals of `Way::go_on` in `src/way.rt`.
use Rattle.std.proofs.Common.{◌≡◌, ◌≤◌, length, arith, subst}
use Rattle.std.specs.Prelude.{Option, None, IfNone}
use Rattle.mpw_walk.proofs.LeftFrames.{leaves}
use Rattle.mpw_walk.proofs.Nexts.{has_reference}
use Rattle.mpw_walk.proofs.Steps.{last_frame}
use Rattle.mpw_walk.proofs.way.Way.go_on.Goals as goal
use Rattle.mpw_walk.proofs.way.Way.go_on.Goals.{in-Some, in_default}

pub reference-requires : goal.reference-requires
reference-requires c =
    let v = c.args.self.now in
    let f = c.args.frame.now in
    has_reference v.shelf.now f (last_frame v f c.requires)

none_next : {X : Type 0} (o : Option X) (P : Type 0) → IfNone o P → o ≡ None → P
none_next o P h is = subst (λ x. IfNone x P) is h

pub returns : goal.returns
returns c =
    let v = c.args.self.now in
    let f = c.args.frame.now in
    elim c.match-reference.branch [
      | in-Some w ↦ rw w.self-is (record {
        way = w.enter.ensures.way;
        does = w.enter.ensures.does;
      })
      | in_default w ↦ let none = none_next c.reference.result _ c.reference.ensures.none
          w.in_default.is in
          let over : length f.node.now.shapes ≤ f.shape =
          omega (arith, c.if-frame-len.false, c.len.ensures) in
          let left = leaves v f c.requires over none in
          rw w.self-is (record { way = left.way; does = left.does })
    ]
