-- Answers to the goals of `is_moved_placing` in `src/displaced.rt`.
use Rattle.std.proofs.Common.{◌≡◌, Bool, ap, ◌∙◌, sym, rules}
use Rattle.std.specs.Prelude.{◌↔◌, IsTrue}
use Rattle.mpw_geom.specs.Placing.{moved_point}
use Rattle.mpw_geom.specs.declared.plane.Point.{Point}
use Rattle.mpw_geom.specs.declared.placing.Placing.{Placing}
use Rattle.mpw_walk.proofs.Placings.{same_placing}
use Rattle.mpw_columns_contents.specs.Displaced.{moved_placing}
use Rattle.mpw_columns_contents.proofs.displaced.is_moved_placing.Goals as goal

moved_or_not : (a b : Placing) (d p : Point) (t : Bool) → b.orient ≡ a.orient
    → p ≡ moved_point d a.by → IsTrue t ↔ (b.by ≡ p)
    → IsTrue t ↔ (b ≡ moved_placing d a)
moved_or_not a b d p t orient is h = (
  λ yes. same_placing b (moved_placing d a) orient (h.0 yes ∙ is),
  λ e. h.1 (ap (λ (u : Placing). u.by) e ∙ sym is),
)

pub returns-then-eq : goal.returns-then-eq
returns-then-eq c =
    let orient : c.args.b.orient ≡ c.args.a.orient = search rules in
    moved_or_not c.args.a c.args.b c.args.d c.moved.result c.is_same_point.result orient
    c.moved.ensures c.is_same_point.ensures
