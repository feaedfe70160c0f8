-- Answers to the goals of `add_layer` in `src/layers.rt`.
use Rattle.std.proofs.Common.{List, ap, sym, ◌∙◌}
use Rattle.mpw_geom.specs.declared.plane.Layer.{Layer}
use Rattle.mpw_check_groups.specs.Layers.{is_among}
use Rattle.mpw_check_groups.proofs.Named.{had_already, has_pushed}
use Rattle.mpw_check_groups.proofs.layers.add_layer.Goals as goal

pub returns-then-is_among : goal.returns-then-is_among
returns-then-is_among c = λ other.
    had_already c.args.layers.now.items c.args.layer other
    (ap (λ (ls : List Layer). is_among ls c.args.layer) (sym c.as_slice.ensures.value)
    ∙ sym c.is_among.ensures ∙ c.if-is_among.true)

pub returns : goal.returns
returns c = λ other.
    ap (λ (ls : List Layer). is_among ls other) c.in_ok-push.ensures.items
    ∙ has_pushed c.args.layers.now.items c.args.layer other
