-- Answers to the goals of `are_ruled_lists` in `src/stitch.rt`.
use Rattle.std.proofs.Common.{List, refl, subst}
use Rattle.std.specs.Prelude.{All}
use Rattle.std.proofs.lemmas.List.{take_all}
use Rattle.std.proofs.lemmas.List.Elements.{All-more}
use Rattle.mpw_markers.specs.declared.marker.Key.{Key}
use Rattle.mpw_firm_parts.specs.Stitching.{IsRuled, AreRuledLists}
use Rattle.mpw_firm_parts.proofs.stitch.are_ruled_lists.Goals as goal

pub loop-keys-preserved : goal.loop-keys-preserved
loop-keys-preserved c =
    All-more (λ (keys : List Key). All (IsRuled c.args.rules) keys) c.args.lists.now
    c.loop-keys.keys-index c.keys-item.result c.loop-keys-test.true c.loop-keys.invariant
    (subst (λ (keys : List Key). All (IsRuled c.args.rules) keys) c.keys-item.is
    (c.is_ruled_list.ensures.0 c.if-not-is_ruled_list.false))

pub returns : goal.returns
returns c = (
  λ _. subst (λ (lists : List (List Key)). AreRuledLists c.args.rules lists)
      (take_all c.loop-keys.keys-index c.args.lists.now c.loop-keys-test.false)
      c.loop-keys.invariant,
  λ _. refl,
)
