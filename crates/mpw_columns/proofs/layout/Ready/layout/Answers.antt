-- Answers to the goals of `Ready::layout` in `src/layout.rt`.
use Rattle.std.proofs.Common.{◌∙◌, ap, rules, subst, sym}
use Rattle.std.specs.Prelude.{All}
use Rattle.mpw_deck.specs.declared.rule.Rule.{Rule}
use Rattle.mpw_columns.specs.Found.{HasLayers}
use Rattle.mpw_columns.proofs.Looking.{look_from}
use Rattle.mpw_columns.proofs.layout.Ready.layout.Goals as goal

pub returns-clause-layout : goal.returns-clause-layout
returns-clause-layout c =
    let s = c.args.snapshot.now in
    let layers = c.args.self.now.layers.items in
    let rules_are = c.as_slice-2.ensures ∙ c.rules.ensures ∙ ap (λ d. d.rules) c.deck.ensures in
    record {
      alone = c.requires.alone;
      extent_is = c.requires.extent;
      short = search rules;
      look = look_from s.deck.rules c.as_slice-2.result.now layers c.as_slice.result.now
          c.greatest_distance.result rules_are c.as_slice.ensures.value
          c.is_snapshot.ensures.deck.few c.greatest_distance.ensures
          (subst (All (λ (rule : Rule). HasLayers layers rule.check)) (sym rules_are) c.requires.ready.layers);
      boxes = c.requires.ready.boxes;
    }
