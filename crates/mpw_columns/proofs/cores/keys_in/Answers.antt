-- Answers to the goals of `keys_in` in `src/cores.rt`.
use Rattle.std.proofs.Common.{◌∙◌, List, refl, ap, sym, subst}
use Rattle.mpw_deck.specs.declared.rule.Rule.{Rule}
use Rattle.mpw_tiles.specs.Snapshots.{shown}
use Rattle.mpw_job.specs.Computed.{shown_on}
use Rattle.mpw_columns.specs.Seen.{seen_on}
use Rattle.mpw_columns.specs.Internal.Found.{IsLook}
use Rattle.mpw_columns.proofs.Looking.{keys_from}
use Rattle.mpw_columns.proofs.cores.keys_in.Goals as goal

pub add_column-requires-clause-look : goal.add_column-requires-clause-look
add_column-requires-clause-look c =
    let layout = c.args.layout.now in
    subst (λ (rs : List Rule). IsLook rs layout.layers.now layout.distance)
    (sym (c.as_slice.ensures ∙ c.rules.ensures ∙ ap (λ d. d.rules) c.deck.ensures))
    c.requires.layout.look

pub returns : goal.returns
returns c =
    let layout = c.args.layout.now in
    keys_from layout.snapshot.now.deck.rules c.as_slice.result.now layout.layers.now layout.distance
    c.args.axis (seen_on c.args.axis (shown_on (shown layout.snapshot.now)))
    c.args.rectangles.now c.args.rectangles.now c.args.core.now
    c.new-keys.result.items c.add_column.new.keys.items
    (c.as_slice.ensures ∙ c.rules.ensures ∙ ap (λ d. d.rules) c.deck.ensures)
    c.requires.layout.look c.requires.agree refl
    c.new-keys.ensures.items c.in_ok-add_column.ensures
