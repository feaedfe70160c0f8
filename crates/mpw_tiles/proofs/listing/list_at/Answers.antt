-- Answers to the goals of `list_at` in `src/listing.rt`.
use Rattle.std.proofs.Common.{List, [], ◌∷◌, ◌++◌, ap, ◌∙◌}
use Rattle.std.specs.Prelude.{slice_set}
use Rattle.std.proofs.lemmas.List.{get_or_default}
use Rattle.mpw_tiles.specs.declared.listing.Rectangle.{Rectangle}
use Rattle.mpw_tiles.proofs.Lists.{Lists-at}
use Rattle.mpw_tiles.proofs.listing.list_at.Goals as goal

pub returns : goal.returns
returns c = record {
  ok = Lists-at c.args.lists.now.items _ c.args.tile c.args.rectangle c.requires
      (ap (λ (l : List Rectangle). slice_set c.args.lists.now.items c.args.tile l)
      (c.in_ok-push.ensures.ok ∙ ap (λ (l : List Rectangle). l ++ c.args.rectangle ∷ [])
      (c.index_mut.ensures.value ∙ get_or_default c.args.lists.now.items c.args.tile
      c.index_mut.result.now [] c.requires)));
}
