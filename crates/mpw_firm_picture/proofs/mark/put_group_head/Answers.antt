-- Answers to the goals of `put_group_head` in `src/mark.rt`.
use Rattle.std.proofs.Common.{refl}
use Rattle.mpw_text.proofs.Adding.{adds_same}
use Rattle.mpw_firm_picture.specs.Marked.{group_head}
use Rattle.mpw_firm_picture.proofs.mark.put_group_head.Goals as goal

pub returns : goal.returns
unfolding group_head
returns g c =
    adds_same _ _ _ _ _ (rw (
      c.format.ensures.text,
      c.rule_colour.ensures,
    ) refl)
    c.put.ensures
