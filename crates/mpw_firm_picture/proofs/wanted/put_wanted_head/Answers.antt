-- Answers to the goals of `put_wanted_head` in `src/wanted.rt`.
use Rattle.std.proofs.Common.{refl}
use Rattle.mpw_text.proofs.Adding.{adds_same}
use Rattle.mpw_firm_picture.specs.Marked.{wanted_head}
use Rattle.mpw_firm_picture.proofs.wanted.put_wanted_head.Goals as goal

pub returns : goal.returns
unfolding wanted_head
returns g c =
    adds_same _ _ _ _ _ (rw (
      c.format.ensures.text,
      c.rule_colour.ensures,
    ) refl)
    c.put.ensures
