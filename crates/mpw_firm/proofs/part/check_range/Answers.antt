-- Answers to the goals of `check_range` in `src/part.rt`.
use Rattle.std.proofs.Common.{◌∙◌, List, ℕ, None, refl, subst, rules}
use Rattle.mpw_firm_spread.specs.Spread.{IsPartOf}
use Rattle.mpw_firm.specs.Drawings.{IsDrawnOf}
use Rattle.mpw_firm.proofs.Flat.{part_named, part_read}
use Rattle.mpw_firm.proofs.part.check_range.Goals as goal

pub returns : goal.returns
returns g c =
    let deck = c.in_ok-deck.deck.items in
    let library = c.in_ok-library.library.items in
    let drawn = c.in_ok-drawn.drawn in
    let top = c.args.options.now.top in
    let of = subst (λ (text : List ℕ). IsDrawnOf top None text c.in_ok-source.source drawn) c.deref-2.ensures.value
    c.in_ok-drawn.ensures.drawn in
    record {
      deck = deck;
      library = library;
      drawn = drawn;
      part = c.in_ok-part.part;
      top = part_named top None deck library c.in_ok-source.source drawn c.in_ok-source.ensures of;
      read = part_read top None deck library c.in_ok-source.source drawn refl c.in_ok-source.ensures of;
      looked = c.in_ok-look.ensures.looked;
      made = subst (λ (d : List ℕ). IsPartOf (record { deck = d; top = drawn.top; library = library })
          c.in_ok-part.part) c.as_slice.ensures.value
          (subst (λ (l : List ℕ). IsPartOf
          (record { deck = c.as_slice.result.now; top = drawn.top; library = l })
          c.in_ok-part.part) (c.text.ensures ∙ c.in_ok-source.ensures.text_is)
          c.in_ok-part.ensures.made);
      columns = c.in_ok-part.ensures.asked;
      count = search rules;
      kept = search rules;
    }
