-- Answers to the goals of `deck_on` in `src/deck.rt`.
use Rattle.std.proofs.Common.{◌∙◌, List, length, map, sym, ap, subst, arith}
use Rattle.std.specs.Prelude.{All}
use Rattle.std.proofs.lemmas.List.{length-map}
use Rattle.std.proofs.lemmas.Nat.{mul-le}
use Rattle.mpw_deck.specs.Decks.{IsRule}
use Rattle.mpw_deck.specs.declared.rule.Rule.{Rule}
use Rattle.mpw_firm_grid.specs.Decks.{rule_on}
use Rattle.mpw_firm_grid.proofs.Rules.{all_fit}
use Rattle.mpw_firm_grid.proofs.deck.deck_on.Goals as goal

pub new-requires : goal.new-requires
new-requires c =
    let parts = c.count-parts.result in
    let some = c.count-parts.ensures.least in
    let deck = c.args.deck.now in
    let given = c.as_slice.ensures ∙ c.rules.ensures in
    let same = c.in_ok-from_vec.ensures ∙ c.in_ok-rules.ensures ∙ ap (map (rule_on parts)) given in
    let fit = all_fit parts deck.rules some c.is_deck.ensures.rules
    (rw c.count-parts.ensures.value c.requires) in
    let p = mul-le c.tile.result 1 c.tile.result parts (omega arith) some in
    record {
      short = omega (arith, p, c.side_on-side.ensures, c.tile.ensures, c.is_deck.ensures.short);
      long = omega (arith, c.side_on-side.ensures);
      few = omega (
        arith,
        ap (λ (rs : List Rule). length rs) same,
        c.is_deck.ensures.few,
        length-map deck.rules (rule_on parts),
      );
      rules = subst (λ (rs : List Rule). All IsRule rs) (sym same) fit;
    }
