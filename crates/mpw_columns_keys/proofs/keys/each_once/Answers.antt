-- Answers to the goals of `each_once` in `src/keys.rt`.
use Rattle.std.proofs.Common.{◌∙◌, rules}
use Rattle.std.specs.Ordering.{eq_by_cmp}
use Rattle.std.proofs.lemmas.Fn.{dedup_same}
use Rattle.mpw_columns_keys.specs.Keys.{key_cmp}
use Rattle.mpw_columns_keys.proofs.KeyOrder.{in_order, none_added, place_kept}
use Rattle.mpw_columns_keys.proofs.keys.each_once.Goals as goal

pub returns-clause-ordered : goal.returns-clause-ordered
returns-clause-ordered c =
    in_order c.args.keys.items c.shrink_to_fit.new.self.items c.requires
    (c.shrink_to_fit.ensures.items ∙ dedup_same _ (eq_by_cmp key_cmp) _
    (λ x y b f x' y' k. search rules) c.args.keys.items c.dedup_by.new.self.items
    c.dedup_by.ensures.filtered)

pub returns-clause-from : goal.returns-clause-from
returns-clause-from c = λ k there.
    none_added c.args.keys.items c.shrink_to_fit.new.self.items k
    (c.shrink_to_fit.ensures.items ∙ dedup_same _ (eq_by_cmp key_cmp) _
    (λ x y b f x' y' k. search rules) c.args.keys.items c.dedup_by.new.self.items
    c.dedup_by.ensures.filtered) there

pub returns-clause-kept : goal.returns-clause-kept
returns-clause-kept c = λ k there.
    place_kept c.args.keys.items c.shrink_to_fit.new.self.items k
    (c.shrink_to_fit.ensures.items ∙ dedup_same _ (eq_by_cmp key_cmp) _
    (λ x y b f x' y' k. search rules) c.args.keys.items c.dedup_by.new.self.items
    c.dedup_by.ensures.filtered) there
