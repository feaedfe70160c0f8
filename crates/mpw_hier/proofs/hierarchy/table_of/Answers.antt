-- Answers to the goals of `table_of` in `src/hierarchy.rt`.
use Rattle.std.proofs.Common.{◌≡◌, ◌+◌, ◌++◌, ◌∷◌, [], ℕ, List, take, cond, Some, sym, ap, subst, ◌∙◌}
use Rattle.std.specs.BTreeMap as tree
use Rattle.std.specs.Ordering.{is_eq}
use Rattle.std.proofs.lemmas.List.{take_more}
use Rattle.mpw_geom.specs.Names.{name_cmp}
use Rattle.mpw_hier.proofs.Parts.{table_more, table_kept}
use Rattle.mpw_hier.proofs.References.{none_if, some_if}
use Rattle.mpw_hier.proofs.hierarchy.table_of.Goals as goal
use Rattle.mpw_hier.proofs.hierarchy.table_of.Goals.{then-is_none+in_ok-copy+in_ok-insert, else-is_none}

pub loop-binding-preserved : goal.loop-binding-preserved
loop-binding-preserved c =
    let bs = c.args.bindings.now in
    let i = c.loop-binding.binding-index in
    let b = c.binding-item.result in
    let m = c.loop-binding.table in
    let next : take (i + 1) bs ≡ take i bs ++ b ∷ [] = take_more bs i b c.loop-binding-test.true
    ∙ ap (λ x. take i bs ++ x ∷ []) (sym c.binding-item.is) in
    elim c.if-is_none.branch [
      | then-is_none+in_ok-copy+in_ok-insert w ↦
          let updates = subst (λ (name : List ℕ). (q : List ℕ)
          → tree.get name_cmp w.insert.new.self q ≡ cond (is_eq (name_cmp name q))
          (Some b.submission) (tree.get name_cmp m q)) w.in_ok-copy.ensures
          w.in_ok-insert.ensures.updates.0 in
          let free = sym c.get.ensures.value ∙ sym c.copied-known.ensures
          ∙ none_if c.copied-known.result c.is_none.result c.is_none.ensures
          w.if-is_none.true in
          rw (next, w.table-is) (table_more m w.insert.new.self (take i bs) b
          c.loop-binding.invariant free updates)
      | else-is_none w ↦
          let some =
          some_if c.copied-known.result c.is_none.result c.is_none.ensures w.if-is_none.false in
          let known = sym c.get.ensures.value ∙ sym c.copied-known.ensures ∙ some.1 in
          rw (next, w.table-is) (table_kept m (take i bs) b some.0 c.loop-binding.invariant known)
    ]
