-- The new number is added at the end, and no pair has it.
use Rattle.std.proofs.Common.{◌≡◌, ◌∙◌, ◌<◌, ℕ, sym, ap, subst, false, true, inl, inr, arith, length, eqb}
use Rattle.std.proofs.lemmas.Result.{err_from_is_err_and}
use Rattle.mpw_geom.proofs.Linked.{or_cases}
use Rattle.mpw_roles.specs.Hierarchy.{with_role, is_role}
use Rattle.mpw_roles.specs.Internal.Table.{IsTable, name_of, entries_of, has_number}
use Rattle.mpw_roles.proofs.EntryLemmas.{more-names, role-number, with-role-entries}
use Rattle.mpw_roles.proofs.PairLemmas.{juniors-there, between-more}
use Rattle.mpw_roles.proofs.NumberLemmas.{eqb-back, has-more, once-more, name-numbered, number-within}
use Rattle.mpw_roles.proofs.table.Table.add.Goals.{After-number_of, In_ok-number}
use Rattle.mpw_roles.proofs.table.Table.add.Goals as goal

-- one more name leaves the roles unchanged
same : (c : After-number_of) → entries_of c.number_of.new.names c.self.inside.pairs.items
    c.self.inside.order.items ≡ c.args.self.now
same c =
    let in' = c.self.inside in
    let inv = c.self.invariant in
    more-names in'.names c.number_of.new.names in'.pairs.items in'.order.items inv.known
    (λ m k there. inv.known k (juniors-there in'.pairs.items in'.order.items m inv.between k there))
    c.number_of.ensures.kept
    ∙ c.self.view_is

pub returns-in_err-number-clause-err : goal.returns-in_err-number-clause-err
returns-in_err-number-clause-err c =
    let p = err_from_is_err_and c.from_residual.result c.from_residual.ensures.1 in
    rw (p.1) (same (goal.at.returns-in_err-number-clause-err c).After-number_of)

pub returns-in_err-push-clause-err : goal.returns-in_err-push-clause-err
returns-in_err-push-clause-err c =
    let p = err_from_is_err_and c.from_residual-in_err-push.result
    c.from_residual-in_err-push.ensures.1 in
    rw (p.1) (ap (entries_of c.number_of.new.names c.self.inside.pairs.items)
    c.in_err-push.ensures.items
    ∙ same (goal.at.returns-in_err-push-clause-err c).After-number_of)

-- the number is that of a name, and none of the roles'
number : (c : In_ok-number) → entries_of c.number_of.new.names c.self.inside.pairs.items
    c.self.inside.order.items ≡ c.args.self.now
    → (name_of c.number_of.new.names c.in_ok-number.number ≡ c.args.role)
    × (c.in_ok-number.number < length c.number_of.new.names)
    × (has_number c.self.inside.order.items c.in_ok-number.number ≡ false)
number c old =
    let in' = c.self.inside in
    let inv = c.self.invariant in
    let ns = c.number_of.new.names in
    let n = c.in_ok-number.number in
    let found = c.in_ok-number.ensures.number in
    let longer = c.number_of.ensures.long in
    let known : (k : ℕ) → has_number in'.order.items k ≡ true → k < length ns = λ k there.
    (let inside = inv.known k there in omega (arith, inside, longer)) in (
      sym (name-numbered ns c.args.role n found),
      number-within ns c.args.role n found,
      sym (role-number ns in'.pairs.items in'.order.items known c.number_of.ensures.once c.args.role
          n
          found)
          ∙ ap (λ h. is_role h c.args.role) old
          ∙ c.requires,
    )

pub invariant_of-self-2 : goal.invariant_of-self-2
invariant_of-self-2 c =
    let in' = c.self.inside in
    let inv = c.self.invariant in
    let ns = c.number_of.new.names in
    let os = in'.order.items in
    let n = c.in_ok-number.number in
    let at = goal.at.invariant_of-self-2 c in
    let is = number at.In_ok-number (same at.After-number_of) in
    let longer = c.number_of.ensures.long in
    subst (IsTable ns in'.pairs.items) (sym c.in_ok-push.ensures.items) (record {
      names_once = c.number_of.ensures.once;
      once = once-more os n inv.once is.2;
      known =
          λ k there. elim (or_cases (has_number os k) (eqb k n) (sym (has-more os n k) ∙ there)) [
            | inl old ↦ let inside = inv.known k old in omega (arith, inside, longer)
            | inr new ↦ let same_number = eqb-back k n new in omega (arith, same_number, is.1)
          ];
      between = between-more in'.pairs.items os n inv.between;
    })

pub returns-clause-ok : goal.returns-clause-ok
returns-clause-ok c =
    let in' = c.self.inside in
    let inv = c.self.invariant in
    let ns = c.number_of.new.names in
    let os = in'.order.items in
    let n = c.in_ok-number.number in
    let at = goal.at.returns-clause-ok c in
    let is = number at.In_ok-number (same at.After-number_of) in
    ap (entries_of ns in'.pairs.items) c.in_ok-push.ensures.items
    ∙ sym (with-role-entries ns in'.pairs.items os c.args.role n inv.between is.2 is.0)
    ∙ ap (λ h. with_role h c.args.role) (same at.After-number_of)
