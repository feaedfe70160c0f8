-- The new name is none of the others.
use Rattle.std.proofs.Common.{◌≡◌, ◌∙◌, ◌+◌, ◌++◌, ◌∷◌, [], sym, ap, subst, arith, length, length-append, append_assoc}
use Rattle.mpw_roles.specs.Internal.Register.{IsRegister}
use Rattle.mpw_roles.specs.Order.{are_distinct}
use Rattle.mpw_roles.proofs.RoleLemmas.{distinct-append}
use Rattle.mpw_roles.proofs.register.Register.push.Goals as goal

pub invariant_of-self-2 : goal.invariant_of-self-2
invariant_of-self-2 c =
    let settled = c.make_place.new.settled in
    let latest = c.make_place.new.latest in
    let n = c.args.name in
    let all = c.in_ok-make_place.ensures.same ∙ c.self.view_is in
    subst (IsRegister settled) (sym c.in_ok-push.ensures.ok) (record {
      once = ap are_distinct (sym (append_assoc settled latest (n ∷ [])) ∙ ap (λ l. l ++ n ∷ []) all)
          ∙ distinct-append c.args.self.now n (ap are_distinct (sym c.self.view_is) ∙ c.self.invariant.once) c.requires;
      few = let more : length (latest ++ n ∷ []) ≡ length latest + 1 =
          length-append latest (n ∷ []) in
          let less = c.in_ok-make_place.ensures.fewer in omega arith;
    })
