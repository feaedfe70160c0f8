-- No call before a desk was shared belongs to one of its passes.
use Rattle.std.proofs.Common.{◌≡◌, ◌∙◌, ◌≤◌, ℕ, false, cond, List, [], ◌∷◌, ◌++◌, Option, None, Some, refl, ap, arith}
use Rattle.std.proofs.lemmas.Bool.Decides.{nat_tests}
use Rattle.std.proofs.lemmas.List.Elements.{All-head, All-tail}
use Rattle.mpw_events.specs.declared.event.Call.{Call}
use Rattle.mpw_receipts.specs.Calls.{calls_of, is_of}
use Rattle.mpw_receipts.specs.Owner.{owner_of}
use Rattle.mpw_desk.specs.Numbers.{AreBelow, IsBelow}

not-of : (first number : ℕ) (owner : Option ℕ) → first ≤ number → IsBelow first owner
    → is_of number owner ≡ false
not-of first number None from is = refl
not-of first number (Some owner) from is = grind (arith, nat_tests)

-- the calls of a number from the first one on are those since then
pub calls-since : (first number : ℕ) (before since : List Call) → first ≤ number
    → AreBelow first before
    → calls_of owner_of number (before ++ since) ≡ calls_of owner_of number since
calls-since first number [] since from below = refl
calls-since first number (call ∷ before) since from below =
    let rest = calls_of owner_of number (before ++ since) in
    let P = λ (c : Call). IsBelow first (owner_of c) in
    ap (λ own. cond own (call ∷ rest) rest)
    (not-of first number (owner_of call) from (All-head P call before below))
    ∙ calls-since first number before since from (All-tail P call before below)
