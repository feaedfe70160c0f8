-- The number above the greatest one of a desk is above that of each connection.
use Rattle.std.proofs.Common.{◌≡◌, ◌∙◌, ◌≤◌, ◌<◌, ◌+◌, ℕ, List, [], ◌∷◌, ◌++◌, Option, None, Some, max, refl, sym, subst, arith}
use Rattle.std.specs.Prelude.{fold, All}
use Rattle.std.specs.Option.{option_to_list}
use Rattle.std.proofs.lemmas.List.Elements.{All-cons, All-nil}
use Rattle.mpw_events.specs.declared.event.Call.{Call}
use Rattle.mpw_events.specs.declared.event.Event.{Event}
use Rattle.mpw_events.specs.declared.event.Event.TheVariants as event
use Rattle.mpw_events.specs.History.{Desk}
use Rattle.mpw_receipts.specs.Owner.{owner_of, owner_of_event}
use Rattle.mpw_desk.specs.Numbers.{AreBelow, IsBelow}
use Rattle.mpw_store_restoring.specs.Sessions.{connection_of, connections_of, greatest_connection}

same-owner : (e : Event) → owner_of_event e ≡ connection_of e
same-owner (event.Ask connection request) = refl
same-owner (event.Gone connection) = refl
same-owner (event.Take worker) = refl
same-owner (event.Cut answer) = refl
same-owner (event.Tile answer) = refl
same-owner event.Restart = refl

grows : (ns : List ℕ) (n : ℕ) → n ≤ fold max n ns
grows [] n = omega arith
grows (m ∷ ns) n = let more : max n m ≤ fold max (max n m) ns = grows ns (max n m) in omega (arith, more)

-- a call before others: `later` is what holds of these
one-more : (first n : ℕ) (call : Call) (calls : List Call) (owner : Option ℕ)
    → connection_of call.event ≡ owner
    → ((m : ℕ) → fold max m (connections_of calls) < first → AreBelow first calls)
    → fold max n (option_to_list owner ++ connections_of calls) < first
    → AreBelow first (call ∷ calls)
one-more first n call calls None is later below =
    All-cons (λ (c : Call). IsBelow first (owner_of c)) call calls
    (subst (IsBelow first) (sym (same-owner call.event ∙ is)) tt) (later n below)
one-more first n call calls (Some owner) is later below =
    let more : max n owner ≤ fold max (max n owner) (connections_of calls) =
    grows (connections_of calls) (max n owner) in
    let less : owner < first = omega (arith, more, below) in
    All-cons (λ (c : Call). IsBelow first (owner_of c)) call calls
    (subst (IsBelow first) (sym (same-owner call.event ∙ is)) less) (later (max n owner) below)

all-below : (first : ℕ) (calls : List Call) (n : ℕ) → fold max n (connections_of calls) < first
    → AreBelow first calls
all-below first [] n below = All-nil (λ (c : Call). IsBelow first (owner_of c))
all-below first (call ∷ calls) n below =
    one-more first n call calls (connection_of call.event) refl (all-below first calls) below

pub above-greatest : (first : ℕ) (d : Desk) → first ≡ greatest_connection d + 1
    → AreBelow first d.history
above-greatest first d next =
    let below : greatest_connection d < first = omega (arith, next) in
    all-below first d.history 0 below

pub none-before : (first : ℕ) (d : Desk) → d.history ≡ [] → AreBelow first d.history
none-before first d none = subst (AreBelow first) (sym none) (All-nil (λ (c : Call). IsBelow first (owner_of c)))
