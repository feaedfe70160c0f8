-- What each call preserves holds of a history.
use Rattle.std.proofs.Common.{◌≡◌, List, [], ◌∷◌, ◌++◌, get_or, refl, sym, subst, append-nil, append_assoc}
use Rattle.std.specs.Prelude.{All}
use Rattle.std.proofs.lemmas.List.Elements.{All-contains, All-head, All-tail, Contains-get_or, Contains-append_left, Contains-append_right}
use Rattle.mpw_events.specs.declared.event.Call.{Call}
use Rattle.mpw_events.specs.History.{state_after, IsCall, IsLegal}
use Rattle.mpw_events.specs.Step.{State, after}

-- ---- parts of a history

pub state_after-append : (s : State) (first more : List Call)
    → state_after s (first ++ more) ≡ state_after (state_after s first) more
state_after-append s [] more = refl
state_after-append s (c ∷ cs) more = state_after-append (after s c.event c.kept) cs more

pub legal_front : (s : State) (first more : List Call) → IsLegal s (first ++ more)
    → IsLegal s first
legal_front s [] more h = tt
legal_front s (c ∷ cs) more h = (h.0, legal_front (after s c.event c.kept) cs more h.1)

pub legal_rest : (s : State) (first more : List Call) → IsLegal s (first ++ more)
    → IsLegal (state_after s first) more
legal_rest s [] more h = h
legal_rest s (c ∷ cs) more h = legal_rest (after s c.event c.kept) cs more h.1

pub all_front : (Q : Call → Type 0) (first more : List Call) → All Q (first ++ more) → All Q first
all_front Q first more h k d l = All-contains Q (first ++ more) (get_or first k d) h
    (Contains-append_left first more (get_or first k d) (Contains-get_or first k d l))

pub all_rest : (Q : Call → Type 0) (first more : List Call) → All Q (first ++ more) → All Q more
all_rest Q first more h k d l = All-contains Q (first ++ more) (get_or more k d) h
    (Contains-append_right first more (get_or more k d) (Contains-get_or more k d l))

-- ---- from call to call

module _ (Q : Call → Type 0) (P : List Call → State → Type 0)
    (on : (done : List Call) (s : State) (call : Call) → IsCall s call → Q call → P done s
    → P (done ++ call ∷ []) (after s call.event call.kept)) where
  pub along : (done : List Call) (s : State) (calls : List Call) → IsLegal s calls → All Q calls
      → P done s → P (done ++ calls) (state_after s calls)
  along done s [] legal all h = subst (λ (d : List Call). P d s) (sym (append-nil done)) h
  along done s (c ∷ cs) legal all h =
      subst (λ (d : List Call). P d (state_after s (c ∷ cs))) (append_assoc done (c ∷ []) cs)
      (along (done ++ c ∷ []) (after s c.event c.kept) cs legal.1 (All-tail Q c cs all)
      (on done s c legal.0 (All-head Q c cs all) h))
