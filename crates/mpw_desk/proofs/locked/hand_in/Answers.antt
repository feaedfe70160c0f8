-- The result of a critical section, if a call was added and if none was.
use Rattle.std.proofs.Common.{◌≡◌, ◌∙◌, ◌+◌, ◌++◌, ◌∷◌, [], Bool, false, List, ap, arith, inr, length, length-append, refl, subst, sym}
use Rattle.mpw_events.specs.declared.event.Call.{Call}
use Rattle.mpw_events.specs.History.{Desk, IsHandled, kept_desk, state_of, with_call}
use Rattle.mpw_desk.specs.Hints.{Fit, noted}
use Rattle.mpw_desk.specs.Internal.Adding.{AddsOrNot}
use Rattle.mpw_desk.specs.Locked.{IsLocked}
use Rattle.mpw_desk.specs.Steps.{IsAnswer, IsToldAs, MayHandIn, Records, Steps, call_of}
use Rattle.mpw_desk.specs.Values.{LockedDesk}
use Rattle.mpw_desk.specs.declared.hints.Hints.{Hints}
use Rattle.mpw_desk.proofs.Coming.{added-answers}
use Rattle.mpw_desk.proofs.Hinting.{handled-fits, noted-stays, same-fits}
use Rattle.mpw_desk.proofs.Legality.{added-told, no-restart}
use Rattle.mpw_desk.proofs.Locking.{counted-within, locked-adds, locked-stays}
use Rattle.mpw_desk.proofs.locked.hand_in.Goals as goal

pub invariant_of-locked-then-not-is_added : goal.invariant_of-locked-then-not-is_added
invariant_of-locked-then-not-is_added g c =
    let l = c.locked.inside in
    let event = c.args.event in
    let response = c.in_ok-response.response in
    let kept = g.K.Keeper.kept l.keeper in
    let failures = g.K.Keeper.failures l.keeper in
    let old = kept_desk (g.H.Handler.desk l.core.value) kept failures in
    let new = kept_desk (g.H.Handler.desk c.step.new.core) (g.K.Keeper.kept c.step.new.keeper)
    (g.K.Keeper.failures c.step.new.keeper) in
    let same = c.deref_mut-core.ensures.value in
    let handled : IsHandled old event response new = subst (λ core. IsHandled (kept_desk
    (g.H.Handler.desk core) kept failures) event response new) same c.in_ok-response.ensures.handled
    in
    let left : AddsOrNot false old.desk event response new.desk =
    subst (λ b. AddsOrNot b old.desk event response new.desk) c.if-not-is_added.true
    (subst (λ core. AddsOrNot c.in_ok-response.is_added (g.H.Handler.desk core) event response
    new.desk) same c.in_ok-response.ensures.added) in
    let law = c.keepers_have_the_changes_in_order.ensures in (
      c.locked.invariant.0,
      locked-stays law.handled law.on g.N.Room.begun old new l.register.calls l.base l.book.total
          g.N.Room.all l.rest.parts l.rest.amount l.made event response c.locked.invariant.1
          handled left.0,
      same-fits l.hints old.desk new.desk left.0 c.locked.invariant.2,
    )

pub last_call-call-requires : goal.last_call-call-requires
last_call-call-requires g c =
    let l = c.locked.inside in
    let event = c.args.event in
    let response = c.in_ok-response.response in
    let kept = g.K.Keeper.kept l.keeper in
    let failures = g.K.Keeper.failures l.keeper in
    let old = kept_desk (g.H.Handler.desk l.core.value) kept failures in
    let new = kept_desk (g.H.Handler.desk c.step.new.core) (g.K.Keeper.kept c.step.new.keeper)
    (g.K.Keeper.failures c.step.new.keeper) in
    let same = c.deref_mut-core.ensures.value in
    let handled : IsHandled old event response new = subst (λ core. IsHandled (kept_desk
    (g.H.Handler.desk core) kept failures) event response new) same c.in_ok-response.ensures.handled
    in
    let added : (was : Bool) × (new.desk ≡ with_call old.desk event was response) =
    subst (λ b. AddsOrNot b old.desk event response new.desk) c.if-not-is_added.false
    (subst (λ core. AddsOrNot c.in_ok-response.is_added (g.H.Handler.desk core) event response
    new.desk) same c.in_ok-response.ensures.added) in
    let grown = ap (λ (d : Desk). d.history) added.1 in
    omega (
      arith,
      ap (λ (h : List Call). length h) grown,
      length-append old.desk.history (call_of event response added.0 ∷ []),
    )

pub record-requires-clause-own : goal.record-requires-clause-own
record-requires-clause-own g c =
    let l = c.locked.inside in
    let event = c.args.event in
    let response = c.in_ok-response.response in
    let kept = g.K.Keeper.kept l.keeper in
    let failures = g.K.Keeper.failures l.keeper in
    let old = kept_desk (g.H.Handler.desk l.core.value) kept failures in
    let new = kept_desk (g.H.Handler.desk c.step.new.core) (g.K.Keeper.kept c.step.new.keeper)
    (g.K.Keeper.failures c.step.new.keeper) in
    let same = c.deref_mut-core.ensures.value in
    let handled : IsHandled old event response new = subst (λ core. IsHandled (kept_desk
    (g.H.Handler.desk core) kept failures) event response new) same c.in_ok-response.ensures.handled
    in
    let added : (was : Bool) × (new.desk ≡ with_call old.desk event was response) =
    subst (λ b. AddsOrNot b old.desk event response new.desk) c.if-not-is_added.false
    (subst (λ core. AddsOrNot c.in_ok-response.is_added (g.H.Handler.desk core) event response
    new.desk) same c.in_ok-response.ensures.added) in
    let grown = ap (λ (d : Desk). d.history) added.1 in
    let call = call_of event response added.0 in
    let is : c.last_call-call.result.now ≡ call = c.last_call-call.ensures old.desk.history call
    grown in
    subst (λ (k : Call). MayHandIn c.args.pass.now.connection k.event) (sym is) c.requires.own

pub record-requires-clause-answer : goal.record-requires-clause-answer
record-requires-clause-answer g c =
    let l = c.locked.inside in
    let event = c.args.event in
    let response = c.in_ok-response.response in
    let kept = g.K.Keeper.kept l.keeper in
    let failures = g.K.Keeper.failures l.keeper in
    let old = kept_desk (g.H.Handler.desk l.core.value) kept failures in
    let new = kept_desk (g.H.Handler.desk c.step.new.core) (g.K.Keeper.kept c.step.new.keeper)
    (g.K.Keeper.failures c.step.new.keeper) in
    let same = c.deref_mut-core.ensures.value in
    let handled : IsHandled old event response new = subst (λ core. IsHandled (kept_desk
    (g.H.Handler.desk core) kept failures) event response new) same c.in_ok-response.ensures.handled
    in
    let added : (was : Bool) × (new.desk ≡ with_call old.desk event was response) =
    subst (λ b. AddsOrNot b old.desk event response new.desk) c.if-not-is_added.false
    (subst (λ core. AddsOrNot c.in_ok-response.is_added (g.H.Handler.desk core) event response
    new.desk) same c.in_ok-response.ensures.added) in
    let grown = ap (λ (d : Desk). d.history) added.1 in
    let call = call_of event response added.0 in
    let is : c.last_call-call.result.now ≡ call = c.last_call-call.ensures old.desk.history call
    grown in
    subst (λ (k : Call). IsAnswer k.event k.response) (sym is)
    (added-answers old new event response added.0 handled added.1)

pub record-requires-clause-told : goal.record-requires-clause-told
record-requires-clause-told g c =
    let l = c.locked.inside in
    let event = c.args.event in
    let response = c.in_ok-response.response in
    let kept = g.K.Keeper.kept l.keeper in
    let failures = g.K.Keeper.failures l.keeper in
    let old = kept_desk (g.H.Handler.desk l.core.value) kept failures in
    let new = kept_desk (g.H.Handler.desk c.step.new.core) (g.K.Keeper.kept c.step.new.keeper)
    (g.K.Keeper.failures c.step.new.keeper) in
    let same = c.deref_mut-core.ensures.value in
    let handled : IsHandled old event response new = subst (λ core. IsHandled (kept_desk
    (g.H.Handler.desk core) kept failures) event response new) same c.in_ok-response.ensures.handled
    in
    let added : (was : Bool) × (new.desk ≡ with_call old.desk event was response) =
    subst (λ b. AddsOrNot b old.desk event response new.desk) c.if-not-is_added.false
    (subst (λ core. AddsOrNot c.in_ok-response.is_added (g.H.Handler.desk core) event response
    new.desk) same c.in_ok-response.ensures.added) in
    let grown = ap (λ (d : Desk). d.history) added.1 in
    let call = call_of event response added.0 in
    let is : c.last_call-call.result.now ≡ call = c.last_call-call.ensures old.desk.history call
    grown in
    subst (λ (k : Call). IsToldAs k.event k.response k.kept) (sym is)
    (added-told old new event response added.0 handled added.1)

pub record-requires-clause-made : goal.record-requires-clause-made
record-requires-clause-made g c =
    let l = c.locked.inside in
    let event = c.args.event in
    let response = c.in_ok-response.response in
    let kept = g.K.Keeper.kept l.keeper in
    let failures = g.K.Keeper.failures l.keeper in
    let old = kept_desk (g.H.Handler.desk l.core.value) kept failures in
    let new = kept_desk (g.H.Handler.desk c.step.new.core) (g.K.Keeper.kept c.step.new.keeper)
    (g.K.Keeper.failures c.step.new.keeper) in
    let same = c.deref_mut-core.ensures.value in
    let handled : IsHandled old event response new = subst (λ core. IsHandled (kept_desk
    (g.H.Handler.desk core) kept failures) event response new) same c.in_ok-response.ensures.handled
    in
    let added : (was : Bool) × (new.desk ≡ with_call old.desk event was response) =
    subst (λ b. AddsOrNot b old.desk event response new.desk) c.if-not-is_added.false
    (subst (λ core. AddsOrNot c.in_ok-response.is_added (g.H.Handler.desk core) event response
    new.desk) same c.in_ok-response.ensures.added) in
    let grown = ap (λ (d : Desk). d.history) added.1 in
    counted-within g.N.Room.begun old new l.register.calls l.base l.book.total g.N.Room.all
    l.rest.parts l.rest.amount l.made _ event response added.0 c.locked.invariant.1 added.1
    (ap (λ (h : List Call). length h) c.calls-made.ensures)

pub invariant_of-locked-2 : goal.invariant_of-locked-2
invariant_of-locked-2 g c =
    let l = c.locked.inside in
    let event = c.args.event in
    let response = c.in_ok-response.response in
    let kept = g.K.Keeper.kept l.keeper in
    let failures = g.K.Keeper.failures l.keeper in
    let old = kept_desk (g.H.Handler.desk l.core.value) kept failures in
    let new = kept_desk (g.H.Handler.desk c.step.new.core) (g.K.Keeper.kept c.step.new.keeper)
    (g.K.Keeper.failures c.step.new.keeper) in
    let same = c.deref_mut-core.ensures.value in
    let handled : IsHandled old event response new = subst (λ core. IsHandled (kept_desk
    (g.H.Handler.desk core) kept failures) event response new) same c.in_ok-response.ensures.handled
    in
    let added : (was : Bool) × (new.desk ≡ with_call old.desk event was response) =
    subst (λ b. AddsOrNot b old.desk event response new.desk) c.if-not-is_added.false
    (subst (λ core. AddsOrNot c.in_ok-response.is_added (g.H.Handler.desk core) event response
    new.desk) same c.in_ok-response.ensures.added) in
    let grown = ap (λ (d : Desk). d.history) added.1 in
    let call = call_of event response added.0 in
    let is : c.last_call-call.result.now ≡ call = c.last_call-call.ensures old.desk.history call
    grown in
    let law = c.keepers_have_the_changes_in_order.ensures in
    let since = l.register.calls in
    let kept_so : IsLocked g.N.Room.begun new (since ++ call ∷ []) l.base (l.book.total + 1)
    g.N.Room.all l.rest.parts l.rest.amount l.made = locked-adds law.handled law.on
    g.N.Room.begun old new since l.base l.book.total g.N.Room.all l.rest.parts l.rest.amount l.made
    event response added.0 (no-restart c.args.pass.now.connection event c.requires.own)
    c.locked.invariant.1 handled added.1 in
    let counted = subst (λ n. IsLocked g.N.Room.begun new (since ++ call ∷ []) l.base n
    g.N.Room.all l.rest.parts l.rest.amount l.made) (sym c.record.ensures.total) kept_so in (
      record {
        registered_is = c.record.ensures.next ∙ c.locked.invariant.0.registered_is;
        from = c.locked.invariant.0.from;
        above = c.locked.invariant.0.above;
      },
      subst (λ (h : List Call). IsLocked g.N.Room.begun new h l.base c.record.new.book.total
          g.N.Room.all l.rest.parts l.rest.amount l.made)
          (sym (c.record.ensures.calls ∙ ap (λ (k : Call). since ++ k ∷ []) is)) counted,
      subst (λ (h : Hints). Fit h (state_of new.desk).run) (sym (c.noted.ensures
          ∙ ap (λ a. noted a response l.hints) c.by-asked.ensures))
          (handled-fits l.hints old new event response c.args.pass.now.connection c.requires.own
          handled c.locked.invariant.2),
    )

pub returns-clause-ok : goal.returns-clause-ok
returns-clause-ok g c =
    let l = c.locked.inside in
    let event = c.args.event in
    let response = c.in_ok-response.response in
    let kept = g.K.Keeper.kept l.keeper in
    let failures = g.K.Keeper.failures l.keeper in
    let old = kept_desk (g.H.Handler.desk l.core.value) kept failures in
    let new = kept_desk (g.H.Handler.desk c.step.new.core) (g.K.Keeper.kept c.step.new.keeper)
    (g.K.Keeper.failures c.step.new.keeper) in
    let same = c.deref_mut-core.ensures.value in
    let handled : IsHandled old event response new = subst (λ core. IsHandled (kept_desk
    (g.H.Handler.desk core) kept failures) event response new) same c.in_ok-response.ensures.handled
    in
    let added : (was : Bool) × (new.desk ≡ with_call old.desk event was response) =
    subst (λ b. AddsOrNot b old.desk event response new.desk) c.if-not-is_added.false
    (subst (λ core. AddsOrNot c.in_ok-response.is_added (g.H.Handler.desk core) event response
    new.desk) same c.in_ok-response.ensures.added) in
    let grown = ap (λ (d : Desk). d.history) added.1 in
    let call = call_of event response added.0 in
    let is : c.last_call-call.result.now ≡ call = c.last_call-call.ensures old.desk.history call
    grown in
    let records = subst (λ (k : Call). Records k.event k.response k.kept c.args.pass.now
    c.record.new.self) is c.record.ensures.pass in
    let after : LockedDesk = record {
      kept = new;
      calls = c.record.new.register.calls;
      total = c.record.new.book.total;
      next = c.record.new.register.next;
      made = l.made;
      is_stopped = c.noted.result.is_stopped;
    } in
    let steps : Steps event response (record {
      kept = old;
      calls = l.register.calls;
      total = l.book.total;
      next = l.register.next;
      made = l.made;
      is_stopped = l.hints.is_stopped;
    }) after c.args.pass.now c.record.new.self = record {
      handled = handled;
      next = c.record.ensures.next;
      made = refl;
      stopped = ap (λ (h : Hints). h.is_stopped) c.noted.ensures
          ∙ noted-stays c.by-asked.result response l.hints;
      recorded = inr (
        added.0,
        added.1,
        c.record.ensures.calls
            ∙ ap (λ (k : Call). l.register.calls ++ k ∷ []) is,
        records,
      );
    } in
    subst (λ (d : LockedDesk). Steps event response d after c.args.pass.now c.record.new.self)
    c.locked.view_is steps
