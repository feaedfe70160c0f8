-- Answers to the goals of `Locked::take_in` in `src/locked.rt`.
use Rattle.std.proofs.Common.{◌≡◌, ◌∙◌, ap, sym, subst}
use Rattle.mpw_receipts.specs.Calls.{calls_of}
use Rattle.mpw_receipts.specs.Owner.{owner_of}
use Rattle.mpw_desk.specs.Values.{LockedDesk}
use Rattle.mpw_desk.proofs.Numbering.{calls-since}
use Rattle.mpw_desk.proofs.locked.Locked.take_in.Goals as goal

pub returns-clause-receipts : goal.returns-clause-receipts
returns-clause-receipts g c =
    let l = c.self.inside in
    let n = c.args.pass.connection in
    subst (λ (d : LockedDesk). c.args.pass.receipts ≡ calls_of owner_of n d.kept.desk.history)
    c.self.view_is
    (c.compared-calls.ensures.receipts
    ∙ sym (ap (calls_of owner_of n) c.self.invariant.1.calls
    ∙ calls-since g.N.Room.first n g.N.Room.begun.desk.history l.register.calls
    c.compared-calls.ensures.from c.self.invariant.0.above))
