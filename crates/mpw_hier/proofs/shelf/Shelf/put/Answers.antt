-- Answers to the goals of `Shelf::put` in `src/shelf.rt`.
use Rattle.std.proofs.Common.{ℕ, List, subst}
use Rattle.mpw_hier.specs.declared.submission.Submission.{Submission}
use Rattle.mpw_hier.specs.Limits.{KeepsLimits, IsRefused}
use Rattle.mpw_hier.proofs.Pushing.{kept_as, refused, refused_as}
use Rattle.mpw_hier.proofs.shelf.Shelf.put.Goals as goal

pub returns-in_err-nodes-clause-faults : goal.returns-in_err-nodes-clause-faults
returns-in_err-nodes-clause-faults c =
    let s = c.args.submission in
    let version = c.next_version.result in
    let fault = c.in_err-nodes.field-0.0 in
    refused ℕ c.args.most c.args.self.now s c.from_residual-in_err-nodes.result fault
    c.from_residual-in_err-nodes.ensures.1
    (refused_as c.args.most c.args.self.now s version fault (subst (λ (ss : List Submission). IsRefused c.args.most ss
    (record s { version = version }) fault) c.in_ok-table.ensures c.in_err-nodes.ensures.faults))

pub returns-clause-kept : goal.returns-clause-kept
returns-clause-kept c =
    let s = c.args.submission in
    let version = c.next_version.result in
    kept_as c.args.most c.args.self.now s version (subst (λ (ss : List Submission). KeepsLimits c.args.most ss
    (record s { version = version })) c.in_ok-table.ensures c.in_ok-nodes.ensures.kept)
