-- Answers to the goals of `nodes_within` in `src/shelf.rt`.
use Rattle.std.proofs.Common.{◌^◌, Err, ap, ◌∙◌}
use Rattle.mpw_hier.specs.declared.fault.HierFault.{HierFault}
use Rattle.mpw_hier.proofs.Pushing.{kept_within, nodes_kept, refused, refused_nodes}
use Rattle.mpw_hier.proofs.shelf.nodes_within.Goals as goal

pub returns-in_err-nodes-clause-faults : goal.returns-in_err-nodes-clause-faults
returns-in_err-nodes-clause-faults c =
    let fault = c.in_err-nodes.field-0.0 in
    refused _ c.args.most c.args.table.now c.args.submission.now c.from_residual.result fault
    c.from_residual.ensures.1
    (refused_nodes c.args.most c.args.table.now c.args.submission.now fault c.in_err-nodes.ensures.faults
    (λ e. c.nodes_of.ensures.far (c.in_err-nodes.was ∙ ap (λ (f : HierFault). Err f) e)))

pub returns-in_err-test_limits-clause-faults : goal.returns-in_err-test_limits-clause-faults
returns-in_err-test_limits-clause-faults c =
    refused _ c.args.most c.args.table.now c.args.submission.now c.from_residual-in_err-test_limits.result
    c.in_err-test_limits.field-0.0 c.from_residual-in_err-test_limits.ensures.1
    c.in_err-test_limits.ensures.faults

pub returns-clause-nodes : goal.returns-clause-nodes
returns-clause-nodes c =
    let k = c.in_ok-test_limits.ensures.kept in
    rw c.in_ok-shared.ensures
    (nodes_kept c.args.table.now c.args.submission.now c.in_ok-nodes.nodes.items
    c.in_ok-nodes.ensures.ok c.args.most c.requires.most c.requires.library k.small k.low)

pub returns-clause-limited : goal.returns-clause-limited
returns-clause-limited c =
    kept_within c.args.most (2 ^ 40) c.args.table.now c.args.submission.now c.requires.most
    c.in_ok-test_limits.ensures.kept
