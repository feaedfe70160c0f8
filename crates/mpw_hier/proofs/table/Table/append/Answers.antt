-- Answers to the goals of `Table::append` in `src/table.rt`.
use Rattle.std.proofs.Common.{◌≡◌, List, length, sym, subst, arith}
use Rattle.mpw_hier.specs.declared.submission.Submission.{Submission}
use Rattle.mpw_hier.specs.Nodes.{AreNodesOf}
use Rattle.mpw_hier.specs.Limits.{IsSubmitted}
use Rattle.mpw_hier.specs.Values.{flats, heights}
use Rattle.mpw_hier.proofs.Shelving.{shelved_more, shelved_same}
use Rattle.mpw_hier.proofs.table.Table.append.Goals as goal

pub invariant_of-self : goal.invariant_of-self
invariant_of-self c =
    rw (c.in_err-enter.ensures.submissions, c.in_err-enter.ensures.nodes)
    (shelved_same c.self.inside.present c.enter.new.present c.self.inside.nodes.items
    c.self.inside.submissions.items c.in_err-enter.ensures.err c.self.invariant)

pub invariant_of-self-2 : goal.invariant_of-self-2
invariant_of-self-2 c =
    let ss = c.self.inside.submissions.items in
    let s = c.args.submission in
    let nodes = subst (λ (xs : List Submission). AreNodesOf (flats xs) (heights xs) s c.args.nodes)
    (sym c.self.view_is) c.requires.nodes in
    let submitted = subst (λ (xs : List Submission). IsSubmitted xs s) (sym c.self.view_is)
    c.requires.submitted in
    let last : c.len-number.result ≡ length ss =
    omega (arith, c.len-number.ensures, c.self.inside.submissions.ok.0) in
    rw (
      c.push.ensures.items,
      c.push-2.ensures.items,
      c.unwrap.ensures,
      c.unwrap-2.ensures,
      c.in_ok-enter.ensures.submissions,
      c.in_ok-enter.ensures.nodes,
    ) (shelved_more c.self.inside.present c.enter.new.present
    c.self.inside.nodes.items ss s c.args.nodes c.len-number.result c.self.invariant nodes
    submitted last c.in_ok-enter.ensures.entered)
