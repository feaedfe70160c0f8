-- Answers to the goals of `Table::next_version` in `src/table.rt`.
use Rattle.std.proofs.Common.{◌≡◌, ◌+◌, Some, sym, ap, ◌∙◌, arith}
use Rattle.std.proofs.lemmas.Option.{slice_get_within}
use Rattle.std.proofs.lemmas.List.Sums.{count_by-le-length}
use Rattle.mpw_geom.specs.Names.{name_eq}
use Rattle.mpw_hier.specs.declared.submission.Submission.{Submission}
use Rattle.mpw_hier.specs.Shelf.{present, versions}
use Rattle.mpw_hier.proofs.Shelving.{shelf_few}
use Rattle.mpw_hier.proofs.Versions.{first_version, present_is, version_read}
use Rattle.mpw_hier.proofs.table.Table.next_version.Goals as goal

pub index-requires : goal.index-requires
index-requires c =
    let ss = c.self.inside.submissions.items in
    let at : present ss c.args.cell.now ≡ Some c.in-Some.number =
    ap (λ xs. present xs c.args.cell.now) c.self.view_is ∙ sym c.in-Some.ensures in
    let h = present_is ss c.args.cell.now c.in-Some.number at in
    omega (arith, slice_get_within ss c.in-Some.number h.0 h.1, c.self.inside.submissions.ok.0)

pub overflow_add-result : goal.overflow_add-result
overflow_add-result c =
    let ss = c.self.inside.submissions.items in
    let at : present ss c.args.cell.now ≡ Some c.in-Some.number =
    ap (λ xs. present xs c.args.cell.now) c.self.view_is ∙ sym c.in-Some.ensures in
    let version = version_read ss c.args.cell.now c.in-Some.number c.index.result.now
    c.self.invariant.submitted at c.index.ensures in
    let few = count_by-le-length (λ (t : Submission). name_eq t.cell c.args.cell.now) ss in
    omega (arith, version, few, shelf_few ss c.self.invariant.submitted)

pub returns-in-Some : goal.returns-in-Some
returns-in-Some c =
    let ss = c.self.inside.submissions.items in
    let at : present ss c.args.cell.now ≡ Some c.in-Some.number =
    ap (λ xs. present xs c.args.cell.now) c.self.view_is ∙ sym c.in-Some.ensures in
    let version = version_read ss c.args.cell.now c.in-Some.number c.index.result.now
    c.self.invariant.submitted at c.index.ensures in
    ap (λ k. k + 1) (version ∙ ap (λ xs. versions xs c.args.cell.now) c.self.view_is)

pub returns-in-None : goal.returns-in-None
returns-in-None c =
    ap (λ k. k + 1) (sym (first_version c.args.self.now c.args.cell.now (sym c.in-None.ensures)))
