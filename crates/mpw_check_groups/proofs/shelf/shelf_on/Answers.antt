-- Answers to the goals of `shelf_on` in `src/shelf.rt`.
use Rattle.std.proofs.Common.{◌≡◌, ◌∙◌, Some, ap, sym, subst}
use Rattle.std.specs.Prelude.{option_copied, slice_get, IfSome}
use Rattle.mpw_structures.specs.Library.{IsLibrary}
use Rattle.mpw_hier.specs.declared.submission.Submission.{Submission}
use Rattle.mpw_check_groups.specs.Internal.{submission_with}
use Rattle.mpw_check_groups.specs.Layers.{is_among, library_on}
use Rattle.mpw_check_groups.proofs.Staying.{read_on, shelf_made}
use Rattle.mpw_check_groups.proofs.shelf.shelf_on.Goals as goal

pub shelf_with-requires-clause-library : goal.shelf_with-requires-clause-library
shelf_with-requires-clause-library c =
    let s = c.in-Some.submission.now in
    let test = is_among c.args.layers.now in
    let at : slice_get c.args.shelf.now 0 ≡ Some s =
    sym c.get.ensures ∙ ap option_copied c.in-Some.is in
    let library = subst (λ o. IfSome o (λ l. l ≡ library_on test s.library)) c.in-Some-2.is
    c.in_ok-library.ensures in
    subst (λ (x : Submission). IsLibrary x.library) (sym c.in_ok-submission.ensures)
    (subst IsLibrary (sym library) (read_on test c.args.shelf.now s c.is_shelf.ensures at))

pub returns : goal.returns
returns c =
    let s = c.in-Some.submission.now in
    let test = is_among c.args.layers.now in
    let at : slice_get c.args.shelf.now 0 ≡ Some s =
    sym c.get.ensures ∙ ap option_copied c.in-Some.is in
    let library = subst (λ o. IfSome o (λ l. l ≡ library_on test s.library)) c.in-Some-2.is
    c.in_ok-library.ensures in
    shelf_made test c.args.shelf.now s c.in_ok-submission.submission c.shelf_with.result c.requires
    at (c.in_ok-submission.ensures ∙ ap (submission_with s) library) c.shelf_with.ensures
