-- Answers to the goals of `keep` in `src/rows.rt`.
use Rattle.std.proofs.Common.{◌≡◌, Some}
use Rattle.std.specs.Prelude.{slice_get}
use Rattle.mpw_hier.specs.Limits.{numbered}
use Rattle.mpw_layouts.proofs.LayoutLemmas.{kept-ok, kept-err, last_get}
use Rattle.mpw_layouts.proofs.rows.keep.Goals as goal

pub returns-in-Ok-clause-ok : goal.returns-in-Ok-clause-ok
returns-in-Ok-clause-ok c =
    let ss = c.in_ok-shelf.shelf in
    let s = numbered ss c.args.submission in
    let grown = c.in-Ok.ensures.ok in
    let at : slice_get c.put.new.self c.in-Ok.number ≡ Some s = rw (grown, c.in-Ok.ensures.number)
    (last_get ss s) in
    rw (← c.in_ok-shelf.ensures) (record {
      submission = s;
      is = kept-ok c.reaching_is_decided.ensures.far ss c.args.submission c.in-Ok.ensures.kept;
      grown = grown;
      version_is = c.version_of-version.ensures s at;
    })

pub returns-in-Err-clause-err : goal.returns-in-Err-clause-err
returns-in-Err-clause-err c =
    let told = kept-err c.reaching_is_decided.ensures.far c.in_ok-shelf.shelf c.args.submission
    c.in-Err.fault c.in-Err.ensures.faults in
    rw (c.fault_of.ensures, ← c.in_ok-shelf.ensures) told
