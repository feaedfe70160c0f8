-- Answers to the goals of `Layout::top`.
use Rattle.std.proofs.Common.{length, ◌-◌, refl}
use Rattle.mpw_columns_contents.proofs.Read.{copied_some}
use Rattle.mpw_columns_contents.proofs.Tops.{here_in_plane, top_shown}
use Rattle.mpw_columns_contents.proofs.layout.Layout.top.Goals as goal

pub returns-clause-array : goal.returns-clause-array
returns-clause-array c = record {
  node = c.in-Some.top.now;
  at = copied_some c.last.result c.in-Some.top _ c.in-Some.is c.last.ensures.value;
  structure = refl;
  near = here_in_plane;
}

pub returns-clause-shown : goal.returns-clause-shown
returns-clause-shown c =
    let l = c.args.self.now in
    top_shown c.names_are_opened.ensures l c.requires c.in-Some.top.now
    (copied_some c.last.result c.in-Some.top _ c.in-Some.is c.last.ensures.value)
    (length l.nodes.now - 1)
