-- Answers to the goals of `put_patterns` in `src/look.rt`.
use Rattle.std.proofs.Common.{subst}
use Rattle.std.specs.List.{flat_map, range_with_len}
use Rattle.std.specs.Io.KnownBytes.{Appends}
use Rattle.std.proofs.KnownBytes.{Appends-trans}
use Rattle.mpw_firm_picture.specs.Patterns.{patterns_of}
use Rattle.mpw_firm_report.proofs.Rows.{colours_more}
use Rattle.mpw_firm_picture.proofs.look.put_patterns.Goals as goal

pub loop-place-preserved : goal.loop-place-preserved
loop-place-preserved g c =
    let at = g.W.Write.contents in
    let n = c.loop-place.place in
    subst (λ text. Appends (at c.args.writer.now) (at c.put_patterns_of.new.writer) text)
    (colours_more (patterns_of c.args.window) n)
    (Appends-trans (at c.args.writer.now) (at c.loop-place.writer) (at c.put_patterns_of.new.writer)
    (flat_map (patterns_of c.args.window) (range_with_len 0 n)) _ c.loop-place.invariant
    c.in_ok-put_patterns_of.ensures)
