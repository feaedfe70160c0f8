-- Answers to the goals of `put_batches` in `src/batches.rt`.
use Rattle.std.proofs.Common.{◌∙◌, ◌++◌, rules, sym, ap, subst, append_assoc}
use Rattle.std.specs.Io.KnownBytes.{Appends}
use Rattle.std.specs.Slice.Iter.{chunks_rest}
use Rattle.std.proofs.KnownBytes.{Appends-trans}
use Rattle.std.proofs.lemmas.List.Concat.{flat_map-append}
use Rattle.mpw_firm_listing.specs.Listing.{lines_of, marker_line}
use Rattle.mpw_firm_listing.proofs.batches.put_batches.Goals as goal

pub loop-batch-preserved : goal.loop-batch-preserved
loop-batch-preserved g c =
    let at = g.W.Write.contents in
    let listing = c.args.listing.now in
    let batch = c.in-Some.batch.now in
    let so_far = c.loop-batch.invariant.2 in
    let done = so_far.0 in (
      search rules,
      tt,
      (
        done ++ batch,
        append_assoc done batch (chunks_rest c.next.new.self)
            ∙ ap (λ markers. done ++ markers) (sym c.in-Some.ensures.steps.1.0) ∙ so_far.1,
        subst (Appends (at c.args.writer.now) (at c.put_batch.new.writer))
            (sym (flat_map-append (marker_line listing.parts.now listing.top.now listing.rules.now) done batch))
            (Appends-trans (at c.args.writer.now) (at c.loop-batch.writer) (at c.put_batch.new.writer)
            (lines_of listing done) (lines_of listing batch) so_far.2 c.in_ok-put_batch.ensures),
      ),
    )
