-- The invariants of the loops of `copies_of` in `src/stitch_options.rt`.
use Rattle.std.proofs.Common.{◌≡◌, map, take}
use Rattle.std.specs.String.{string_bytes}
use Rattle.mpw_firm_options.proofs.stitch_options.copies_of.Given as goal

abbrev pub invariant-loop-word : goal.invariant-loop-word
invariant-loop-word l =
    map string_bytes l.texts.items ≡ map (λ word. word.now) (take l.word-index l.words)
