-- The invariants of the loops of `text_of` in `src/record.rt`.
use Rattle.std.proofs.Common.{◌≡◌, ◌++◌, drop, map}
use Rattle.gate_samples.specs.Text.{raw, text_of, has_too_long}
use Rattle.gate_samples.proofs.record.text_of.Given as goal

-- the records so far, and those that are left
abbrev pub invariant-loop-new : goal.invariant-loop-new
invariant-loop-new l = record {
  same : l.text.items ++ text_of (map raw (drop l.new-index l.records))
      ≡ text_of (map raw l.records);
  fits : has_too_long (map raw (drop l.new-index l.records)) ≡ has_too_long (map raw l.records);
}
