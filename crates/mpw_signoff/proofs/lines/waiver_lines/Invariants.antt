-- The invariants of the loops of `waiver_lines` in `src/lines.rt`.
use Rattle.std.proofs.Common.{◌≡◌, ◌≤◌, ◌++◌, length, drop}
use Rattle.mpw_signoff.specs.WaiverLines.{lines_from}
use Rattle.mpw_signoff.proofs.lines.waiver_lines.Given as goal

-- the lines so far, with those that are left
abbrev pub invariant-loop-place : goal.invariant-loop-place
invariant-loop-place l = record {
  within : l.place ≤ length l.book;
  lines : l.lines.items ++ lines_from l.rules l.seen l.waivers l.place (drop l.place l.book)
      ≡ lines_from l.rules l.seen l.waivers 0 l.book;
}
