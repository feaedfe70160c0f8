-- The invariants of the loops of `is_among` in `src/out_file.rt`.
use Rattle.std.proofs.Common.{◌≡◌, drop}
use Rattle.std.specs.List.{list_any}
use Rattle.mpw_geom.specs.Names.{name_eq}
use Rattle.mpw_firm_options.proofs.out_file.is_among.Given as goal

-- none of the words so far is the text
abbrev pub invariant-loop-word : goal.invariant-loop-word
invariant-loop-word l = list_any (λ word. name_eq word.now l.text) (drop l.word-index l.words)
    ≡ list_any (λ word. name_eq word.now l.text) l.words
