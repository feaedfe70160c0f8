-- The invariants of the loops of `parts_of` in `src/apart.rt`.
use Rattle.std.proofs.Common.{◌≡◌, map, take}
use Rattle.std.specs.String.{string_bytes}
use Rattle.mpw_firm.specs.Uses.{input_name}
use Rattle.mpw_firm_outputs.specs.Apart.{names_of}
use Rattle.mpw_firm.proofs.apart.parts_of.Given as goal

abbrev pub invariant-loop-file : goal.invariant-loop-file
invariant-loop-file l =
    names_of l.uses.items ≡ map (λ file. input_name (string_bytes file)) (take l.file-index l.files)
