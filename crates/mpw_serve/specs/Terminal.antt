-- What a terminal shows of a run.
use Rattle.std.specs.Prelude.{◌≡◌, ◌==◌, ◌++◌, ℕ, List, [], Option, None, Some, codes, if◌then◌else◌}
use Rattle.std.specs.Fmt.{decimal}
use Rattle.mpw_wire.specs.Writing.{WritesKnown}
use Rattle.mpw_wire.specs.declared.fault.WireFault.{WireFault}

-- after the last tile the line ends
abbrev pub line_end : ℕ → ℕ → List ℕ
line_end done total = if done == total then codes "\n" else []

-- the line is written again from its beginning
unfoldable pub line_text : ℕ → ℕ → List ℕ
line_text done total =
    codes "\rmpw: "
    ++ (decimal done ++ (codes " of " ++ (decimal total
    ++ (codes " tiles checked" ++ line_end done total))))

-- exactly that line is written to the terminal, or a front of it if the terminal fails; without a terminal nothing is
abbrev pub Shows : {W : Type 0} → (W → Option (List ℕ)) → (W → ℕ) → Option W → ℕ → ℕ → Option W
    → Type 0
Shows {W} contents failures None done total after = after ≡ None
Shows {W} contents failures (Some terminal) done total after =
    (terminal' : W) × (after ≡ Some terminal') × (fault : Option WireFault)
    × WritesKnown (contents terminal) (contents terminal') (failures terminal) (failures terminal')
    fault (line_text done total)
