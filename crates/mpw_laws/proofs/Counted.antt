-- No marker is unsigned if all are signed.
use Rattle.std.proofs.Common.{◌≡◌, zero, suc, Bool, true, false, cond, not, List, [], ◌∷◌, length, Option, refl, ap, ◌∙◌, arith}
use Rattle.std.specs.Prelude.{filter, All, ◌↔◌}
use Rattle.std.proofs.lemmas.List.Elements.{All-nil, All-cons}
use Rattle.mpw_waiver.specs.declared.waiver.Waiver.{Waiver}
use Rattle.mpw_waiver.specs.Waivers.{is_signed, unsigned}

abbrev IsSigned : Option Waiver → Type 0
IsSigned o = is_signed o ≡ true

abbrev open_ones : List (Option Waiver) → List (Option Waiver)
open_ones waivers = filter (λ waiver. not (is_signed waiver)) waivers

all-signed : (waivers : List (Option Waiver)) → length (open_ones waivers) ≡ 0
    → All IsSigned waivers
all-signed [] e = All-nil IsSigned
all-signed (w ∷ waivers) e = go (λ rest. all-signed waivers rest) (is_signed w) refl e
  where
    go : (length (open_ones waivers) ≡ 0 → All IsSigned waivers) → (b : Bool) → is_signed w ≡ b
        → length (cond (not b) (w ∷ open_ones waivers) (open_ones waivers)) ≡ 0
        → All IsSigned (w ∷ waivers)
    go rest true is e = All-cons IsSigned w waivers is (rest e)
    go rest false is e = absurd (omega (arith, e))

signed-all : (waivers : List (Option Waiver)) → All IsSigned waivers
    → length (open_ones waivers) ≡ 0
signed-all [] all = refl
signed-all (w ∷ waivers) all =
    ap (λ b. length (cond (not b) (w ∷ open_ones waivers) (open_ones waivers)))
    (all zero w (omega arith)) ∙ signed-all waivers
    (λ k d within. all (suc k) d (omega (arith, within)))

pub none_unsigned : (waivers : List (Option Waiver)) → (unsigned waivers ≡ 0)
    ↔ All (λ waiver. is_signed waiver ≡ true) waivers
unfolding unsigned
none_unsigned waivers = (all-signed waivers, signed-all waivers)
