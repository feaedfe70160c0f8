-- Digests of 32 bytes, and the digits that spell them.
use Rattle.std.proofs.Common.{◌≡◌, ◌∙◌, sym, ap, arith, ℕ, List, length, Option, None, is_some, true≢false}
use Rattle.std.specs.Prelude.{◌↔◌, IsSome}
use Rattle.std.specs.List.{AllPass}
use Rattle.hex.specs.Hex.{is_hex_digit}
use Rattle.hex.proofs.HexLemmas.{decode_of-ok}
use Rattle.mpw_requests.specs.Digest.{Spells}

-- a text that spells no digest spells no 32 bytes
pub unspelt : {X : Type 0} (text : List ℕ) (r : Option X)
    → IsSome r ↔ ((length text ≡ 64) × AllPass is_hex_digit text) → r ≡ None → (digest : List ℕ)
    → Spells text digest → length digest ≡ 32 → ⊥
unspelt text r found none digest spells sized =
    let ok = decode_of-ok text digest spells in
    let some = found.1 (omega arith, ok.1) in
    true≢false (sym some ∙ ap is_some none)
