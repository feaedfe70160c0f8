-- The bytes of a name: their test, and that they are ASCII, and so text.
use Rattle.std.proofs.Common.{◌≡◌, ◌≤◌, ℕ, true, false, ◌&&◌, leb, List, length, Decides, refl, arith}
use Rattle.std.specs.List.{list_all}
use Rattle.std.specs.Str.{IsUtf8}
use Rattle.std.proofs.lemmas.Str.{IsUtf8-from_ascii}
use Rattle.std.proofs.lemmas.Str.Ascii.{IsAscii-from_all}
use Rattle.std.proofs.lemmas.Bool.Decides.{Decides-by_and, Decides-and, nat_tests}
use Rattle.mpw_geom.specs.Name.{IsName, IsVisible, is_visible, is_visible_word}

pub IsUtf8-from_name : (bytes : List ℕ) → IsName bytes → IsUtf8 bytes
IsUtf8-from_name bytes name = IsUtf8-from_ascii bytes
    (IsAscii-from_all bytes (λ k d lt. let visible = name.2 k d lt in omega arith))

Decides-leb : (a b : ℕ) → Decides (leb a b) (a ≤ b)
Decides-leb a b = (λ e. grind (arith, nat_tests), λ h. grind (arith, nat_tests))

Decides-visible : (byte : ℕ) → Decides (is_visible byte) (IsVisible byte)
Decides-visible byte =
    Decides-and (leb 0x21 byte) (leb byte 0x7E) (Decides-leb 0x21 byte) (Decides-leb byte 0x7E)

Decides-word : (word : List ℕ) → Decides (is_visible_word word) (IsName word)
unfolding is_visible_word
Decides-word word =
    let least = Decides-leb 1 (length word) in
    let most = Decides-leb (length word) 255 in
    let all = Decides-by_and is_visible IsVisible (list_all is_visible) Decides-visible refl
    (λ _ _. refl) word in
    let rest = Decides-and (leb (length word) 255) (list_all is_visible word) most all in
    let both = Decides-and (leb 1 (length word)) (leb (length word) 255 && list_all is_visible word)
    least rest in
    (λ e. let h = both.0 e in (h.0, h.1.0, h.1.1), λ h. both.1 (h.0, (h.1, h.2)))

pub read_word : (word : List ℕ) → IsName word → is_visible_word word ≡ true
read_word word h = (Decides-word word).1 h

pub refused_word : (word : List ℕ) → (IsName word → ⊥) → is_visible_word word ≡ false
refused_word word h = elim (is_visible_word word) as (λ b. Decides b (IsName word) → b ≡ false)
    [ true ↦ λ d. absurd (h (d.0 refl)) | false ↦ λ _. refl ] (Decides-word word)
