-- Rules whose distances count parts of a nanometre.
use Rattle.std.proofs.Common.{◌≡◌, ◌∙◌, ℕ, ◌*◌, ◌<◌, ◌≤◌, Bool, true, false, List, length, map, get_or, refl, sym, arith}
use Rattle.std.specs.Prelude.{All}
use Rattle.std.specs.List.{list_any}
use Rattle.std.proofs.lemmas.Bool.{ltb-false, true≢false}
use Rattle.std.proofs.lemmas.List.Elements.{All-map}
use Rattle.std.proofs.lemmas.List.Folds.{list_any_at}
use Rattle.std.proofs.lemmas.Nat.{mul-le}
use Rattle.mpw_deck.specs.Decks.{IsRule}
use Rattle.mpw_deck.specs.declared.rule.Rule.{Rule}
use Rattle.mpw_firm_grid.specs.Decks.{is_beyond, rule_on}

-- If no rule is beyond the limit, each is within it.
within : (parts : ℕ) (rules : List Rule) (k : ℕ) (d : Rule) → k < length rules
    → list_any (is_beyond parts) rules ≡ false → is_beyond parts (get_or rules k d) ≡ false
within parts rules k d l none = by (is_beyond parts (get_or rules k d)) refl
  where
    by : (b : Bool) → is_beyond parts (get_or rules k d) ≡ b
        → is_beyond parts (get_or rules k d) ≡ false
    by true e = absurd (true≢false (sym (list_any_at (is_beyond parts) rules k d l e) ∙ none))
    by false e = e

rule_fits : (parts : ℕ) (rule : Rule) → 1 ≤ parts → IsRule rule → is_beyond parts rule ≡ false
    → IsRule (rule_on parts rule)
rule_fits parts rule some is fits =
    let p = mul-le 1 1 rule.distance parts is.least some in
    record { least = omega (arith, p); most = ltb-false 65535 (rule.distance * parts) fits }

pub all_fit : (parts : ℕ) (rules : List Rule) → 1 ≤ parts → All IsRule rules
    → list_any (is_beyond parts) rules ≡ false → All IsRule (map (rule_on parts) rules)
all_fit parts rules some are none = All-map IsRule (rule_on parts) rules
    (λ k d l. rule_fits parts (get_or rules k d) some (are k d l) (within parts rules k d l none))

-- So each distance is within it, too.
pub is_within : (parts : ℕ) (rules : List Rule) (k : ℕ) (d : Rule) → k < length rules
    → list_any (is_beyond parts) rules ≡ false → (get_or rules k d).distance * parts ≤ 65535
is_within parts rules k d l none =
    ltb-false 65535 ((get_or rules k d).distance * parts) (within parts rules k d l none)
