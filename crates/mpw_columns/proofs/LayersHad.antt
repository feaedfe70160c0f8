-- The layers of the rules.
use Rattle.std.proofs.Common.{◌≡◌, ℕ, ◌+◌, ◌<◌, ◌≤◌, List, length, get_or, take, subst}
use Rattle.std.specs.Prelude.{All, Contains}
use Rattle.std.proofs.lemmas.List.{take_all}
use Rattle.std.proofs.lemmas.List.Elements.{All-more, All-weaker}
use Rattle.mpw_geom.specs.declared.plane.Layer.{Layer}
use Rattle.mpw_deck.specs.declared.rule.Check.{Check}
use Rattle.mpw_deck.specs.declared.rule.Check.TheVariants.{Width, Space, Separation, Enclosing}
use Rattle.mpw_deck.specs.declared.rule.Rule.{Rule}
use Rattle.mpw_columns.specs.Found.{HasLayers}

abbrev pub Keeps : (old new : List Layer) → Type 0
Keeps old new = (other : Layer) → Contains old other → Contains new other

has_still : (old new : List Layer) (check : Check) → Keeps old new → HasLayers old check
    → HasLayers new check
has_still old new (Width l) k h = k l h
has_still old new (Space l) k h = k l h
has_still old new (Separation l m) k h = (k l h.0, k m h.1)
has_still old new (Enclosing l m) k h = (k l h.0, k m h.1)

pub rule_more : (rules : List Rule) (n : ℕ) (r : Rule) (old new : List Layer) → n < length rules
    → r ≡ get_or rules n r → Keeps old new → HasLayers new r.check
    → All (λ (rule : Rule). HasLayers old rule.check) (take n rules)
    → All (λ (rule : Rule). HasLayers new rule.check) (take (n + 1) rules)
rule_more rules n r old new lt is k h had =
    All-more (λ (rule : Rule). HasLayers new rule.check) rules n r lt
    (All-weaker (λ (rule : Rule). HasLayers old rule.check)
    (λ (rule : Rule). HasLayers new rule.check)
    (λ rule g. has_still old new rule.check k g) (take n rules) had)
    (subst (λ (x : Rule). HasLayers new x.check) is h)

pub all_rules : (rules : List Rule) (n : ℕ) (layers : List Layer) → length rules ≤ n
    → All (λ (rule : Rule). HasLayers layers rule.check) (take n rules)
    → All (λ (rule : Rule). HasLayers layers rule.check) rules
all_rules rules n layers le h = subst (All (λ (rule : Rule). HasLayers layers rule.check))
    (take_all n rules le) h
