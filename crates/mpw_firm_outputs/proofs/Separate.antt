-- Whether a name leads to one of some files.
use Rattle.std.proofs.Common.{◌≡◌, ◌∙◌, ◌<◌, ◌+◌, ◌||◌, ℕ, List, Bool, true, false, drop, length, get_or, Option, None, Some, sym, ap}
use Rattle.std.specs.Prelude.{IfSome}
use Rattle.std.proofs.lemmas.List.{at_drop_more}
use Rattle.mpw_firm_outputs.specs.Outputs.{Spot, are_one, is_among}
use Rattle.mpw_firm_outputs.specs.Apart.{names_of}
use Rattle.mpw_firm_outputs.specs.declared.uses.Use.{Use}

-- The names that are left decide whether a name is among all.
abbrev pub IsLeft : Option (List ℕ → Option Spot) → List Use → List ℕ → ℕ → Type 0
IsLeft files uses name i = IfSome files (λ leads.
    is_among leads (names_of (drop i uses)) name ≡ is_among leads (names_of uses) name)

-- What the next file leads to, and the name.
abbrev pub Leads : Option (List ℕ → Option Spot) → List ℕ → Option Spot → Type 0
Leads files name spot = IfSome files (λ leads. spot ≡ leads name)

next_is : (leads : List ℕ → Option Spot) (uses : List Use) (name : List ℕ) (i : ℕ) (d : Use)
    (spot there : Option Spot) (b : Bool) → i < length uses → spot ≡ leads name
    → there ≡ leads (get_or uses i d).name.now → are_one there spot ≡ b
    → is_among leads (names_of (drop i uses)) name
    ≡ (b || is_among leads (names_of (drop (i + 1) uses)) name)
next_is leads uses name i d spot there b inside at next one =
    let first : are_one (leads (get_or uses i d).name.now) (leads name) ≡ b =
    rw (← at, ← next) one in
    at_drop_more (λ us. is_among leads (names_of us) name) uses i d inside
    ∙ ap (λ a. a || is_among leads (names_of (drop (i + 1) uses)) name) first

pub is_found : (files : Option (List ℕ → Option Spot)) (uses : List Use) (name : List ℕ) (i : ℕ)
    (d : Use) (spot there : Option Spot) → i < length uses → Leads files name spot
    → Leads files (get_or uses i d).name.now there → are_one there spot ≡ true
    → IsLeft files uses name i
    → IfSome files (λ leads. true ≡ is_among leads (names_of uses) name)
is_found None uses name i d spot there inside at next one left = tt
is_found (Some leads) uses name i d spot there inside at next one left =
    sym (next_is leads uses name i d spot there true inside at next one) ∙ left

pub is_passed : (files : Option (List ℕ → Option Spot)) (uses : List Use) (name : List ℕ) (i : ℕ)
    (d : Use) (spot there : Option Spot) → i < length uses → Leads files name spot
    → Leads files (get_or uses i d).name.now there → are_one there spot ≡ false
    → IsLeft files uses name i → IsLeft files uses name (i + 1)
is_passed None uses name i d spot there inside at next one left = tt
is_passed (Some leads) uses name i d spot there inside at next one left =
    sym (next_is leads uses name i d spot there false inside at next one) ∙ left
