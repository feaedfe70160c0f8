-- One pass over references that wait for the names of their structures to be reached.
use Rattle.std.specs.Prelude.{◌≡◌, ◌≤◌, ◌⊎◌, ℕ, true, false, List, length}
use Rattle.mpw_firm_skipping.specs.Structures.{Link, Leads, has_name, is_linked}
use Rattle.mpw_firm_skipping.specs.declared.link.Link as declared

-- A reference by its names, without their addresses in memory.
abbrev pub link_of : declared.Link → Link
link_of l = (l.from.now, l.to.now)

-- One name reaches all of these names; and all links of the first list are in the second.
abbrev pub AreLed : List Link → List ℕ → List (List ℕ) → Type 0
AreLed links top names = (name : List ℕ) → has_name names name ≡ true → Leads links top name

abbrev pub AreSome : (links all : List Link) → Type 0
AreSome links all =
    (from to : List ℕ) → is_linked links from to ≡ true → is_linked all from to ≡ true

-- The links so far were processed: those whose structure's name was in the list added theirs, and the others are left.
pub record IsPass (before names : List (List ℕ)) (passed left : List Link) : Type 0 where
  pub kept : (name : List ℕ) → has_name before name ≡ true → has_name names name ≡ true
  pub handled : (from to : List ℕ) → is_linked passed from to ≡ true
      → (is_linked left from to ≡ true) ⊎ (has_name names to ≡ true)
  pub within : AreSome left passed
  pub led : (all : List Link) (top : List ℕ) → AreLed all top before → AreSome passed all
      → AreLed all top names
  pub shorter : length left ≤ length passed
  pub idle : length left ≡ length passed → (from to : List ℕ) → is_linked passed from to ≡ true
      → has_name names from ≡ false
