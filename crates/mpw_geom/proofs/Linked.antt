-- `leads` is true exactly if a chain of links leads from the first name to the second.
use Rattle.std.proofs.Common.{◌≡◌, ℕ, zero, suc, ◌≤◌, ◌<◌, Bool, true, false, cond, not, ◌||◌, ◌⊎◌, inl, inr, List, [], ◌∷◌, length, refl, sym, ap, subst, ◌∙◌, arith, true≢false}
use Rattle.std.specs.List.{list_any}
use Rattle.std.specs.Cmp.Lexicographic.{bytes_decides}
use Rattle.mpw_geom.specs.Names.{name_eq, contains_name}
use Rattle.mpw_geom.specs.Links.{Links, linked, is_linked, links_without, Leads, same, chain, leads_in, leads}

-- equal names are the same name
pub same_name : (a b : List ℕ) → name_eq a b ≡ true → a ≡ b
same_name a b e = (bytes_decides a b).0 e

pub name_eq-refl : (a : List ℕ) → name_eq a a ≡ true
name_eq-refl a = (bytes_decides a a).1 refl

pub or_right : (a b : Bool) → b ≡ true → (a || b) ≡ true
or_right true b e = refl
or_right false b e = e

pub or_cases : (a b : Bool) → (a || b) ≡ true → (a ≡ true) ⊎ (b ≡ true)
or_cases true b e = inl refl
or_cases false b e = inr e

-- a name that passes a test is in the list with it
pub some_name : (p : List ℕ → Bool) (names : List (List ℕ)) → list_any p names ≡ true
    → (name : List ℕ) × (contains_name names name ≡ true) × (p name ≡ true)
some_name p [] e = absurd (true≢false (sym e))
some_name p (x ∷ xs) e = elim (or_cases _ _ e) [
  | inl here ↦ (x, ap (λ b. b || contains_name xs x) (name_eq-refl x), here)
  | inr there ↦ let rest = some_name p xs there in (rest.0, or_right _ _ rest.1, rest.2)
]

pub any_name : (p : List ℕ → Bool) (names : List (List ℕ)) (name : List ℕ)
    → contains_name names name ≡ true → p name ≡ true → list_any p names ≡ true
any_name p [] name there e = absurd (true≢false (sym there))
any_name p (x ∷ xs) name there e = elim (or_cases _ _ there) [
  | inl here ↦ let is : p x ≡ true = ap p (sym (same_name name x here))
      ∙ e in ap (λ b. b || list_any p xs) is
  | inr later ↦ or_right _ _ (any_name p xs name later e)
]

-- without the entry of a name, that name leads to none, and each other name to its own
pub linked-without_same : (h : Links) (a : List ℕ) → linked (links_without h a) a ≡ []
linked-without_same [] a = refl
linked-without_same (e ∷ es) a =
    elim (name_eq a e.0) as (λ b. name_eq a e.0 ≡ b
    → linked (cond (not b) (e ∷ links_without es a) (links_without es a)) a ≡ []) [
      | true ↦ λ _. linked-without_same es a
      | false ↦ λ apart. ap (λ b. cond b e.1 (linked (links_without es a) a)) apart
          ∙ linked-without_same es a
    ] refl

pub linked-without_other : (h : Links) (a c : List ℕ) → name_eq a c ≡ false
    → linked (links_without h a) c ≡ linked h c
linked-without_other [] a c apart = refl
linked-without_other (e ∷ es) a c apart =
    elim (name_eq a e.0) as (λ b. name_eq a e.0 ≡ b
    → linked (cond (not b) (e ∷ links_without es a) (links_without es a)) c
    ≡ cond (name_eq c e.0) e.1 (linked es c)) [
      | true ↦ λ at. linked-without_other es a c apart
          ∙ ap (λ b. cond b e.1 (linked es c)) (sym (other at))
      | false ↦ λ _. ap (cond (name_eq c e.0) e.1) (linked-without_other es a c apart)
    ] refl
  where
    other : name_eq a e.0 ≡ true → name_eq c e.0 ≡ false
    other at = elim (name_eq c e.0) as (λ b. name_eq c e.0 ≡ b → b ≡ false) [
      | true ↦ λ also. absurd (true≢false
          (sym ((bytes_decides a c).1 (same_name a e.0 at ∙ sym (same_name c e.0 also))) ∙ apart))
      | false ↦ λ _. refl
    ] refl

-- a link without the entry of a name is a link
pub weaken_link : (h : Links) (a c d : List ℕ) → is_linked (links_without h a) c d ≡ true
    → is_linked h c d ≡ true
weaken_link h a c d link =
    elim (name_eq a c) as (λ b. name_eq a c ≡ b → is_linked h c d ≡ true) [
      | true ↦ λ at. absurd (true≢false
          (sym link ∙ ap (λ k. contains_name (linked (links_without h a) k) d)
          (sym (same_name a c at)) ∙ ap (λ l. contains_name l d) (linked-without_same h a)))
      | false ↦ λ apart. ap (λ l. contains_name l d) (sym (linked-without_other h a c apart)) ∙ link
    ] refl

pub weaken : (h : Links) (a c d : List ℕ) → Leads (links_without h a) c d → Leads h c d
weaken h a c d same = same
weaken h a c d (chain {middle = m} link rest) =
    chain (weaken_link h a c m link) (weaken h a m d rest)

-- a chain avoids the links of a, or a itself leads on by a chain that does
pub avoids : (h : Links) (a c d : List ℕ) → Leads h c d → Leads (links_without h a) c d
    ⊎ ((j : List ℕ) × (is_linked h a j ≡ true) × Leads (links_without h a) j d)
avoids h a c d same = inl same
avoids h a c d (chain {middle = m} link rest) = elim (avoids h a m d rest) [
  | inr found ↦ inr found
  | inl below ↦ elim (name_eq a c) as (λ b. name_eq a c ≡ b → Leads (links_without h a) c d
      ⊎ ((j : List ℕ) × (is_linked h a j ≡ true) × Leads (links_without h a) j d)) [
        | true ↦ λ at. inr (m, ap (λ k. is_linked h k m) (same_name a c at) ∙ link, below)
        | false ↦ λ apart. inl (chain (ap (λ l. contains_name l m)
            (linked-without_other h a c apart)
            ∙ link) below)
      ] refl
]

-- a chain from a name without links is empty
stays : (h : Links) (c d : List ℕ) → linked h c ≡ [] → Leads h c d → c ≡ d
stays h c d none same = refl
stays h c d none (chain {middle = m} link rest) =
    absurd (true≢false (sym link ∙ ap (λ l. contains_name l m) none))

no_longer : (h : Links) (a : List ℕ) → length (links_without h a) ≤ length h
no_longer [] a = omega arith
no_longer (e ∷ es) a =
    let rest = no_longer es a in
    elim (name_eq a e.0) as (λ b. length
    (cond (not b) (e ∷ links_without es a) (links_without es a)) ≤ suc (length es))
    [ true ↦ omega arith | false ↦ omega arith ]

-- one entry less
shorter : (h : Links) (a j : List ℕ) → is_linked h a j ≡ true
    → length (links_without h a) < length h
shorter [] a j link = absurd (true≢false (sym link))
shorter (e ∷ es) a j link =
    elim (name_eq a e.0) as (λ b. contains_name (cond b e.1 (linked es a)) j ≡ true
    → length (cond (not b) (e ∷ links_without es a) (links_without es a)) < suc (length es)) [
      | true ↦ λ _. let fewer = no_longer es a in omega arith
      | false ↦ λ later. let fewer = shorter es a j later in omega arith
    ] link

leads_in-sound : (n : ℕ) (h : Links) (a b : List ℕ) → leads_in n h a b ≡ true → Leads h a b
leads_in-sound zero h a b e = subst (Leads h a) (same_name a b e) same
leads_in-sound (suc n) h a b e = elim (or_cases _ _ e) [
  | inl here ↦ subst (Leads h a) (same_name a b here) same
  | inr there ↦ let found = some_name _ (linked h a) there in
      chain found.1 (weaken h a found.0 b (leads_in-sound n (links_without h a) found.0 b found.2))
]

leads_in-complete : (n : ℕ) (h : Links) (a b : List ℕ) → length h ≤ n → Leads h a b
    → leads_in n h a b ≡ true
leads_in-complete zero [] a b small down = (bytes_decides a b).1 (stays [] a b refl down)
leads_in-complete zero (e ∷ es) a b small down = absurd (omega arith)
leads_in-complete (suc n) h a b small down = elim (avoids h a a b down) [
  | inl below ↦
      let is : name_eq a b ≡ true = (bytes_decides a b).1
      (stays (links_without h a) a b (linked-without_same h a) below) in
      ap (λ t. t || list_any (λ m. leads_in n (links_without h a) m b) (linked h a)) is
  | inr found ↦
      let fewer = shorter h a found.0 found.1 in
      or_right _ _ (any_name _ (linked h a) found.0 found.1
      (leads_in-complete n (links_without h a) found.0 b (omega arith) found.2))
]

pub leads-sound : (h : Links) (a b : List ℕ) → leads h a b ≡ true → Leads h a b
unfolding leads
leads-sound h a b e = leads_in-sound (length h) h a b e

pub leads-complete : (h : Links) (a b : List ℕ) → Leads h a b → leads h a b ≡ true
unfolding leads
leads-complete h a b down = leads_in-complete (length h) h a b (omega arith) down

pub chain-trans : (h : Links) (a b c : List ℕ) → Leads h a b → Leads h b c → Leads h a c
chain-trans h a b c same down = down
chain-trans h a b c (chain {middle = m} link rest) down = chain link (chain-trans h m b c rest down)

pub leads-trans : (h : Links) (a b c : List ℕ) → leads h a b ≡ true → leads h b c ≡ true
    → leads h a c ≡ true
leads-trans h a b c p q =
    leads-complete h a c (chain-trans h a b c (leads-sound h a b p) (leads-sound h b c q))
