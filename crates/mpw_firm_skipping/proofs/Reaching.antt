-- The names that one name reaches, one pass over the links after another.
use Rattle.std.proofs.Common.{◌≡◌, ◌∙◌, ◌+◌, ◌||◌, ◌&&◌, ◌⊎◌, ℕ, List, [], ◌∷◌, ◌++◌, length, Bool, true, false, refl, sym, ap, subst, inl, inr, arith, length-append}
use Rattle.std.specs.Cmp.Lexicographic.{bytes_decides}
use Rattle.std.proofs.lemmas.List.Folds.{list_any-append}
use Rattle.mpw_geom.specs.Names.{name_eq}
use Rattle.mpw_firm_skipping.specs.Internal.Passes.{AreLed, AreSome, IsPass}
use Rattle.mpw_firm_skipping.specs.Structures.{AreReached, Leads, Link, has_name, is_link, is_linked}
use Rattle.mpw_firm_skipping.specs.Structures.Leads.{here, on}

-- ---- one more

or_cases : (a b : Bool) → (a || b) ≡ true → (a ≡ true) ⊎ (b ≡ true)
or_cases true b e = inl refl
or_cases false b e = inr e

or_none : (a : Bool) → (a || false) ≡ a
or_none true = refl
or_none false = refl

or_left : (a b : Bool) → a ≡ true → (a || b) ≡ true
or_left a b e = rw e refl

or_right : (a b : Bool) → b ≡ true → (a || b) ≡ true
or_right true b e = refl
or_right false b e = e

pub has_more : (names : List (List ℕ)) (new name : List ℕ)
    → has_name (names ++ (new ∷ [])) name ≡ (has_name names name || name_eq name new)
has_more names new name =
    list_any-append (name_eq name) names (new ∷ [])
    ∙ ap (λ b. has_name names name || b) (or_none (name_eq name new))

pub linked_more : (links : List Link) (l : Link) (from to : List ℕ)
    → is_linked (links ++ (l ∷ [])) from to ≡ (is_linked links from to || is_link from to l)
linked_more links l from to =
    list_any-append (is_link from to) links (l ∷ [])
    ∙ ap (λ b. is_linked links from to || b) (or_none (is_link from to l))

both : (a b : Bool) → (a && b) ≡ true → (a ≡ true) × (b ≡ true)
both true true e = (refl, refl)
both true false e = absurd cc
both false b e = absurd cc

-- The link is the named one.
is_that : (l : Link) (from to : List ℕ) → is_link from to l ≡ true → (l.0 ≡ from) × (l.1 ≡ to)
is_that l from to e =
    let h = both (name_eq l.0 from) (name_eq l.1 to) e in
    ((bytes_decides l.0 from).0 h.0, (bytes_decides l.1 to).0 h.1)

own_link : (l : Link) → is_link l.0 l.1 l ≡ true
own_link l = rw ((bytes_decides l.0 l.0).1 refl, (bytes_decides l.1 l.1).1 refl) refl

has_in : (names : List (List ℕ)) (new name : List ℕ) → has_name names name ≡ true
    → has_name (names ++ (new ∷ [])) name ≡ true
has_in names new name h = has_more names new name ∙ or_left (has_name names name) _ h

has_new : (names : List (List ℕ)) (new : List ℕ) → has_name (names ++ (new ∷ [])) new ≡ true
has_new names new =
    has_more names new new
    ∙ or_right (has_name names new) _ ((bytes_decides new new).1 refl)

has_cases : (names : List (List ℕ)) (new name : List ℕ)
    → has_name (names ++ (new ∷ [])) name ≡ true → (has_name names name ≡ true) ⊎ (name ≡ new)
has_cases names new name e =
    elim (or_cases (has_name names name) (name_eq name new) (sym (has_more names new name) ∙ e)) [
      | inl h ↦ inl h
      | inr h ↦ inr ((bytes_decides name new).0 h)
    ]

linked_in : (links : List Link) (l : Link) (from to : List ℕ) → is_linked links from to ≡ true
    → is_linked (links ++ (l ∷ [])) from to ≡ true
linked_in links l from to h = linked_more links l from to ∙ or_left (is_linked links from to) _ h

linked_new : (links : List Link) (l : Link) → is_linked (links ++ (l ∷ [])) l.0 l.1 ≡ true
linked_new links l = linked_more links l l.0 l.1 ∙ or_right (is_linked links l.0 l.1) _ (own_link l)

linked_cases : (links : List Link) (l : Link) (from to : List ℕ)
    → is_linked (links ++ (l ∷ [])) from to ≡ true
    → (is_linked links from to ≡ true) ⊎ ((l.0 ≡ from) × (l.1 ≡ to))
linked_cases links l from to e =
    elim (or_cases (is_linked links from to) (is_link from to l)
    (sym (linked_more links l from to) ∙ e)) [
      | inl h ↦ inl h
      | inr h ↦ inr (is_that l from to h)
    ]

one_more : {A : Type 0} (xs : List A) (x : A) → length (xs ++ (x ∷ [])) ≡ length xs + 1
one_more xs x = length-append xs (x ∷ [])

-- ---- a pass

-- A link goes to the left ones if the name of its structure isn't in the list.
pub pass_left : (before names : List (List ℕ)) (passed left : List Link) (l : Link)
    → IsPass before names passed left → has_name names l.0 ≡ false
    → IsPass before names (passed ++ (l ∷ [])) (left ++ (l ∷ []))
pass_left before names passed left l p absent = record {
  kept = p.kept;
  handled = λ from to h. elim (linked_cases passed l from to h) [
    | inl old ↦ elim (p.handled from to old) [
      | inl waits ↦ inl (linked_in left l from to waits)
      | inr there ↦ inr there
    ]
    | inr is ↦ inl (subst (λ f. is_linked (left ++ (l ∷ [])) f to ≡ true) is.0
        (subst (λ t. is_linked (left ++ (l ∷ [])) l.0 t ≡ true) is.1 (linked_new left l)))
  ];
  within = λ from to h. elim (linked_cases left l from to h) [
    | inl old ↦ linked_in passed l from to (p.within from to old)
    | inr is ↦ subst (λ f. is_linked (passed ++ (l ∷ [])) f to ≡ true) is.0
        (subst (λ t. is_linked (passed ++ (l ∷ [])) l.0 t ≡ true) is.1 (linked_new passed l))
  ];
  led = λ all top led some. p.led all top led (λ from to h. some from to (linked_in passed l from to h));
  shorter = omega (arith, one_more left l, one_more passed l, p.shorter);
  idle = λ same from to h. elim (linked_cases passed l from to h) [
    | inl old ↦ p.idle (omega (arith, same, one_more left l, one_more passed l)) from to old
    | inr is ↦ subst (λ f. has_name names f ≡ false) is.0 absent
  ];
}

-- A link whose names are both in the list adds nothing.
pub pass_there : (before names : List (List ℕ)) (passed left : List Link) (l : Link)
    → IsPass before names passed left → has_name names l.1 ≡ true
    → IsPass before names (passed ++ (l ∷ [])) left
pass_there before names passed left l p there = record {
  kept = p.kept;
  handled = λ from to h. elim (linked_cases passed l from to h) [
    | inl old ↦ p.handled from to old
    | inr is ↦ inr (subst (λ t. has_name names t ≡ true) is.1 there)
  ];
  within = λ from to h. linked_in passed l from to (p.within from to h);
  led = λ all top led some. p.led all top led (λ from to h. some from to (linked_in passed l from to h));
  shorter = omega (arith, one_more passed l, p.shorter);
  idle = λ same from to h. absurd (omega (arith, same, one_more passed l, p.shorter));
}

-- A link whose structure's name is in the list adds the other name.
pub pass_added : (before names : List (List ℕ)) (passed left : List Link) (l : Link)
    → IsPass before names passed left → has_name names l.0 ≡ true
    → IsPass before (names ++ (l.1 ∷ [])) (passed ++ (l ∷ [])) left
pass_added before names passed left l p there = record {
  kept = λ name h. has_in names l.1 name (p.kept name h);
  handled = λ from to h. elim (linked_cases passed l from to h) [
    | inl old ↦ elim (p.handled from to old) [
      | inl waits ↦ inl waits
      | inr has ↦ inr (has_in names l.1 to has)
    ]
    | inr is ↦ inr (subst (λ t. has_name (names ++ (l.1 ∷ [])) t ≡ true) is.1 (has_new names l.1))
  ];
  within = λ from to h. linked_in passed l from to (p.within from to h);
  led = λ all top led some name h.
      let old = p.led all top led (λ from to h. some from to (linked_in passed l from to h)) in
      elim (has_cases names l.1 name h) [
        | inl has ↦ old name has
        | inr is ↦ subst (λ n. Leads all top n) (sym is)
            (on (old l.0 there) (some l.0 l.1 (linked_new passed l)))
      ];
  shorter = omega (arith, one_more passed l, p.shorter);
  idle = λ same from to h. absurd (omega (arith, same, one_more passed l, p.shorter));
}

-- ---- all passes

-- Each link waits, or its name is in the list; and the list has no other names.
pub record IsOnTheWay (links : List Link) (top : List ℕ) (waiting : List Link)
    (names : List (List ℕ)) : Type 0 where
  pub first : has_name names top ≡ true
  pub handled : (from to : List ℕ) → is_linked links from to ≡ true
      → (is_linked waiting from to ≡ true) ⊎ (has_name names to ≡ true)
  pub within : AreSome waiting links
  pub led : AreLed links top names

pub way_begins : (links : List Link) (top : List ℕ) → IsOnTheWay links top links (top ∷ [])
way_begins links top = record {
  first = rw ((bytes_decides top top).1 refl) refl;
  handled = λ from to h. inl h;
  within = λ from to h. h;
  led = λ name h. subst (λ n. Leads links top n)
      (sym ((bytes_decides name top).0 (sym (or_none (name_eq name top)) ∙ h))) here;
}

pub way_goes : (links : List Link) (top : List ℕ) (waiting left : List Link)
    (before names : List (List ℕ)) → IsOnTheWay links top waiting before
    → IsPass before names waiting left → IsOnTheWay links top left names
way_goes links top waiting left before names w p = record {
  first = p.kept top w.first;
  handled = λ from to h. elim (w.handled from to h) [
    | inl waits ↦ p.handled from to waits
    | inr has ↦ inr (p.kept to has)
  ];
  within = λ from to h. w.within from to (p.within from to h);
  led = p.led links top w.led w.within;
}

never : (a : Bool) (A : Type 0) → a ≡ true → a ≡ false → A
never a A t f = absurd cc

-- A pass that adds nothing is the last.
pub way_ends : (links : List Link) (top : List ℕ) (waiting left : List Link)
    (before names : List (List ℕ)) → IsOnTheWay links top waiting before
    → IsPass before names waiting left → length left ≡ length waiting
    → AreReached links top names
way_ends links top waiting left before names w p same =
    let next = way_goes links top waiting left before names w p in
    record { each_is_led_to = next.led; each_led_to_is = found }
  where
    found : (name : List ℕ) → Leads links top name → has_name names name ≡ true
    found name here = p.kept top w.first
    found name (on {middle = middle} chain link) =
        elim (w.handled middle name link) [
          | inl waits ↦ never (has_name names middle) _ (found middle chain) (p.idle same middle name waits)
          | inr has ↦ p.kept name has
        ]
