-- A waiver that is asked for or signed changes only what is seen of one marker.
use Rattle.std.proofs.Common.{◌≡◌, ◌∙◌, ℕ, zero, suc, ◌+◌, ◌≤◌, Bool, true, false, cond, List, [], ◌∷◌, ◌++◌, map, slice_get, Option, None, Some, refl, sym, ap, subst, arith}
use Rattle.std.proofs.lemmas.List.{map-append}
use Rattle.std.proofs.lemmas.Option.{none-some, same_Some}
use Rattle.mpw_hier.specs.declared.submission.Submission.{Submission}
use Rattle.mpw_markers.specs.declared.marker.Key.{Key}
use Rattle.mpw_markers.specs.declared.marker.Marker.{Marker}
use Rattle.mpw_markers.specs.Markers.{key_eq}
use Rattle.mpw_roles.specs.Hierarchy.{Name}
use Rattle.mpw_replies.specs.Sight.{is_full}
use Rattle.mpw_waiver.specs.declared.waiver.Waiver.{Waiver}
use Rattle.mpw_waiver.specs.Waivers.{waiver_at}
use Rattle.mpw_secrecy.specs.Views.{MarkerSeen, marker_of, marker_seen, markers_seen}

-- no marker of the book other than the one at that index has the key
abbrev pub IsOnlyAt : List Marker → Key → ℕ → Type 0
IsOnlyAt book key i =
    (j : ℕ) (m : Marker) → slice_get book j ≡ Some m → key_eq m.key key ≡ true → j ≡ i

-- none has it
abbrev pub IsNowhere : List Marker → Key → Type 0
IsNowhere book key =
    (j : ℕ) (m : Marker) → slice_get book j ≡ Some m → key_eq m.key key ≡ false

never_true : (b : Bool) → (b ≡ true → ⊥) → b ≡ false
never_true true never = absurd (never refl)
never_true false never = refl

-- what is seen with another waiver of the marker of the key
abbrev pub with_waiver : Key → (Option Waiver → Option Waiver) → MarkerSeen → MarkerSeen
with_waiver key change seen =
    cond (key_eq seen.key key) (record {
      key = seen.key;
      cells = seen.cells;
      own = seen.own;
      waiver = change seen.waiver;
    }) seen

-- the marker of the key, if it is seen
pub marker_with : Key → List MarkerSeen → Option MarkerSeen
marker_with key [] = None
marker_with key (seen ∷ rest) = cond (key_eq seen.key key) (Some seen) (marker_with key rest)

module _ (shelf : List Submission) (seen : List Bool) (user : Name) (key : Key) where
  abbrev Nowhere : List Marker → Type 0
  Nowhere book = IsNowhere book key

  below : (m : Marker) (book : List Marker) → IsNowhere (m ∷ book) key → Nowhere book
  below m book none j n at = none (suc j) n at

  -- ---- the marker of a key

  pub seen_nowhere : (waivers : List (Option Waiver)) (place : ℕ) (book : List Marker)
      → Nowhere book
      → marker_with key (markers_seen shelf seen user waivers place book) ≡ None
  unfolding markers_seen marker_with
  seen_nowhere waivers place [] none = refl
  seen_nowhere waivers place (m ∷ book) none =
      elim (is_full seen m) as (λ b. marker_with key
      (cond b (marker_of shelf user m (waiver_at waivers place) ∷ []) []
      ++ markers_seen shelf seen user waivers (place + 1) book) ≡ None) [
        | true ↦
            ap (λ t. cond t (Some (marker_of shelf user m (waiver_at waivers place)))
            (marker_with key (markers_seen shelf seen user waivers (place + 1) book)))
            (none 0 m refl)
            ∙ seen_nowhere waivers (place + 1) book (below m book none)
        | false ↦ seen_nowhere waivers (place + 1) book (below m book none)
      ]

  pub seen_at_place : (waivers : List (Option Waiver)) (place i : ℕ) (m : Marker)
      (book : List Marker) → slice_get book i ≡ Some m → key_eq m.key key ≡ true
      → IsOnlyAt book key i → marker_with key (markers_seen shelf seen user waivers place book)
      ≡ cond (is_full seen m) (Some (marker_of shelf user m (waiver_at waivers (place + i))))
      None
  unfolding markers_seen marker_with
  seen_at_place waivers place i m [] at is only = absurd (none-some m at)
  seen_at_place waivers place zero m (n ∷ book) at is only =
      let same : n ≡ m = same_Some n m at in
      let none : Nowhere book = λ j k there. never_true (key_eq k.key key)
      (λ has. absurd (omega (arith, only (suc j) k there has))) in
      let rest = markers_seen shelf seen user waivers (place + 1) book in
      let here : place ≡ place + 0 = omega arith in
      subst (λ (k : Marker). marker_with key
      (marker_seen shelf seen user k (waiver_at waivers place) ++ rest) ≡ cond (is_full seen m)
      (Some (marker_of shelf user m (waiver_at waivers (place + 0)))) None) (sym same)
      (subst (λ p. marker_with key (marker_seen shelf seen user m (waiver_at waivers place) ++ rest)
      ≡ cond (is_full seen m) (Some (marker_of shelf user m (waiver_at waivers p))) None) here
      (elim (is_full seen m) as (λ b. marker_with key
      (cond b (marker_of shelf user m (waiver_at waivers place) ∷ []) [] ++ rest)
      ≡ cond b (Some (marker_of shelf user m (waiver_at waivers place))) None) [
        | true ↦ ap (λ t. cond t (Some (marker_of shelf user m (waiver_at waivers place)))
            (marker_with key rest)) is
        | false ↦ seen_nowhere waivers (place + 1) book none
      ]))
  seen_at_place waivers place (suc i) m (n ∷ book) at is only =
      let apart : key_eq n.key key ≡ false = never_true (key_eq n.key key)
      (λ has. absurd (omega (arith, only 0 n refl has))) in
      let later : IsOnlyAt book key i = λ j k there has. omega (arith, only (suc j) k there has) in
      let rest = markers_seen shelf seen user waivers (place + 1) book in
      let told = cond (is_full seen m) (Some
      (marker_of shelf user m (waiver_at waivers ((place + 1) + i)))) None in
      let behind : marker_with key rest ≡ told = seen_at_place waivers (place + 1) i m book at is
      later in
      let e : (place + 1) + i ≡ place + suc i = omega arith in
      subst (λ p. marker_with key (marker_seen shelf seen user n (waiver_at waivers place) ++ rest)
      ≡ cond (is_full seen m) (Some (marker_of shelf user m (waiver_at waivers p))) None) e
      (elim (is_full seen n) as (λ b. marker_with key
      (cond b (marker_of shelf user n (waiver_at waivers place) ∷ []) [] ++ rest) ≡ told) [
        | true ↦ ap (λ t. cond t (Some (marker_of shelf user n (waiver_at waivers place)))
            (marker_with key rest)) apart ∙ behind
        | false ↦ behind
      ])

  -- ---- another waiver of it

  -- one more marker, whose key and waiver stay
  kept_one : (change : Option Waiver → Option Waiver) (m : Marker) (old new : Option Waiver)
      → key_eq m.key key ≡ false → new ≡ old
      → marker_seen shelf seen user m new ≡ map (with_waiver key change)
      (marker_seen shelf seen user m old)
  kept_one change m old new apart e =
      elim (is_full seen m) as (λ b. cond b (marker_of shelf user m new ∷ []) []
      ≡ map (with_waiver key change) (cond b (marker_of shelf user m old ∷ []) [])) [
        | true ↦
            ap (λ w. marker_of shelf user m w ∷ []) e
            ∙ ap (λ t. cond t (marker_of shelf user m (change old)) (marker_of shelf user m old)
            ∷ []) (sym apart)
        | false ↦ refl
      ]

  changed_one : (change : Option Waiver → Option Waiver) (m : Marker) (old new : Option Waiver)
      → key_eq m.key key ≡ true → new ≡ change old
      → marker_seen shelf seen user m new ≡ map (with_waiver key change)
      (marker_seen shelf seen user m old)
  changed_one change m old new has e =
      elim (is_full seen m) as (λ b. cond b (marker_of shelf user m new ∷ []) []
      ≡ map (with_waiver key change) (cond b (marker_of shelf user m old ∷ []) [])) [
        | true ↦
            ap (λ w. marker_of shelf user m w ∷ []) e
            ∙ ap (λ t. cond t (marker_of shelf user m (change old)) (marker_of shelf user m old)
            ∷ []) (sym has)
        | false ↦ refl
      ]

  -- the markers after it, which all stay
  kept_behind : (change : Option Waiver → Option Waiver) (old new : List (Option Waiver))
      (place : ℕ) (book : List Marker) → Nowhere book
      → ((k : ℕ) → place ≤ k → waiver_at new k ≡ waiver_at old k)
      → markers_seen shelf seen user new place book ≡ map (with_waiver key change)
      (markers_seen shelf seen user old place book)
  unfolding markers_seen
  kept_behind change old new place [] none alike = refl
  kept_behind change old new place (m ∷ book) none alike =
      (λ i. kept_one change m (waiver_at old place) (waiver_at new place) (none 0 m refl)
      (alike place (omega arith)) i
      ++ kept_behind change old new (place + 1) book (below m book none)
      (λ k l. alike k (omega (arith, l))) i)
      ∙ sym (map-append (with_waiver key change)
      (marker_seen shelf seen user m (waiver_at old place))
      (markers_seen shelf seen user old (place + 1) book))

  pub changed_at : (change : Option Waiver → Option Waiver) (old new : List (Option Waiver))
      (place i : ℕ) (m : Marker) (book : List Marker)
      → slice_get book i ≡ Some m → key_eq m.key key ≡ true → IsOnlyAt book key i
      → waiver_at new (place + i) ≡ change (waiver_at old (place + i))
      → ((k : ℕ) → (k ≡ place + i → ⊥) → waiver_at new k ≡ waiver_at old k)
      → markers_seen shelf seen user new place book ≡ map (with_waiver key change)
      (markers_seen shelf seen user old place book)
  unfolding markers_seen
  changed_at change old new place i m [] at is only changed alike = absurd (none-some m at)
  changed_at change old new place zero m (n ∷ book) at is only changed alike =
      let same : n ≡ m = same_Some n m at in
      let none : Nowhere book = λ j k there. never_true (key_eq k.key key)
      (λ has. absurd (omega (arith, only (suc j) k there has))) in
      let here : place + 0 ≡ place = omega arith in
      (λ i. changed_one change n (waiver_at old place) (waiver_at new place)
      (ap (λ (k : Marker). key_eq k.key key) same ∙ is)
      (subst (λ p. waiver_at new p ≡ change (waiver_at old p)) here changed) i
      ++ kept_behind change old new (place + 1) book none
      (λ k l. alike k (λ e. omega (arith, l, e))) i)
      ∙ sym (map-append (with_waiver key change)
      (marker_seen shelf seen user n (waiver_at old place))
      (markers_seen shelf seen user old (place + 1) book))
  changed_at change old new place (suc i) m (n ∷ book) at is only changed alike =
      let apart : key_eq n.key key ≡ false = never_true (key_eq n.key key)
      (λ has. absurd (omega (arith, only 0 n refl has))) in
      let later : IsOnlyAt book key i = λ j k there has. omega (arith, only (suc j) k there has) in
      let e : place + suc i ≡ (place + 1) + i = omega arith in
      (λ t. kept_one change n (waiver_at old place) (waiver_at new place) apart
      (alike place (λ q. omega (arith, q))) t
      ++ changed_at change old new (place + 1) i m book at is later
      (subst (λ p. waiver_at new p ≡ change (waiver_at old p)) e changed)
      (λ k q. alike k (λ r. q (r ∙ e))) t)
      ∙ sym (map-append (with_waiver key change)
      (marker_seen shelf seen user n (waiver_at old place))
      (markers_seen shelf seen user old (place + 1) book))
