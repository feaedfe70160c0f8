-- What the markers of keys touch.
use Rattle.std.proofs.Common.{◌≡◌, ℕ, ◌<◌, ◌≤◌, ◌+◌, Bool, true, false, List, [], ◌∷◌, ◌++◌, length, get_or, take, map, ◌⊎◌, inl, inr, refl, sym, subst, ap, ◌∙◌, arith}
use Rattle.std.specs.Prelude.{Contains, All, MatchBool, ◌↔◌}
use Rattle.std.proofs.lemmas.Bool.{false≢true}
use Rattle.std.proofs.lemmas.Int.{ints}
use Rattle.std.proofs.lemmas.List.{take_more, take_all, length-map, get_or-map}
use Rattle.std.proofs.lemmas.List.Elements.{All-nil, All-push, Contains-append_left, Contains-append_right, Contains-push_cases, All-contains}
use Rattle.mpw_geom.specs.declared.plane.Box2.{Box2}
use Rattle.mpw_geom.specs.Plane.{HasArea, Square, has_square}
use Rattle.mpw_geom.proofs.Tests.{SquareIn-from_test}
use Rattle.mpw_tiles.specs.declared.listing.Rectangle.{Rectangle}
use Rattle.mpw_markers.specs.declared.search.Rectangle.{Rectangle as Located}
use Rattle.mpw_markers.specs.Origins.{OriginHasSquare, AreMetOrigins}
use Rattle.mpw_markers.specs.declared.marker.Key.{Key}
use Rattle.mpw_markers.specs.declared.marker.Marker.{Marker}
use Rattle.mpw_markers.specs.Met.{IsAscending}
use Rattle.mpw_geom.specs.Meeting.{IsMet}
use Rattle.mpw_tiles.specs.Listing.{HasListed}
use Rattle.mpw_job.specs.Answers.{TellsMet}
use Rattle.mpw_work.specs.Internal.Found.{key_of, met_of, key_box, TellMet, MeetsSome, AreMarkersOfKeys}

-- ---- rectangles with squares

abbrev pub located : Rectangle → Located
located r = record { area = r.area; origin = r.origin }

-- the rectangles have the squares of those listed, each of them some
pub record AreThose (listed : List Rectangle) (found : List Located) : Type 0 where
  pub areas : All (λ (r : Located). HasArea r.area) found
  pub squares : (origin : ℕ) (s : Square) → OriginHasSquare found origin s
      ↔ HasListed listed origin s

-- the result of the test of an area
pub yes_area : (answer : Bool) (b : Box2) → answer ≡ true
    → MatchBool answer (HasArea b) (HasArea b → ⊥) → HasArea b
yes_area true b e h = h
yes_area false b e h = absurd (false≢true e)

pub no_area : (answer : Bool) (b : Box2) → answer ≡ false
    → MatchBool answer (HasArea b) (HasArea b → ⊥) → HasArea b → ⊥
no_area true b e h = absurd (false≢true (sym e))
no_area false b e h = h

area_from : (area : Box2) (s : Square) → has_square area s ≡ true → HasArea area
area_from area s e =
    let i = SquareIn-from_test area s e in
    let i0 = i.left in
    let i1 = i.right in
    let i2 = i.bottom in
    let i3 = i.top in
    record { width = omega (arith, ints); height = omega (arith, ints) }

was_there : (xs : List Rectangle) (n : ℕ) (d : Rectangle) (origin : ℕ) (s : Square) → n < length xs
    → HasListed (take n xs) origin s → HasListed (take (n + 1) xs) origin s
was_there xs n d origin s lt h = (
  h.0,
  subst (λ (ys : List Rectangle). Contains ys h.0) (sym (take_more xs n d lt))
      (Contains-append_left (take n xs) (get_or xs n d ∷ []) h.0 h.1),
  h.2,
  h.3,
)

is_there : (xs : List Rectangle) (n : ℕ) (d : Rectangle) → n < length xs
    → Contains (take (n + 1) xs) (get_or xs n d)
is_there xs n d lt =
    subst (λ (ys : List Rectangle). Contains ys (get_or xs n d)) (sym (take_more xs n d lt))
    (Contains-append_right (take n xs) (get_or xs n d ∷ []) (get_or xs n d) (0, omega arith, refl))

there : (xs : List Rectangle) (n : ℕ) (d x : Rectangle) → n < length xs
    → Contains (take (n + 1) xs) x → Contains (take n xs) x ⊎ (get_or xs n d ≡ x)
there xs n d x lt c = Contains-push_cases (take n xs) (get_or xs n d) x
    (subst (λ (ys : List Rectangle). Contains ys x) (take_more xs n d lt) c)

pub none_yet : (listed : List Rectangle) → AreThose (take 0 listed) []
none_yet listed = record {
  areas = All-nil (λ (r : Located). HasArea r.area);
  squares = λ origin s. (λ h. absurd (omega (arith, h.1.1)), λ h. absurd (omega (arith, h.1.1)));
}

pub one_more : (listed : List Rectangle) (n : ℕ) (d : Rectangle) (found : List Located)
    → n < length listed → AreThose (take n listed) found
    → HasArea (get_or listed n d).area
    → AreThose (take (n + 1) listed) (found ++ located (get_or listed n d) ∷ [])
one_more listed n d found lt h area = record {
  areas =
      All-push (λ (r : Located). HasArea r.area) found (located (get_or listed n d)) h.areas area;
  squares = λ origin s. (to origin s, from origin s);
}
  where
    to : (origin : ℕ) (s : Square) → OriginHasSquare (found ++ located (get_or listed n d) ∷ [])
        origin
        s → HasListed (take (n + 1) listed) origin s
    to origin s k = elim (Contains-push_cases found (located (get_or listed n d)) k.0 k.1) [
      | inl c ↦ was_there listed n d origin s lt ((h.squares origin s).0 (k.0, c, k.2, k.3))
      | inr e ↦ (
        get_or listed n d,
        is_there listed n d lt,
        ap (λ (r : Located). r.origin) e ∙ k.2,
        ap (λ (r : Located). has_square r.area s) e ∙ k.3,
      )
    ]

    from : (origin : ℕ) (s : Square) → HasListed (take (n + 1) listed) origin s
        → OriginHasSquare (found ++ located (get_or listed n d) ∷ []) origin s
    from origin s k = elim (there listed n d k.0 lt k.1) [
      | inl c ↦ let m = (h.squares origin s).1 (k.0, c, k.2, k.3) in
          (m.0, Contains-append_left found (located (get_or listed n d) ∷ []) m.0 m.1, m.2, m.3)
      | inr e ↦ (
        located (get_or listed n d),
        Contains-append_right found (located (get_or listed n d) ∷ []) (located (get_or listed n d))
            (0, omega arith, refl),
        ap (λ (r : Rectangle). r.origin) e ∙ k.2,
        ap (λ (r : Rectangle). has_square r.area s) e ∙ k.3,
      )
    ]

pub passed_over : (listed : List Rectangle) (n : ℕ) (d : Rectangle) (found : List Located)
    → n < length listed → AreThose (take n listed) found
    → (HasArea (get_or listed n d).area → ⊥) → AreThose (take (n + 1) listed) found
passed_over listed n d found lt h never = record {
  areas = h.areas;
  squares =
      λ origin s. (λ k. was_there listed n d origin s lt ((h.squares origin s).0 k), from origin s);
}
  where
    from : (origin : ℕ) (s : Square) → HasListed (take (n + 1) listed) origin s
        → OriginHasSquare found origin s
    from origin s k = elim (there listed n d k.0 lt k.1) [
      | inl c ↦ (h.squares origin s).1 (k.0, c, k.2, k.3)
      | inr e ↦ absurd (never (area_from (get_or listed n d).area s
          (ap (λ (r : Rectangle). has_square r.area s) e ∙ k.3)))
    ]

pub all_of : (listed : List Rectangle) (n : ℕ) (found : List Located) → length listed ≤ n
    → AreThose (take n listed) found → AreThose listed found
all_of listed n found le h =
    subst (λ (xs : List Rectangle). AreThose xs found) (take_all n listed le) h

-- ---- the origins that are touched

met_alike : (listed : List Rectangle) (found : List Located) (b : Box2) (origin : ℕ)
    → AreThose listed found
    → IsMet (OriginHasSquare found) b origin ↔ IsMet (HasListed listed) b origin
met_alike listed found b origin h =
    (λ m. (m.0, (h.squares origin m.0).0 m.1, m.2), λ m. (m.0, (h.squares origin m.0).1 m.1, m.2))

pub tell_met : (listed : List Rectangle) (found : List Located) (keys : List Key)
    (boxes : List Box2) (mets : List (List ℕ)) → AreThose listed found
    → boxes ≡ map key_box keys → AreMetOrigins found boxes mets → TellMet listed keys mets
tell_met listed found keys boxes mets h e a = record {
  count = a.count ∙ ap (λ (bs : List Box2). length bs) e ∙ length-map keys key_box;
  ascending = a.ascending;
  met = met;
}
  where
    met : (k origin : ℕ) (d : Key) → k < length keys → Contains (get_or mets k []) origin
        ↔ IsMet (HasListed listed) (key_box (get_or keys k d)) origin
    met k origin d lt =
        let same : length boxes ≡ length keys = ap (λ (bs : List Box2). length bs) e
        ∙ length-map keys key_box in
        let box : get_or boxes k (key_box d) ≡ key_box (get_or keys k d) =
        ap (λ (bs : List Box2). get_or bs k (key_box d)) e
        ∙ get_or-map key_box keys k d (key_box d) lt in
        let own = subst (λ (b : Box2). Contains (get_or mets k []) origin
        ↔ IsMet (OriginHasSquare found) b origin) box (a.met k origin (key_box d) (omega arith)) in
        let alike = met_alike listed found (key_box (get_or keys k d)) origin h in
        (λ c. alike.0 (own.0 c), λ m. own.1 (alike.1 m))

-- ---- the markers

pub are_markers : (listed : List Rectangle) (keys : List Key) (mets : List (List ℕ))
    (markers : List Marker) → map key_of markers ≡ keys
    → map met_of markers ≡ mets → TellMet listed keys mets → AreMarkersOfKeys listed keys markers
are_markers listed keys mets markers e f t = record { keys_are = e; met = met }
  where
    met : All (TellsMet listed) markers
    met k d lt =
        let keyed : get_or keys k (key_of d) ≡ key_of (get_or markers k d) =
        ap (λ (ks : List Key). get_or ks k (key_of d)) (sym e)
        ∙ get_or-map key_of markers k d (key_of d) lt in
        let told : get_or mets k [] ≡ met_of (get_or markers k d) =
        ap (λ (ms : List (List ℕ)). get_or ms k []) (sym f)
        ∙ get_or-map met_of markers k d [] lt in
        let many : length keys ≡ length markers = ap (λ (ks : List Key). length ks) (sym e)
        ∙ length-map markers key_of in
        let count = t.count in
        record {
          ascending = subst IsAscending told (t.ascending k [] (omega arith));
          exact = λ origin.
              subst (λ (key : Key). Contains (met_of (get_or markers k d)) origin
              ↔ IsMet (HasListed listed) (key_box key) origin) keyed
              (subst (λ (ns : List ℕ). Contains ns origin
              ↔ IsMet (HasListed listed) (key_box (get_or keys k (key_of d))) origin) told
              (t.met k origin (key_of d) (omega arith)));
        }

-- ---- exactly one origin

pub alone : (origin : ℕ) → IsAscending (origin ∷ [])
alone origin i j d lt within = absurd (omega arith)

pub of_one : (listed : List Rectangle) (origin : ℕ) (keys : List Key) (markers : List Marker)
    → All (λ (r : Rectangle). r.origin ≡ origin) listed → All (MeetsSome listed) keys
    → map key_of markers ≡ keys → All (λ (m : Marker). m.met ≡ origin ∷ []) markers
    → AreMarkersOfKeys listed keys markers
of_one listed origin keys markers only some e mets = record { keys_are = e; met = met }
  where
    is_it : (b : Box2) (o : ℕ) → IsMet (HasListed listed) b o → origin ≡ o
    is_it b o h = sym (All-contains (λ (r : Rectangle). r.origin ≡ origin) listed h.1.0 only h.1.1)
        ∙ h.1.2

    has_it : (b : Box2) → (o : ℕ) × IsMet (HasListed listed) b o → (o : ℕ)
        → Contains (origin ∷ []) o ↔ IsMet (HasListed listed) b o
    has_it b s o = (
      λ c. elim (Contains-push_cases [] origin o c) [
        | inl n ↦ absurd (omega (arith, n.1))
        | inr f ↦ subst (λ (n : ℕ). IsMet (HasListed listed) b n)
            (sym (is_it b s.0 s.1) ∙ f) s.1
      ],
      λ m. subst (λ (n : ℕ). Contains (origin ∷ []) n) (is_it b o m) (0, omega arith, refl),
    )

    met : All (TellsMet listed) markers
    met k d lt =
        let m = get_or markers k d in
        let keyed : get_or keys k (key_of d) ≡ key_of m =
        ap (λ (ks : List Key). get_or ks k (key_of d)) (sym e)
        ∙ get_or-map key_of markers k d (key_of d) lt in
        let many : length keys ≡ length markers = ap (λ (ks : List Key). length ks) (sym e)
        ∙ length-map markers key_of in
        let one = sym (mets k d lt) in
        let s = subst (MeetsSome listed) keyed (some k (key_of d) (omega arith)) in
        record {
          ascending = subst IsAscending one (alone origin);
          exact = λ o.
              subst (λ (ns : List ℕ). Contains ns o
              ↔ IsMet (HasListed listed) (key_box (key_of m)) o) one
              (has_it (key_box (key_of m)) s o);
        }
