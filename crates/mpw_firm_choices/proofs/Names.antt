-- Names by a view of them.
use Rattle.std.proofs.Common.{◌≡◌, ◌∙◌, ◌*◌, ◌^◌, ltb, length, ◌∷◌, ℕ, List, [], Bool, true, false, map, filter, not, cond, refl, sym, ap, ◌||◌}
use Rattle.std.specs.List.{list_any}
use Rattle.std.proofs.lemmas.List.{length-map}
use Rattle.mpw_geom.specs.Names.{name_eq}
use Rattle.mpw_firm_choices.specs.Tops.{is_placed, only_in, only_of, unplaced, unplaced_in}

any_seen : {A : Type 0} (h : List ℕ → Bool) (f : A → List ℕ) (xs : List A)
    → list_any h (map f xs) ≡ list_any (λ x. h (f x)) xs
any_seen h f [] = refl
any_seen h f (x ∷ xs) = ap (λ b. h (f x) || b) (any_seen h f xs)

filter_same : {A : Type 0} (f g : A → Bool) (xs : List A) → ((x : A) → f x ≡ g x)
    → filter f xs ≡ filter g xs
filter_same f g [] same = refl
filter_same f g (x ∷ xs) same = rw (same x, filter_same f g xs same) refl

if_seen : {A : Type 0} (f : A → List ℕ) (b : Bool) (x : A) (rest : List A)
    → cond b (f x ∷ map f rest) (map f rest) ≡ map f (cond b (x ∷ rest) rest)
if_seen f true x rest = refl
if_seen f false x rest = refl

filter_seen : {A : Type 0} (h : List ℕ → Bool) (f : A → List ℕ) (xs : List A)
    → filter h (map f xs) ≡ map f (filter (λ x. h (f x)) xs)
filter_seen h f [] = refl
filter_seen h f (x ∷ xs) =
    ap (λ more. cond (h (f x)) (f x ∷ more) more) (filter_seen h f xs)
    ∙ if_seen f (h (f x)) x (filter (λ x. h (f x)) xs)

-- Those that aren't placed, by the view.
pub unplaced_seen : {N P : Type 0} (f : N → List ℕ) (g : P → List ℕ) (names : List N)
    (placed : List P)
    → unplaced (λ n. n) (λ p. p) (map f names) (map g placed) ≡ map f (unplaced f g names placed)
unplaced_seen f g names placed =
    filter_seen (λ n. not (is_placed (λ p. p) (map g placed) n)) f names
    ∙ ap (map f) (filter_same _ _ names
    (λ n. ap not (any_seen (λ p. name_eq p (f n)) g placed)))

only_seen : {N : Type 0} (f : N → List ℕ) (xs : List N)
    → only_of (λ n. n) (map f xs) ≡ only_of f xs
only_seen f [] = refl
only_seen f (x ∷ []) = refl
only_seen f (x ∷ y ∷ rest) = refl

pub only_by : {N P : Type 0} (f : N → List ℕ) (g : P → List ℕ) (names : List N) (placed : List P)
    → only_of (λ n. n) (unplaced (λ n. n) (λ p. p) (map f names) (map g placed))
    ≡ only_of f (unplaced f g names placed)
only_by f g names placed =
    ap (only_of (λ n. n)) (unplaced_seen f g names placed)
    ∙ only_seen f (unplaced f g names placed)

-- The same if the test says that they aren't too many.
pub only_short : {N P : Type 0} (f : N → List ℕ) (g : P → List ℕ) (names : List N) (placed : List P)
    (long : Bool) → long ≡ ltb (2 ^ 28) (length names * length placed) → long ≡ false
    → only_in (map f names) (map g placed) ≡ only_of f (unplaced f g names placed)
only_short f g names placed long is isnt =
    rw (length-map names f, length-map placed g, sym is ∙ isnt) (only_by f g names placed)

pub unplaced_short : {N P : Type 0} (f : N → List ℕ) (g : P → List ℕ) (names : List N)
    (placed : List P) (long : Bool)
    → long ≡ ltb (2 ^ 28) (length names * length placed) → long ≡ false
    → map f (unplaced f g names placed) ≡ unplaced_in (map f names) (map g placed)
unplaced_short f g names placed long is isnt =
    sym (rw (length-map names f, length-map placed g, sym is ∙ isnt) (unplaced_seen f g names placed))

pub unplaced_long : {N P : Type 0} (f : N → List ℕ) (g : P → List ℕ) (names : List N)
    (placed : List P) (long : Bool)
    → long ≡ ltb (2 ^ 28) (length names * length placed) → long ≡ true
    → unplaced_in (map f names) (map g placed) ≡ []
unplaced_long f g names placed long is isnt =
    rw (length-map names f, length-map placed g, sym is ∙ isnt) refl
