-- Reading items one by one.
use Rattle.std.proofs.Common.{◌≡◌, ◌∙◌, ◌<◌, ◌+◌, ℕ, List, [], ◌∷◌, ◌++◌, length, drop, map, get_or, Option, None, Some, option_map, refl, sym, ap, append_assoc}
use Rattle.std.specs.Prelude.{All}
use Rattle.std.proofs.lemmas.List.{at_drop_more}
use Rattle.std.proofs.lemmas.List.Elements.{All-head, All-tail}
use Rattle.mpw_firm_parts.specs.Reading.{all_of, ◌>>=◌}

-- what was found so far, and what is left
abbrev pub with_front : {A : Type 0} → List A → Option (List A) → Option (List A)
with_front front rest = option_map (λ xs. front ++ xs) rest

pushed : {A : Type 0} (front : List A) (x : A) (rest : Option (List A))
    → with_front (front ++ x ∷ []) rest ≡ with_front front (option_map (λ xs. x ∷ xs) rest)
pushed front x None = refl
pushed front x (Some xs) = ap (λ l. Some l) (append_assoc front (x ∷ []) xs)

-- an item that is something is the next of them
pub next_of : {A B : Type 0} (f : A → Option B) (front : List B) (xs : List A) (i : ℕ) (d x : A)
    (y : B) → i < length xs → get_or xs i d ≡ x → f x ≡ Some y
    → with_front (front ++ y ∷ []) (all_of f (drop (i + 1) xs)) ≡ with_front front
    (all_of f (drop i xs))
unfolding all_of
next_of f front xs i d x y lt at told =
    let more = at_drop_more (all_of f) xs i d lt in
    let here : all_of f (get_or xs i d ∷ drop (i + 1) xs) ≡ option_map (λ ys. y ∷ ys)
    (all_of f (drop (i + 1) xs)) =
    ap (λ w. f w >>= λ n. option_map (λ ys. n ∷ ys) (all_of f (drop (i + 1) xs))) at
    ∙ ap (λ o. o >>= λ n. option_map (λ ys. n ∷ ys) (all_of f (drop (i + 1) xs))) told in
    pushed front y (all_of f (drop (i + 1) xs)) ∙ sym (ap (with_front front) (more ∙ here))

-- an item that is nothing leaves none
pub none_of : {A B : Type 0} (f : A → Option B) (front : List B) (xs : List A) (i : ℕ) (d x : A)
    → i < length xs → get_or xs i d ≡ x → f x ≡ None
    → with_front front (all_of f (drop i xs)) ≡ None
unfolding all_of
none_of f front xs i d x lt at told =
    let more = at_drop_more (all_of f) xs i d lt in
    let here : all_of f (get_or xs i d ∷ drop (i + 1) xs) ≡ None =
    ap (λ w. f w >>= λ n. option_map (λ ys. n ∷ ys) (all_of f (drop (i + 1) xs))) at
    ∙ ap (λ o. o >>= λ n. option_map (λ ys. n ∷ ys) (all_of f (drop (i + 1) xs))) told in
    ap (with_front front) (more ∙ here)

-- what was written of items is read as these items
pub all_read : {A B : Type 0} (f : A → Option B) (text : B → A) (Is : B → Type 0)
    → ((y : B) → Is y → f (text y) ≡ Some y) → (ys : List B) → All Is ys
    → all_of f (map text ys) ≡ Some ys
unfolding all_of
all_read f text Is each [] all = refl
all_read f text Is each (y ∷ ys) all =
    ap (λ o. o >>= λ n. option_map (λ ns. n ∷ ns) (all_of f (map text ys)))
    (each y (All-head Is y ys all))
    ∙ ap (option_map (λ ns. y ∷ ns)) (all_read f text Is each ys (All-tail Is y ys all))
