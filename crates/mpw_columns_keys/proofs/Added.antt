-- Markers that are added for keys.
use Rattle.std.proofs.Common.{◌≡◌, ◌∙◌, ℕ, ◌+◌, ◌<◌, ◌≤◌, List, [], ◌∷◌, ◌++◌, length, get_or, take, map, append_assoc, suc, sym, ap, arith}
use Rattle.std.specs.List.{flat_map}
use Rattle.std.proofs.lemmas.List.{map-append, take_more, take_all, flat_map_more}
use Rattle.mpw_markers.specs.declared.marker.Key.{Key}
use Rattle.mpw_markers.specs.declared.marker.Marker.{Marker}
use Rattle.mpw_columns_keys.specs.Keys.{lists_of_rule, together, of_first}

pub added : (old mid new : List Marker) (xs ys : List Key) → mid ≡ old ++ map of_first xs
    → new ≡ mid ++ map of_first ys → new ≡ old ++ map of_first (xs ++ ys)
added old mid new xs ys e f =
    f ∙ ap (λ (ms : List Marker). ms ++ map of_first ys) e
    ∙ append_assoc old (map of_first xs) (map of_first ys)
    ∙ ap (λ (ms : List Marker). old ++ ms) (sym (map-append of_first xs ys))

abbrev touching : Key → List ℕ → Marker
touching k met = record { key = k; met = met }

-- the marker of the next key
pub next_added : (old mid new : List Marker) (keys : List Key) (i : ℕ) (d : Key)
    (met : List ℕ) → i < length keys → mid ≡ old ++ map of_first (take i keys)
    → new ≡ mid ++ touching (get_or keys i d) met ∷ [] → met ≡ 0 ∷ []
    → new ≡ old ++ map of_first (take (i + 1) keys)
next_added old mid new keys i d met lt e f g =
    added old mid new (take i keys) (get_or keys i d ∷ []) e
    (f ∙ ap (λ (ns : List ℕ). mid ++ touching (get_or keys i d) ns ∷ []) g)
    ∙ ap (λ (ks : List Key). old ++ map of_first ks) (sym (take_more keys i d lt))

-- those of the next list
pub next_list : {X : Type 0} (f : X → List Key) (old mid new : List Marker) (lists : List X) (i : ℕ)
    (x : X) (ys : List Key) → i < length lists → x ≡ get_or lists i x
    → mid ≡ old ++ map of_first (flat_map f (take i lists)) → new ≡ mid ++ map of_first ys
    → ys ≡ f x → new ≡ old ++ map of_first (flat_map f (take (i + 1) lists))
next_list {X = X} f old mid new lists i x ys lt is e g h =
    added old mid new (flat_map f (take i lists)) ys e g
    ∙ ap (λ (ks : List Key). old ++ map of_first ks)
    (ap (λ (zs : List Key). flat_map f (take i lists) ++ zs) h
    ∙ flat_map_more f [] (take i lists) x
    ∙ ap (flat_map f) (ap (λ (y : X). take i lists ++ y ∷ []) is
    ∙ sym (take_more lists i x lt)))

pub all_added : {X : Type 0} (f : List X → List Key) (old new : List Marker) (lists : List X)
    (i : ℕ)
    → length lists ≤ i → new ≡ old ++ map of_first (f (take i lists))
    → new ≡ old ++ map of_first (f lists)
all_added {X = X} f old new lists i le e =
    e ∙ ap (λ (xs : List X). old ++ map of_first (f xs)) (take_all i lists le)

-- the lists of one rule more
pub next_rule : (upright across : List (List Key)) (n : ℕ) (mid new : List Marker)
    → mid ≡ map of_first (together n upright across)
    → new ≡ mid ++ map of_first (lists_of_rule upright across n)
    → new ≡ map of_first (together (n + 1) upright across)
next_rule upright across n mid new e f =
    let more : n + 1 ≡ suc n = omega arith in
    added [] mid new (together n upright across) (lists_of_rule upright across n) e f
    ∙ ap (λ (m : ℕ). map of_first (together m upright across)) (sym more)
