-- Lists of tiles, of which one is changed.
use Rattle.std.proofs.Common.{◌≡◌, ℕ, zero, suc, ◌+◌, ◌-◌, ◌<◌, ◌≤◌, List, [], ◌∷◌, ◌++◌, length, get_or, take, drop, Option}
use Rattle.std.proofs.Common.{Some, None, refl, sym, ap, ◌∙◌, inl, inr, arith, append-nil, append_assoc, length-append, length-set, length-take, length-drop, get_or-set_same, get_or-set_other}
use Rattle.std.specs.Prelude.{slice_get, slice_set}
use Rattle.std.specs.Option.{option_to_list}
use Rattle.std.proofs.lemmas.Bool.{cases_lt}
use Rattle.std.proofs.lemmas.List.{take_more, take_all}
use Rattle.std.proofs.lemmas.List.Concat.{flat_map-append}
use Rattle.std.proofs.lemmas.Option.{slice_get-get_or, slice_get_past, slice_get_within, get_or_from_slice_get, same_Some, none-some}
use Rattle.mpw_markers.specs.declared.marker.Marker.{Marker}
use Rattle.mpw_run.specs.Run.{Tile, answers_of, answered}
use Rattle.mpw_run.specs.Step.{new_tiles, raised, answered_by}
use Rattle.mpw_run.specs.Prepared.{set_tile}
use Rattle.mpw_run.specs.Internal.Prepared.{answers_with}

-- ---- a tile that is set

pub same_tile : (xs : List Tile) (k : ℕ) (y : Tile) → k < length xs
    → slice_get (slice_set xs k y) k ≡ Some y
same_tile xs k y l =
    slice_get-get_or (slice_set xs k y) k y (omega (arith, l, length-set xs k y))
    ∙ ap (λ (t : Tile). Some t) (get_or-set_same xs k y y l)

pub other_tile : (xs : List Tile) (k j : ℕ) (y : Tile) → (j ≡ k → ⊥)
    → slice_get (slice_set xs k y) j ≡ slice_get xs j
other_tile xs k j y ne = elim (cases_lt j (length xs)) [
  | inl l ↦
      slice_get-get_or (slice_set xs k y) j y (omega (arith, l, length-set xs k y))
      ∙ ap (λ (t : Tile). Some t) (get_or-set_other xs k j y y ne)
      ∙ sym (slice_get-get_or xs j y l)
  | inr g ↦ slice_get_past (slice_set xs k y) j (omega (arith, g, length-set xs k y))
      ∙ sym (slice_get_past xs j g)
]

-- ---- how many are answered

abbrev pub own : Tile → List (List Marker)
own tile = option_to_list tile.answer

-- a tile that is set changes the count by its own
pub set_answered : (xs : List Tile) (k : ℕ) (x y : Tile) → slice_get xs k ≡ Some x
    → answered (slice_set xs k y) + length (own x) ≡ answered xs + length (own y)
set_answered [] k x y e =
    absurd (none-some x (sym (slice_get_past {X = Tile} [] k (omega arith)) ∙ e))
set_answered (t ∷ xs) zero x y e =
    let s : t ≡ x = same_Some t x e in
    omega (
      arith,
      length-append (own y) (answers_of xs),
      length-append (own t) (answers_of xs),
      ap (λ (u : Tile). length (own u)) s,
    )
set_answered (t ∷ xs) (suc k) x y e =
    omega (
      arith,
      length-append (own t) (answers_of (slice_set xs k y)),
      length-append (own t) (answers_of xs),
      set_answered xs k x y e,
    )

-- a tile is handed out
pub raised_same : (xs : List Tile) (k : ℕ) (x : Tile) → slice_get xs k ≡ Some x
    → answered (slice_set xs k (raised x)) ≡ answered xs
raised_same xs k x e = omega (arith, set_answered xs k x (raised x) e)

pub own_none : (x : Tile) → x.answer ≡ None → length (own x) ≡ 0
own_none x e = ap (λ (a : Option (List Marker)). length (option_to_list a)) e

pub own_some : (x : Tile) (m : List Marker) → x.answer ≡ Some m → length (own x) ≡ 1
own_some x m e = ap (λ (a : Option (List Marker)). length (option_to_list a)) e

-- a tile is answered, which was unanswered or not
pub one_answered : (xs : List Tile) (k : ℕ) (x : Tile) (m : List Marker) → slice_get xs k ≡ Some x
    → x.answer ≡ None → answered (slice_set xs k (answered_by m x)) ≡ answered xs + 1
one_answered xs k x m e n = omega (
  arith,
  set_answered xs k x (answered_by m x) e,
  own_none x n,
  own_some (answered_by m x) m refl,
)

-- at most all are answered
own_few : (a : Option (List Marker)) → length (option_to_list a) ≤ 1
own_few None = omega arith
own_few (Some m) = omega arith

pub few_answered : (xs : List Tile) → answered xs ≤ length xs
few_answered [] = omega arith
few_answered (t ∷ xs) =
    omega (arith, few_answered xs, length-append (own t) (answers_of xs), own_few t.answer)

-- new tiles are not answered
pub new_answered : (n : ℕ) → answered (new_tiles n) ≡ 0
new_answered zero = refl
new_answered (suc n) = new_answered n

pub new_get : (n k : ℕ) (x : Tile) → slice_get (new_tiles n) k ≡ Some x → x.answer ≡ None
new_get zero k x e = absurd (none-some x (sym (slice_get_past {X = Tile} [] k (omega arith)) ∙ e))
new_get (suc n) zero x e = ap (λ (t : Tile). t.answer) (sym (same_Some _ x e))
new_get (suc n) (suc k) x e = new_get n k x e

pub new_open : (n k : ℕ) (x : Tile) (m : List Marker) → slice_get (new_tiles n) k ≡ Some x
    → x.answer ≡ Some m → ⊥
new_open n k x m e s = none-some m (sym (new_get n k x e) ∙ s)

-- if all are answered, the lists are by tile
abbrev pub HasAnswer : List Tile → ℕ → Type 0
HasAnswer xs k =
    (x : Tile) × (slice_get xs k ≡ Some x) × (x.answer ≡ Some (get_or (answers_of xs) k []))

answered_on : (t : Tile) (xs : List Tile)
    → (answered xs ≡ length xs → (k : ℕ) → k < length xs → HasAnswer xs k)
    → answered (t ∷ xs) ≡ length (t ∷ xs)
    → (k : ℕ) → k < length (t ∷ xs) → HasAnswer (t ∷ xs) k
answered_on t xs rest e k l = by t.answer refl k l
  where
    more : answered (t ∷ xs) ≡ length (own t) + answered xs
    more = length-append (own t) (answers_of xs)

    by : (a : Option (List Marker)) → t.answer ≡ a → (k : ℕ) → k < length (t ∷ xs)
        → HasAnswer (t ∷ xs) k
    by None w k l = absurd (omega (arith, e, more, own_none t w, few_answered xs))
    by (Some m) w zero l = (
      t,
      refl,
      w
          ∙ sym (ap (λ (a : Option (List Marker)).
          Some (get_or (option_to_list a ++ answers_of xs) 0 [])) w),
    )
    by (Some m) w (suc k) l =
        let h = rest (omega (arith, e, more, own_some t m w)) k (omega (arith, l)) in (
          h.0,
          h.1,
          h.2 ∙ sym (ap (λ (a : Option (List Marker)).
              Some (get_or (option_to_list a ++ answers_of xs) (suc k) [])) w),
        )

pub all_answered : (xs : List Tile) → answered xs ≡ length xs → (k : ℕ) → k < length xs
    → HasAnswer xs k
all_answered [] e k l = absurd (omega (arith, l))
all_answered (t ∷ xs) e k l = answered_on t xs (λ f j u. all_answered xs f j u) e k l

-- ---- loops

-- one more tile is listed
pub answers_more : (xs : List Tile) (k : ℕ) (x : Tile) → slice_get xs k ≡ Some x
    → answers_of (take (k + 1) xs) ≡ answers_of (take k xs) ++ own x
answers_more xs k x e =
    let l = slice_get_within xs k x e in
    ap answers_of (take_more xs k x l) ∙ flat_map-append own (take k xs) (get_or xs k x ∷ [])
    ∙ ap (λ (t : Tile). answers_of (take k xs) ++ (own t ++ [])) (get_or_from_slice_get xs k x x e)
    ∙ ap (λ (zs : List (List Marker)). answers_of (take k xs) ++ zs) (append-nil (own x))

-- a tile of the list is set, by a test of its index
pub set_there : (change : Tile → Tile) (k : ℕ) (xs : List Tile) (x : Tile) → slice_get xs k ≡ Some x
    → set_tile change k xs (slice_get xs k) ≡ slice_set xs k (change x)
set_there change k xs x e = ap (set_tile change k xs) e

-- ---- lists with one of a tile

regroup : {X : Type 0} (a b c d : List X) → ((a ++ b) ++ c) ++ d ≡ a ++ ((b ++ c) ++ d)
regroup a b c d = simp append_assoc

-- the lists before a tile, those of the tile, and those after it
pub set_lists : (xs : List Tile) (k : ℕ) (x : Tile) (m : List Marker) → slice_get xs k ≡ Some x
    → (answers_of (take k xs) ++ m ∷ []) ++ answers_of (drop (k + 1) xs)
    ≡ answers_of (slice_set xs k (answered_by m x))
set_lists [] k x m e = absurd (none-some x (sym (slice_get_past {X = Tile} [] k (omega arith)) ∙ e))
set_lists (t ∷ xs) zero x m e = refl
set_lists (t ∷ xs) (suc k) x m e =
    let on : suc k + 1 ≡ suc (k + 1) = omega arith in
    ap (λ (n : ℕ). ((own t ++ answers_of (take k xs)) ++ m ∷ []) ++ answers_of (drop n (t ∷ xs))) on
    ∙ regroup (own t) (answers_of (take k xs)) (m ∷ []) (answers_of (drop (k + 1) xs))
    ∙ ap (λ (ys : List (List Marker)). own t ++ ys) (set_lists xs k x m e)

-- one more tile is counted, and there are no more of them than tiles
pub count_more : (xs : List Tile) (k : ℕ) (x : Tile) → slice_get xs k ≡ Some x
    → answered (take (k + 1) xs) ≡ answered (take k xs) + length (own x)
count_more xs k x e = ap (λ (ls : List (List Marker)). length ls) (answers_more xs k x e)
    ∙ length-append (answers_of (take k xs)) (own x)

pub count_within : (xs : List Tile) (k : ℕ) (x : Tile) → slice_get xs k ≡ Some x
    → answered (take (k + 1) xs) ≤ length xs
count_within xs k x e =
    omega (arith, few_answered (take (k + 1) xs), length-take (k + 1) xs, slice_get_within xs k x e)

-- a tile to look up with
abbrev pub new_tile : Tile
new_tile = record { taken = 0; answer = None }

-- the lists of all tiles, put together from those before a tile, its own and those after it
pub lists_are : (xs : List Tile) (k : ℕ) (m own_markers : List Marker)
    (none before along behind : List (List Marker)) → k < length xs → none ≡ []
    → before ≡ none ++ answers_of (take k xs) → own_markers ≡ m → along ≡ before ++ own_markers ∷ []
    → behind ≡ along ++ answers_of (take (length xs - (k + 1)) (drop (k + 1) xs))
    → behind ≡ answers_with m k xs
lists_are xs k m own_markers none before along behind l e0 e1 em e2 e3 =
    let x = get_or xs k new_tile in
    let at : slice_get xs k ≡ Some x = slice_get-get_or xs k new_tile l in
    let all : take (length xs - (k + 1)) (drop (k + 1) xs) ≡ drop (k + 1) xs =
    take_all (length xs - (k + 1)) (drop (k + 1) xs) (omega (arith, length-drop (k + 1) xs)) in
    let first : before ≡ answers_of (take k xs) =
    e1 ∙ ap (λ (ls : List (List Marker)). ls ++ answers_of (take k xs)) e0 in
    let second : along ≡ answers_of (take k xs) ++ m ∷ [] =
    e2 ∙ ap (λ (ls : List (List Marker)). ls ++ own_markers ∷ []) first
    ∙ ap (λ (z : List Marker). answers_of (take k xs) ++ z ∷ []) em in
    e3 ∙ ap (λ (ys : List Tile). along ++ answers_of ys) all
    ∙ ap (λ (ls : List (List Marker)). ls ++ answers_of (drop (k + 1) xs)) second
    ∙ set_lists xs k x m at ∙ sym (ap answers_of (set_there (answered_by m) k xs x at))
