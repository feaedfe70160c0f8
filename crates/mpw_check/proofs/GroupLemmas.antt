-- The books of groups, one by one, and what they make together.
use Rattle.std.proofs.Common.{◌≡◌, ◌∙◌, ℕ, ◌+◌, ◌<◌, ◌≤◌, ◌^◌, List, [], ◌∷◌, ◌++◌, length, get_or, take, sym, ap, subst, arith}
use Rattle.std.specs.List.{AllZip}
use Rattle.std.proofs.lemmas.List.{take_all, take_more}
use Rattle.mpw_tiles.specs.Snapshots.{Snapshot, IsSnapshot}
use Rattle.mpw_markers.specs.declared.marker.Marker.{Marker}
use Rattle.mpw_job.specs.Layout.{AreLayoutMarkers}
use Rattle.mpw_check_groups.specs.declared.group.Group.{Group}
use Rattle.mpw_check_groups.specs.declared.joining.Owner.{Owner}
use Rattle.mpw_check_groups.specs.Joined.{joined_from, AreGroupMarkers, AreOwners, GroupsMakeTheLayout}
use Rattle.mpw_columns.proofs.Zipped.{zip_append}

pub group_more : {X Y : Type 0} (P : X → Y → Type 0) (xs : List X) (i : ℕ) (x : X)
    (ys new : List Y) (y : Y) → i < length xs → x ≡ get_or xs i x → new ≡ ys ++ y ∷ []
    → AllZip P (take i xs) ys → P x y → AllZip P (take (i + 1) xs) new
group_more P xs i x ys new y inside at pushed zipped is =
    subst (λ zs. AllZip P (take (i + 1) xs) zs) (sym pushed)
    (subst (λ zs. AllZip P zs (ys ++ y ∷ []))
    (sym (take_more xs i x inside ∙ ap (λ z. take i xs ++ z ∷ []) (sym at)))
    (zip_append P (take i xs) (x ∷ []) ys (y ∷ []) zipped (is, tt)))

pub group_all : {X Y : Type 0} (P : X → Y → Type 0) (xs : List X) (i : ℕ) (ys : List Y)
    → length xs ≤ i → AllZip P (take i xs) ys → AllZip P xs ys
group_all P xs i ys past zipped = subst (λ zs. AllZip P zs ys) (take_all i xs past) zipped

-- ---- the join

pub joined_are : GroupsMakeTheLayout → (s : Snapshot) (groups : List Group) (n : ℕ)
    (owners given : List Owner) (books lists : List (List Marker)) (markers : List Marker)
    → length s.shelf ≡ 1 → n ≡ length s.deck.rules → given ≡ owners → lists ≡ books
    → AreOwners groups n owners → AllZip (AreGroupMarkers s) groups books
    → markers ≡ joined_from lists 0 given → AreLayoutMarkers s markers
joined_are law s groups n owners given books lists markers alone rules same_owners same_books
    owned zipped made =
    subst (AreLayoutMarkers s)
    (sym (made ∙ ap (λ (os : List Owner). joined_from lists 0 os) same_owners
    ∙ ap (λ (bs : List (List Marker)). joined_from bs 0 owners) same_books))
    (law s groups owners books alone (subst (λ (k : ℕ). AreOwners groups k owners) rules owned)
    zipped)

pub few_owners : (s : Snapshot) (groups : List Group) (n : ℕ) (owners given : List Owner)
    → IsSnapshot s → n ≡ length s.deck.rules → given ≡ owners → AreOwners groups n owners
    → length given < 2 ^ 32
few_owners s groups n owners given is rules same owned =
    let long = ap (λ (os : List Owner). length os) same ∙ owned.long ∙ rules in
    let few = is.deck.few in
    omega (arith, long, few)
