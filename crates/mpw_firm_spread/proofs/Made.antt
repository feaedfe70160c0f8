-- Parts that are stitched are of one layout, and make its markers.
use Rattle.std.proofs.Common.{◌≡◌, ◌∙◌, ap, sym, subst, length, get_or, ℕ, List, Result, Ok, Option, Some, None}
use Rattle.std.specs.Prelude.{All}
use Rattle.std.specs.List.{AllZip}
use Rattle.std.proofs.lemmas.List.Elements.{All-contains}
use Rattle.sha2.specs.Sha256.{sha256}
use Rattle.mpw_geom.specs.declared.plane.Box2.{Box2}
use Rattle.mpw_check.specs.Drawn.{drawn}
use Rattle.mpw_columns.specs.Laws.{ListsMakeTheLayout}
use Rattle.mpw_columns.specs.Lists.{IsColumnList}
use Rattle.mpw_columns.specs.Plan.{Cover, CoverLayout}
use Rattle.mpw_job.specs.Layout.{AreLayoutMarkers}
use Rattle.mpw_columns_keys.specs.declared.column.Column.{Column}
use Rattle.mpw_markers.specs.declared.marker.Key.{Key}
use Rattle.mpw_firm_parts.specs.Parts.{Checked, Found}
use Rattle.mpw_firm_parts.specs.Stitching.{CoverExtent, IsFrom, EachColumnHasItsList}
use Rattle.mpw_tiles.specs.Snapshots.{Snapshot, shown_extent}
use Rattle.mpw_firm_spread.specs.Spread.{Texts, subject_of, AreOf, IsPartOf, IsPartBeside, PartsMakeTheLayout}
use Rattle.mpw_firm_spread.proofs.Zipped.{zip_at, zip_length, zip_map}

-- What is read is one.
read_once : {A E : Type 0} (r : Result A E) (x y : A) → r ≡ Ok x → r ≡ Ok y → y ≡ x
read_once r x y a b = let e : Ok y ≡ Ok x = sym b ∙ a in cc

-- The snapshot of texts is one.
same_snapshot : (texts : Texts) (s t : Snapshot) (a b : Checked) → AreOf texts s a → AreOf texts t b
    → t ≡ s
same_snapshot texts s t a b x y =
    let rules = read_once _ x.rules y.rules x.read y.read in
    let libraries = read_once _ x.drawn.library y.drawn.library x.drawn.read y.drawn.read in
    y.drawn.drawn.snapshot_is
    ∙ ap (λ d. drawn d texts.top y.drawn.library) rules
    ∙ ap (λ l. drawn x.rules texts.top l) libraries
    ∙ sym x.drawn.drawn.snapshot_is

-- Texts of which the same is said are the same, if the libraries are.
same_texts : (texts others : Texts) (x y : Option Box2) (n m : ℕ)
    → subject_of others y m ≡ subject_of texts x n
    → (sha256 others.library ≡ sha256 texts.library → others.library ≡ texts.library)
    → others ≡ texts
same_texts texts others x y n m e one =
    ap (λ d. record { deck = d; top = others.top; library = others.library })
    (ap (λ (c : Checked). c.deck) e)
    ∙ ap (λ t. record { deck = texts.deck; top = t; library = others.library })
    (ap (λ (c : Checked). c.top) e)
    ∙ ap (λ l. record { deck = texts.deck; top = texts.top; library = l })
    (one (ap (λ (c : Checked). c.library) e))

-- A part of which the same is said as of the first has lists of the first one's layout.
own_lists : (texts : Texts) (first part : Found) (made : IsPartOf texts first)
    → IsPartBeside texts part → part.subject ≡ first.subject
    → AllZip (IsColumnList made.snapshot) part.columns part.lists
own_lists texts first part made beside same =
    let told : subject_of beside.others (shown_extent beside.of_others.snapshot)
    part.subject.columns ≡ subject_of texts (shown_extent made.snapshot) first.subject.columns =
    sym beside.of_others.made.told ∙ same ∙ made.made.told in
    let one = same_texts texts beside.others _ _ first.subject.columns part.subject.columns told
    beside.one in
    let of : IsPartOf texts part = subst (λ t. IsPartOf t part) one beside.of_others in
    let snapshots = same_snapshot texts made.snapshot of.snapshot first.subject part.subject
    made.made of.made in
    subst (λ s. AllZip (IsColumnList s) part.columns part.lists) snapshots of.own

-- A list in one of the parts is that of its column.
own_list : (texts : Texts) (first : Found) (parts : List Found) (made : IsPartOf texts first)
    → All (IsPartBeside texts) parts
    → All (λ (part : Found). part.subject ≡ first.subject) parts
    → (c : Column) (keys : List Key) → IsFrom parts c keys → IsColumnList made.snapshot c keys
own_list texts first parts made beside same c keys from =
    let part = from.0 in
    zip_at (IsColumnList made.snapshot) part.columns part.lists from.1 c keys
    (own_lists texts first part made
    (All-contains (IsPartBeside texts) parts part beside from.2)
    (All-contains (λ (p : Found). p.subject ≡ first.subject) parts part same from.2))
    from.3 from.4

covers : (extent : Option Box2) (upright across : List Column) → CoverExtent extent upright across
    → Cover extent upright across
covers None upright across h = h
covers (Some extent) upright across h = h

-- A part has as many lists as columns.
counted : (texts : Texts) (part : Found) → IsPartBeside texts part
    → length part.columns ≡ length part.lists
counted texts part beside =
    zip_length (IsColumnList beside.of_others.snapshot) part.columns part.lists beside.of_others.own

all_counted : (texts : Texts) (parts : List Found) → All (IsPartBeside texts) parts
    → All (λ (part : Found). length part.columns ≡ length part.lists) parts
all_counted texts parts h = λ k d less. counted texts (get_or parts k d) (h k d less)

pub parts_make : EachColumnHasItsList → ListsMakeTheLayout → PartsMakeTheLayout
parts_make each lists texts first parts book at made beside of =
    let whole = of.whole in
    let n = length made.snapshot.deck.rules in
    let e : Some whole.first ≡ Some first = sym whole.at ∙ at in
    let same : whole.first ≡ first = cc in
    let all = subst (λ (p : Found). All (λ (part : Found). part.subject ≡ p.subject) parts) same
    whole.of.same in
    let found = each n parts of.vs of.hs whole (all_counted texts parts beside) in
    let own = own_list texts first parts made beside all in
    let extent : whole.first.subject.extent ≡ shown_extent made.snapshot =
    ap (λ (p : Found). p.subject.extent) same ∙ ap (λ (c : Checked). c.extent) made.made.told in
    let cover : CoverLayout made.snapshot whole.upright whole.across =
    subst (λ x. Cover x whole.upright whole.across) extent
    (covers whole.first.subject.extent whole.upright whole.across whole.both.cover) in
    let alone : length made.snapshot.shelf ≡ 1 =
    ap (λ (s : Snapshot). length s.shelf) made.made.drawn.drawn.snapshot_is in
    subst (AreLayoutMarkers made.snapshot) (sym of.made)
    (lists made.snapshot whole.upright whole.across of.vs of.hs alone cover
    (zip_map (IsFrom parts) (IsColumnList made.snapshot) own whole.upright of.vs found.1)
    (zip_map (IsFrom parts) (IsColumnList made.snapshot) own whole.across of.hs found.2))
