-- Columns with the same contents, displaced, are identical up to translation.
use Rattle.std.proofs.Common.{◌≡◌, ◌∙◌, ℕ, ◌+◌, ℤ, List, map, Option, Some, None, Ok, Err, inl, inr, refl, sym, subst, ap, arith, IfOk, IfSome}
use Rattle.std.specs.Prelude.{All}
use Rattle.std.specs.declared.result.Result.{Result}
use Rattle.std.proofs.lemmas.Int.{ints}
use Rattle.std.proofs.lemmas.List.Elements.{All-push}
use Rattle.mpw_geom.specs.declared.plane.Box2.{Box2}
use Rattle.mpw_geom.proofs.Boxes.{same_box}
use Rattle.mpw_edges.specs.declared.run.Axis.{Axis}
use Rattle.mpw_hier.specs.declared.submission.Submission.{Submission}
use Rattle.mpw_hier.specs.Values.{flat}
use Rattle.mpw_columns_contents.specs.declared.thing.Thing.{Thing}
use Rattle.mpw_columns_contents.specs.Contents.{AreWhole, AreSound}
use Rattle.mpw_columns_contents.specs.Displaced.{moved}
use Rattle.mpw_columns_contents.specs.Things.{things_items}
use Rattle.mpw_hier.specs.Items.{Item}
use Rattle.mpw_tiles.specs.Snapshots.{shown}
use Rattle.mpw_columns_keys.specs.declared.column.Column.{Column}
use Rattle.mpw_columns_keys.specs.Columns.{seen_box, upright, across}
use Rattle.mpw_columns.specs.declared.layout.Layout.{Layout}
use Rattle.mpw_columns.specs.declared.earlier.Kept.{Kept}
use Rattle.mpw_columns.specs.Displaced.{displaced, across_edges, IsDisplaced, ShowsDisplaced}
use Rattle.mpw_columns.specs.Laws.{MovedItemsShowDisplaced}
use Rattle.mpw_columns.specs.Internal.Like.{window_along, AreContentsOf, IsKept, MayAdd}

-- ---- two columns

same_window : (extent : Box2) (n : ℕ) (by : ℤ) (c e : Column) → IsDisplaced by c e
    → seen_box e.axis (across (upright (seen_box e.axis extent) e) n)
    ≡ seen_box c.axis (displaced by (across (upright (seen_box c.axis extent) c) n))
same_window extent n by c e d =
    let from = d.from in
    let to = d.to in
    ap (λ (a : Axis). seen_box a (across (upright (seen_box a extent) e) n)) d.axis
    ∙ ap (seen_box c.axis) (same_box (across (upright (seen_box c.axis extent) e) n)
    (displaced by (across (upright (seen_box c.axis extent) c) n))
    (omega (arith, ints, from)) refl (omega (arith, ints, to)) refl)

pub shown_displaced : MovedItemsShowDisplaced → (l : Layout) (c e : Column) (by : ℤ)
    (first second : List Thing) → IsDisplaced by c e → AreContentsOf l c first
    → AreContentsOf l e second
    → things_items l.snapshot.now.shelf second
    ≡ map (moved (across_edges c.axis by)) (things_items l.snapshot.now.shelf first)
    → ShowsDisplaced l.snapshot.now l.extent l.layers.now l.distance by c
shown_displaced law l c e by first second d f g same layer has =
    let all = shown l.snapshot.now in
    let items = things_items l.snapshot.now.shelf second in
    law c.axis all (things_items l.snapshot.now.shelf first) items
    (across (upright (seen_box c.axis l.extent) c) (l.distance + 1)) by f.whole f.sound
    (subst (λ (w : Box2). AreWhole w all items) (same_window l.extent (l.distance + 1) by c e d) g.whole)
    g.sound same layer

-- ---- the contents of a column

pub contents_tell : {E : Type 0} (l : Layout) (c : Column) (window : Box2) (shelf : List Submission)
    (r : Result (Option (List Thing)) E) → window ≡ window_along l c
    → shelf ≡ l.snapshot.now.shelf → flat shelf 0 ≡ shown l.snapshot.now
    → IfOk r (λ o. IfSome o (λ things. AreWhole window (flat shelf 0) (things_items shelf things)))
    → IfOk r (λ o. IfSome o (λ things. AreSound (flat shelf 0) (things_items shelf things)))
    → IfOk r (λ o. IfSome o (λ things. AreContentsOf l c things))
contents_tell l c window shelf (Err e) w s f whole sound = tt
contents_tell l c window shelf (Ok None) w s f whole sound = tt
contents_tell l c window shelf (Ok (Some things)) w s f whole sound =
    let all = shown l.snapshot.now in
    record {
      whole = subst (λ (b : Box2). AreWhole b all (things_items l.snapshot.now.shelf things)) w
          (subst (λ (ss : List Submission). AreWhole window all (things_items ss things)) s
          (subst (λ (is : List Item). AreWhole window is (things_items shelf things)) f whole));
      sound = subst (λ (ss : List Submission). AreSound all (things_items ss things)) s
          (subst (λ (is : List Item). AreSound is (things_items shelf things)) f sound);
    }

-- ---- what is held

pub kept_more : (l : Layout) (k : Kept) (old new : List Kept) → All (IsKept l) old → IsKept l k
    → MayAdd k old new → All (IsKept l) new
kept_more l k old new h one (inl same) = subst (All (IsKept l)) (sym same) h
kept_more l k old new h one (inr more) = subst (All (IsKept l)) (sym more) (All-push (IsKept l) old k h one)
