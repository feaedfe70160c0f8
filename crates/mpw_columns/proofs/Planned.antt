-- The columns of a layout lie within it.
use Rattle.std.proofs.Common.{◌≡◌, pos, ◌+ℤ◌, ◌≤ℤ◌, List, [], ◌∷◌, ◌++◌, get_or, Option, None, Some, inl, inr, refl, sym, subst, ap, ◌∙◌, arith}
use Rattle.std.specs.Prelude.{All, Contains}
use Rattle.std.specs.List.{AllZip}
use Rattle.std.proofs.lemmas.List.Elements.{Contains-append_cases, Contains-get_or}
use Rattle.mpw_geom.specs.declared.plane.Box2.{Box2}
use Rattle.mpw_edges.specs.declared.run.Axis.{Axis}
use Rattle.mpw_edges.specs.declared.run.Axis.TheVariants.{V, H}
use Rattle.mpw_tiles.specs.Snapshots.{Snapshot, shown_extent}
use Rattle.mpw_markers.specs.declared.marker.Key.{Key}
use Rattle.mpw_columns_keys.specs.declared.column.Column.{Column}
use Rattle.mpw_columns_keys.specs.Columns.{seen_box, AreColumnsOf}
use Rattle.mpw_columns.specs.Plan.{Cover, IsColumnWithin}
use Rattle.mpw_columns.specs.Lists.{IsColumnList}
use Rattle.mpw_columns.specs.Laws.{ColumnsLieWithin}
use Rattle.mpw_columns.specs.Internal.Checked.{IsCounted}
use Rattle.mpw_columns.proofs.Covering.{each_between}

-- those of an axis
one_within : (s : Snapshot) (extent : Box2) (axis : Axis) (cs : List Column) (c : Column)
    → shown_extent s ≡ Some extent → AreColumnsOf axis extent cs → Contains cs c
    → IsColumnWithin s c
one_within s extent axis cs c found cover there =
    let b = each_between axis (seen_box axis extent).x0 ((seen_box axis extent).x1 +ℤ pos 1) cs c
    cover there in record {
      extent = extent;
      extent_is = found;
      left = subst (λ (a : Axis). (seen_box a extent).x0 ≤ℤ c.from) (sym b.1) b.0.left;
      some = b.0.some;
      right = subst (λ (a : Axis). c.to ≤ℤ ((seen_box a extent).x1 +ℤ pos 1)) (sym b.1) b.0.right;
    }

both_within : (s : Snapshot) (upright across : List Column) (o : Option Box2)
    → shown_extent s ≡ o → Cover o upright across → (c : Column) → Contains (upright ++ across) c
    → IsColumnWithin s c
both_within s upright across None found cover c there =
    absurd (nowhere c (subst (λ (cs : List Column). Contains cs c)
    (ap (λ (cs : List Column). cs ++ across) cover.0 ∙ cover.1) there))
  where
    nowhere : (c : Column) → Contains [] c → ⊥
    nowhere c there = omega (arith, there.1)
both_within s upright across (Some extent) found cover c there =
    elim (Contains-append_cases upright across c there) [
      | inl v ↦ one_within s extent V upright c found cover.0 v
      | inr h ↦ one_within s extent H across c found cover.1 h
    ]

pub lie_within : ColumnsLieWithin
lie_within s columns p = subst (All (IsColumnWithin s)) (sym p.are)
    (λ k d lt. both_within s p.upright p.across (shown_extent s) refl p.cover
    (get_or (p.upright ++ p.across) k d) (Contains-get_or (p.upright ++ p.across) k d lt))

-- ---- if there are no shapes

pub none_counted : (s : Snapshot) (columns : List Column) → shown_extent s ≡ None → columns ≡ []
    → IsCounted s 0 columns
none_counted s columns e f = record {
  plan = record {
    upright = [];
    across = [];
    are = f;
    cover = subst (λ (o : Option Box2). Cover o [] []) (sym e) (refl, refl);
  };
  counted = refl;
}

-- no column lies within
pub none_listed : (s : Snapshot) (columns : List Column) (lists : List (List Key))
    → shown_extent s ≡ None → All (IsColumnWithin s) columns → lists ≡ []
    → AllZip (IsColumnList s) columns lists
none_listed s [] lists e h f = subst (AllZip (IsColumnList s) []) (sym f) tt
none_listed s (c ∷ cs) lists e h f =
    let within = h 0 c (omega arith) in
    absurd (let clash : None ≡ Some within.extent = sym e ∙ within.extent_is in cc)
