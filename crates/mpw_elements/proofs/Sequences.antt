-- An element read by its parts is the element read record by record.
use Rattle.std.proofs.Common.{◌≡◌, ℕ, pos, true, false, List, Result, Ok, Err, refl, sym}
use Rattle.mpw_structures.specs.declared.element.Element.TheVariants as elements
use Rattle.mpw_records.specs.declared.fault.ReadFault.{ReadFault}
use Rattle.mpw_records.specs.declared.kind.TheConstants.{LAYER, DATATYPE, WIDTH, XY, ENDEL, SNAME, COLROW, PATHTYPE, BOXTYPE, BGNEXTN, ENDEXTN}
use Rattle.mpw_records.specs.Records.{RawRecord, RecordOutcome}
use Rattle.mpw_elements.specs.Reading.{◌>>=◌, field, demanded, expected, optional}
use Rattle.mpw_elements.specs.Values.{corners_of, centre_of, origin_of, path_type_of, width_of, extension_of, name_of, counts_of, grid_of}
use Rattle.mpw_elements.specs.Grammar.{boundary, path, orientation, single, array, element}
use Rattle.mpw_elements.specs.Internal.Grammar.{layer, end_element, boundary_by_layer, breadth, path_by_breadth, single_behind, array_behind, reference, element_by_parts, as_element}

-- Two steps and a third after them are the first step and the two others after it.
behind : {A B C : Type 0} (m : Result A ReadFault) (f : A → Result B ReadFault)
    (g : B → Result C ReadFault) (h : A → Result C ReadFault) → ((x : A) → (f x >>= g) ≡ h x)
    → ((m >>= f) >>= g) ≡ (m >>= h)
behind (Ok x) f g h same = same x
behind (Err e) f g h same = refl

-- If two readings begin with the same step and continue in the same way, they are equal.
alike : {A B C D : Type 0} (m : Result A ReadFault) (f : A → Result B ReadFault)
    (g : B → Result D ReadFault) (h : A → Result C ReadFault) (k : C → Result D ReadFault)
    → ((x : A) → (f x >>= g) ≡ (h x >>= k)) → ((m >>= f) >>= g) ≡ ((m >>= h) >>= k)
alike (Ok x) f g h k same = same x
alike (Err e) f g h k same = refl

boundary_is : (start unit datatype_kind : ℕ) (rs : List RecordOutcome)
    → boundary_by_layer start unit datatype_kind rs ≡ as_element elements.Boundary
    (boundary start unit datatype_kind rs)
unfolding boundary layer boundary_by_layer end_element
boundary_is start unit datatype_kind rs = alike (expected start LAYER rs) _ _ _ _
    (λ first. alike (expected start datatype_kind first.1) _ _ _ _
    (λ second. sym (behind (expected start XY second.1) _ _ _
    (λ xy. behind (corners_of unit xy.0) _ _ _
    (λ corners. behind (expected start ENDEL xy.1) _ _ _ (λ last. refl))))))

path_is : (start unit : ℕ) (rs : List RecordOutcome)
    → path_by_breadth start unit rs ≡ as_element elements.Path (path start unit rs)
unfolding path layer breadth path_by_breadth end_element
path_is start unit rs = alike (expected start LAYER rs) _ _ _ _
    (λ first. alike (expected start DATATYPE first.1) _ _ _ _
    (λ second. alike (field start second.1) _ _ _ _
    (λ next. alike (optional start PATHTYPE path_type_of 0 next.0 next.1) _ _ _ _
    (λ kind. alike (optional start WIDTH (width_of unit) (pos 0) kind.0.1 kind.1) _ _ _ _
    (λ width. alike (optional start BGNEXTN (extension_of unit) (pos 0) width.0.1 width.1) _ _ _ _
    (λ begin. alike (optional start ENDEXTN (extension_of unit) (pos 0) begin.0.1 begin.1) _ _ _ _
    (λ end. sym (behind (demanded XY end.0.1) _ _ _
    (λ xy. behind (centre_of unit xy) _ _ _
    (λ centre. behind (expected start ENDEL end.1) _ _ _ (λ last. refl)))))))))))

single_is : (start unit : ℕ) (rs : List RecordOutcome)
    → reference start unit false rs ≡ as_element elements.Reference (single start unit rs)
unfolding single reference single_behind end_element
single_is start unit rs = sym (behind (expected start SNAME rs) _ _ _
    (λ sname. behind (name_of sname.0) _ _ _
    (λ name. behind (field start sname.1) _ _ _
    (λ next. behind (orientation start next.0 next.1) _ _ _
    (λ orient. behind (demanded XY orient.0.1) _ _ _
    (λ xy. behind (origin_of unit xy) _ _ _
    (λ origin. behind (expected start ENDEL orient.1) _ _ _ (λ last. refl))))))))

array_is : (start unit : ℕ) (rs : List RecordOutcome)
    → reference start unit true rs ≡ as_element elements.Reference (array start unit rs)
unfolding array reference array_behind end_element
array_is start unit rs = sym (behind (expected start SNAME rs) _ _ _
    (λ sname. behind (name_of sname.0) _ _ _
    (λ name. behind (field start sname.1) _ _ _
    (λ next. behind (orientation start next.0 next.1) _ _ _
    (λ orient. behind (demanded COLROW orient.0.1) _ _ _
    (λ colrow. behind (counts_of colrow) _ _ _
    (λ counts. behind (expected start XY orient.1) _ _ _
    (λ xy. behind (grid_of unit counts.0 counts.1 xy.0) _ _ _
    (λ grid. behind (expected start ENDEL xy.1) _ _ _ (λ last. refl))))))))))

pub element_is : (unit : ℕ) (first : RawRecord) (rs : List RecordOutcome)
    → element_by_parts unit first rs ≡ element unit first rs
unfolding element element_by_parts
element_is unit first rs =
    rw (
      boundary_is first.offset unit DATATYPE rs,
      boundary_is first.offset unit BOXTYPE rs,
      path_is first.offset unit rs,
      single_is first.offset unit rs,
      array_is first.offset unit rs,
    ) refl
