-- For private functions and proofs: entries without the shapes on other layers.
use Rattle.std.specs.Prelude.{List, All, Contains}
use Rattle.mpw_geom.specs.declared.plane.Layer.{Layer}
use Rattle.mpw_hier.specs.Items.{Item}
use Rattle.mpw_hier.specs.declared.submission.Submission.{Submission}
use Rattle.mpw_columns_contents.specs.declared.thing.Thing.{Thing}
use Rattle.mpw_columns_contents.specs.Contents.{AreSound, IsNear, IsOn, IsThingOn}
use Rattle.mpw_columns_contents.specs.Things.{things_items}

-- None of these is on one of the layers.
abbrev pub ShowsNone : List Layer → List Item → Type 0
ShowsNone layers items = (i : Item) → Contains items i → IsOn layers i.element → ⊥

-- All of these that are on the layers are included, and nothing else.
pub record KeepsOn (layers : List Layer) (all shown : List Item) : Type 0 where
  pub kept : (i : Item) → Contains all i → IsOn layers i.element → Contains shown i
  pub sound : AreSound all shown

-- Entries without the shapes on other layers.
pub record AreLayered (ss : List Submission) (layers : List Layer) (all things : List Thing)
    : Type 0 where
  pub keeps : KeepsOn layers (things_items ss all) (things_items ss things)
  pub near : All IsNear things
  pub on : All (IsThingOn ss layers) things
