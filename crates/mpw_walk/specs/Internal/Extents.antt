-- The extents of what a walk enters, and the boxes of what it gives.
use Rattle.mpw_hier.specs.Holding.{ExtentsAreOrdered, ExtentsHoldItems, ExtentsAreLeast, ExtentsArePlaced}
use Rattle.mpw_hier.specs.Placed.{BoxesArePlacedAgain, UnmovedShapesHaveTheirBoxes}

-- Extents are least boxes, and are placed with their content.
pub record ExtentsAreWalked : Type 0 where
  pub ordered : ExtentsAreOrdered
  pub holds : ExtentsHoldItems
  pub least : ExtentsAreLeast
  pub placed : ExtentsArePlaced
  pub again : BoxesArePlacedAgain
  pub unmoved : UnmovedShapesHaveTheirBoxes
