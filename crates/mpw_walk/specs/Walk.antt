-- The preconditions of a walk on its roots.
use Rattle.std.specs.Prelude.{◌≡◌, ◌<◌, true, List, length, IfSome}
use Rattle.mpw_hier.specs.declared.submission.Submission.{Submission}
use Rattle.mpw_hier.specs.Boxes.{placed_box, is_box_near}
use Rattle.mpw_hier.specs.Values.{extent}
use Rattle.mpw_walk.specs.declared.root.Root.{Root}

-- A root is on the shelf, and its placed content is near.
pub record IsRoot (ss : List Submission) (root : Root) : Type 0 where
  pub present : root.submission < length ss
  pub near : IfSome (extent ss root.submission)
      (λ box. is_box_near (placed_box root.placing box) ≡ true)
