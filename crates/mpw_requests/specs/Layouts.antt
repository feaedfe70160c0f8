-- The requests of the layouts: what each needs, its line, and its parts.
use Rattle.std.specs.Prelude.{ℕ, Bool, true, false, List, codes, Option, None, Some}
use Rattle.mpw_permissions.specs.declared.permission.Object.TheVariants.{Cell}
use Rattle.mpw_permissions.specs.declared.permission.Operation.TheVariants as to
use Rattle.mpw_requests.specs.declared.layouts.LayoutRequest.{LayoutRequest}
use Rattle.mpw_requests.specs.declared.layouts.LayoutRequest.TheVariants as ask
use Rattle.mpw_requests.specs.declared.layouts.LayoutVerb.{LayoutVerb}
use Rattle.mpw_requests.specs.declared.layouts.LayoutVerb.TheVariants.{Submit, Cells, Shapes}
use Rattle.mpw_requests.specs.declared.need.Need.{Need}
use Rattle.mpw_requests.specs.declared.need.Need.TheVariants.{Session, Permission}
use Rattle.mpw_requests.specs.declared.parts.Operands.{Operands}
use Rattle.mpw_requests.specs.declared.parts.Operands.TheVariants as operands
use Rattle.mpw_requests.specs.declared.request.Request.{Request}
use Rattle.mpw_requests.specs.declared.request.Request.TheVariants as group
use Rattle.mpw_requests.specs.declared.table.Shape.{Shape}
use Rattle.mpw_requests.specs.declared.table.Shape.TheVariants as shape
use Rattle.mpw_requests.specs.declared.table.Verb.{Verb}
use Rattle.mpw_requests.specs.declared.table.Verb.TheVariants as verb

-- what a request needs
abbrev pub layout_need : LayoutRequest → Need
layout_need (ask.Submit cell top text) = Permission to.Submit (Cell cell)
layout_need ask.Cells = Session
layout_need (ask.Shapes cell) = Permission to.Read (Cell cell)

-- the word of a verb, and the shape of its operands
abbrev pub layout_form : LayoutVerb → List ℕ × Shape
layout_form Submit = (codes "submit", shape.Pair)
layout_form Cells = (codes "cells", shape.Alone)
layout_form Shapes = (codes "shapes", shape.Name)

-- whether a request of the verb only lists
abbrev pub layout_lists : LayoutVerb → Bool
layout_lists Submit = false
layout_lists verb = true

-- the verb and the operands of a request
abbrev pub layout_parts : LayoutRequest → Verb × Operands
layout_parts (ask.Submit cell top text) = (verb.Layout Submit, operands.Pair cell top)
layout_parts ask.Cells = (verb.Layout Cells, operands.Alone)
layout_parts (ask.Shapes cell) = (verb.Layout Shapes, operands.Name cell)

-- the request of a verb and its operands, if they have the verb's shape and no payload follows
abbrev pub layout_request : LayoutVerb → Operands → Option Request
layout_request Cells operands.Alone = Some (group.Layout ask.Cells)
layout_request Shapes (operands.Name cell) = Some (group.Layout (ask.Shapes cell))
layout_request verb operands = None
