-- The words of faults, as they are printed.
use Rattle.std.specs.Prelude.{ℕ, List, codes}
use Rattle.mpw_hier.specs.declared.fault.HierFault.{HierFault}
use Rattle.mpw_hier.specs.declared.fault.HierFault.TheVariants as hier

unfoldable pub hier_word : HierFault → List ℕ
hier_word hier.Memory = codes "memory"
hier_word hier.NoTop = codes "notop"
hier_word hier.Cycle = codes "cycle"
hier_word hier.NoCell = codes "nocell"
hier_word hier.Extent = codes "extent"
hier_word hier.Shapes = codes "shapes"
hier_word hier.Deep = codes "deep"
hier_word hier.Full = codes "full"
