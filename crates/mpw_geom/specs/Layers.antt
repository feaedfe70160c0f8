-- When two layers are the same.
use Rattle.std.specs.Prelude.{◌==◌, ◌&&◌, Bool}
use Rattle.mpw_geom.specs.declared.plane.Layer.{Layer}

-- the layers are the same: their numbers and their datatypes are equal
abbrev pub same_layer : Layer → Layer → Bool
same_layer a b = (a.layer == b.layer) && (a.datatype == b.datatype)
