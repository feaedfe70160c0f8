-- For private functions and proofs: a window in the coordinates of a placed structure.
use Rattle.std.specs.Prelude.{neg_ℤ, ◌-ℤ◌}
use Rattle.mpw_geom.specs.declared.plane.Box2.{Box2}
use Rattle.mpw_geom.specs.declared.plane.Point.{Point}
use Rattle.mpw_geom.specs.declared.plane.Orient.{Orient}
use Rattle.mpw_geom.specs.declared.plane.Orient.TheVariants.{R0, R90, R180, R270, M0, M90, M180, M270}
use Rattle.mpw_geom.specs.declared.placing.Placing.{Placing}

-- The box before a displacement.
abbrev pub back : Point → Box2 → Box2
back d w = record { x0 = w.x0 -ℤ d.x; y0 = w.y0 -ℤ d.y; x1 = w.x1 -ℤ d.x; y1 = w.y1 -ℤ d.y }

-- The corners mirrored at the origin, each with its sign changed.
abbrev pub reversed : Box2 → Box2
reversed b = record { x0 = neg_ℤ b.x1; y0 = neg_ℤ b.y1; x1 = neg_ℤ b.x0; y1 = neg_ℤ b.y0 }

-- The box that an orientation takes to another one.
abbrev pub unturned : Orient → Box2 → Box2
unturned R0 m = record { x0 = m.x0; y0 = m.y0; x1 = m.x1; y1 = m.y1 }
unturned R90 m = record { x0 = m.y0; y0 = neg_ℤ m.x1; x1 = m.y1; y1 = neg_ℤ m.x0 }
unturned R180 m = record { x0 = neg_ℤ m.x1; y0 = neg_ℤ m.y1; x1 = neg_ℤ m.x0; y1 = neg_ℤ m.y0 }
unturned R270 m = record { x0 = neg_ℤ m.y1; y0 = m.x0; x1 = neg_ℤ m.y0; y1 = m.x1 }
unturned M0 m = record { x0 = m.x0; y0 = neg_ℤ m.y1; x1 = m.x1; y1 = neg_ℤ m.y0 }
unturned M90 m = record { x0 = m.y0; y0 = m.x0; x1 = m.y1; y1 = m.x1 }
unturned M180 m = record { x0 = neg_ℤ m.x1; y0 = m.y0; x1 = neg_ℤ m.x0; y1 = m.y1 }
unturned M270 m = record { x0 = neg_ℤ m.y1; y0 = neg_ℤ m.x1; x1 = neg_ℤ m.y0; y1 = neg_ℤ m.x0 }

-- The window in the coordinates of a placed structure: what misses it misses the window when it is placed.
abbrev pub own_window : Placing → Box2 → Box2
own_window t w = unturned t.orient (back t.by w)
