-- The levels of a document's elements.
use Rattle.std.specs.Prelude.{ℕ, ◌+◌, Bool, cond, ◌&&◌, List, Some, None, codes, Option, ◌==◌, nat_le}
use Rattle.std.specs.Str.{bytes_eq}
use Rattle.fields.specs.Faults.{Judged, good, bad}
use Rattle.fields.specs.declared.level.Level.{Level}
use Rattle.fields.specs.declared.level.Level.TheVariants.{Body, Div, P, Span}

-- the level of a name
abbrev pub level_of : List ℕ → Option Level
level_of name =
    cond (bytes_eq name (codes "body")) (Some Body)
    (cond (bytes_eq name (codes "div")) (Some Div)
    (cond (bytes_eq name (codes "p")) (Some P)
    (cond (bytes_eq name (codes "span")) (Some Span) None)))

-- how deep a level stands
abbrev pub depth_of : Level → ℕ
depth_of Body = 1
depth_of Div = 2
depth_of P = 3
depth_of Span = 4

-- whether a depth may follow that of the element before, which is 0 before the first:
-- the first is the body, each later one is at least 2 deep and at most one deeper
abbrev pub level_fits_of : ℕ → ℕ → Bool
level_fits_of before d = cond (before == 0) (d == 1) (nat_le 2 d && nat_le d (before + 1))

abbrev pub level_in : ℕ → Option Level → Judged ℕ
level_in before None = bad 6 0
level_in before (Some l) = cond (level_fits_of before (depth_of l)) (good (depth_of l)) (bad 6 0)

-- a level's field: the depth, or 6
abbrev pub level_field_of : ℕ → List ℕ → Judged ℕ
level_field_of before name = level_in before (level_of name)
