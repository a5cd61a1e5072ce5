-- What the images of outlines keep: how many points there are, and that equal kinds of points stay equal.
use Rattle.std.specs.Prelude.{◌≡◌, Bool, List, fold, length, sum_by}
use Rattle.std.specs.List.{AllZip}
use Rattle.glif.specs.Limits.{IsWithinLimits}
use Rattle.glif.specs.Shapes.{contour_kinds}
use Rattle.glif.specs.declared.shape.Outline.{Outline}
use Rattle.font_project.specs.declared.outlined.OutlinedSource.{OutlinedSource}

-- what a filter makes of the kinds of points
abbrev pub Kinds : Type 0
Kinds = List (List Bool) → List (List Bool)

-- an outline and its image under filters that make this of the kinds
pub record IsImageOf (follows : List Kinds) (outline made : Outline) : Type 0 where
  pub within : IsWithinLimits made
  pub kinds : contour_kinds made ≡ fold (λ kinds follow. follow kinds) (contour_kinds outline) follows
  pub points : sum_by length made.contours ≡ sum_by length outline.contours

-- a source and the one of its images
pub record IsSourceOf (follows : List Kinds) (source made : OutlinedSource) : Type 0 where
  pub folder : made.folder ≡ source.folder
  pub outlines : AllZip (IsImageOf follows) source.outlines made.outlines
