use native.Mathlib.Omega.{arith}
use mathlib.Core.Logic.{inl, inr}
use mathlib.Core.Path.{sym, ◌∙◌}
use Rattle.model.specs.Types.{scalar_of}
use Rattle.known.proofs.KnownLaws.{deep, scalar-behind, has-scalar}
use Rattle.scalar.proofs.BoxLaws.{kinds_compatible, all_coded, content_there, all_compatible, scalars_apart, shapes_decide}
use Rattle.scalar.proofs.boxes.+compatibility.Goals as goal

pub compatible_boxes-compatible_contents-requires : goal.compatible_boxes-compatible_contents-requires
compatible_boxes-compatible_contents-requires t c =
    (omega arith, (content_there (c.in-Content.ensures _ _ c.requires.0.there), content_there (c.in-Content-inner_at.ensures _ _ c.requires.1.there)))

pub compatible_boxes-returns-in-Content-inner_at : goal.compatible_boxes-returns-in-Content-inner_at
compatible_boxes-returns-in-Content-inner_at t c = λ k l h g. all_compatible (c.in-Content.ensures _ k h) (c.in-Content-inner_at.ensures _ l g) c.compatible_contents.ensures

pub compatible_boxes-returns-in-Kind-inner_at : goal.compatible_boxes-returns-in-Kind-inner_at
compatible_boxes-returns-in-Kind-inner_at t c =
    λ k l h g.
    let other = c.in-Kind-inner_at.ensures _ l g in
    c.compatible.ensures ∙ kinds_compatible k l (inr other.1) (all_coded (c.in-Content.ensures _ k h)) other.0

pub compatible_boxes-returns-in-Kind : goal.compatible_boxes-returns-in-Kind
compatible_boxes-returns-in-Kind t c =
    λ k l h g.
    let first = c.in-Kind.ensures _ k h in
    c.compatible-in-Kind.ensures ∙ kinds_compatible k l (inl first.1) first.0 (c.kind_at.ensures _ l g)

pub compatible_contents-compatible_boxes-requires : goal.compatible_contents-compatible_boxes-requires
compatible_contents-compatible_boxes-requires t c =
    (omega (arith, deep _ _ _ c.requires.0), (has-scalar _ _ c.scalar_at.ensures _ c.requires.0, has-scalar _ _ c.scalar_at-2.ensures _ c.requires.1))

pub compatible_contents-returns-then-compatible_boxes : goal.compatible_contents-returns-then-compatible_boxes
compatible_contents-returns-then-compatible_boxes t c =
    λ t u h g.
    let scalars = c.compatible_boxes.ensures (scalar_of t) (scalar_of u) (scalar-behind _ _ c.scalar_at.ensures _ t h) (scalar-behind _ _ c.scalar_at-2.ensures _ u g) in
    shapes_decide t u (sym c.if-compatible_boxes.true ∙ scalars) (c.shape_at.ensures _ t h) (c.shape_at-then-compatible_boxes.ensures _ u g) c.compatible_with.ensures c.is_yes.ensures

pub compatible_contents-returns-else-compatible_boxes : goal.compatible_contents-returns-else-compatible_boxes
compatible_contents-returns-else-compatible_boxes t c =
    λ t u h g.
    let scalars = c.compatible_boxes.ensures (scalar_of t) (scalar_of u) (scalar-behind _ _ c.scalar_at.ensures _ t h) (scalar-behind _ _ c.scalar_at-2.ensures _ u g) in
    scalars_apart t u c.if-compatible_boxes.false scalars
