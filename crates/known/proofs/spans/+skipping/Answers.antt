use native.Mathlib.Omega.{arith}
use Rattle.known.proofs.KnownLaws.{has-scalar, deep}
use Rattle.known.proofs.SpanLaws.{span_plain, span_any, span_all, span_def, has_content, has_fields, few_inside, shallow_inside, span_type, skip_start, skip_has, skip_few, skip_next, skip_end}
use Rattle.known.proofs.spans.+skipping.Goals as goal

pub skip_fields-loop-init : goal.skip_fields-loop-init
skip_fields-loop-init t c = λ f h e. skip_start _ _ _ f h

pub skip_fields-skip_type-field-requires : goal.skip_fields-skip_type-field-requires
skip_fields-skip_type-field-requires t c =
    (omega arith, skip_has (c.loop.invariant c.requires.fields c.requires.there c.requires.counted) (omega arith))

pub skip_fields-overflow_add-types : goal.skip_fields-overflow_add-types
skip_fields-overflow_add-types t c =
    omega (arith, skip_few (c.loop.invariant c.requires.fields c.requires.there c.requires.counted) (omega arith) c.skip_type-field.ensures c.requires.there)

pub skip_fields-loop-preserved : goal.skip_fields-loop-preserved
skip_fields-loop-preserved t c =
    λ f h e.
    skip_next (c.loop.invariant f h e) (omega arith) c.skip_type-field.ensures c.max-deepest.ensures

pub skip_fields-returns : goal.skip_fields-returns
skip_fields-returns t c = λ f h e. skip_end (c.loop.invariant f h e) (omega arith)

pub skip_scalar-skip_type-requires : goal.skip_scalar-skip_type-requires
skip_scalar-skip_type-requires t c = (omega arith, has_content _ _ _ c.requires c.in-BoxAll.ensures)

pub skip_scalar-skip_fields-requires : goal.skip_scalar-skip_fields-requires
skip_scalar-skip_fields-requires t c = (omega arith, has_fields _ _ _ c.requires c.in-BoxDef.ensures)

pub skip_scalar-returns-in-Plain : goal.skip_scalar-returns-in-Plain
skip_scalar-returns-in-Plain t c = λ k h. span_plain _ k (c.in-Plain.ensures _ k h)

pub skip_scalar-returns-in-BoxAny : goal.skip_scalar-returns-in-BoxAny
skip_scalar-returns-in-BoxAny t c = λ k h. span_any _ k (c.in-BoxAny.ensures _ k h)

pub skip_scalar-returns-in-BoxAll : goal.skip_scalar-returns-in-BoxAll
skip_scalar-returns-in-BoxAll t c = λ k h. span_all _ _ _ k (c.in-BoxAll.ensures _ k h) c.skip_type.ensures

pub skip_scalar-returns-in-BoxDef : goal.skip_scalar-returns-in-BoxDef
skip_scalar-returns-in-BoxDef t c = λ k h. span_def _ _ _ k (c.in-BoxDef.ensures _ k h) c.skip_fields.ensures

pub skip_type-skip_scalar-scalar-requires : goal.skip_type-skip_scalar-scalar-requires
skip_type-skip_scalar-scalar-requires t c =
    (omega (arith, deep _ _ _ c.requires), has-scalar _ _ c.scalar_at.ensures _ c.requires)

pub skip_type-overflow_add-result : goal.skip_type-overflow_add-result
skip_type-overflow_add-result t c =
    omega (arith, few_inside _ _ _ c.scalar_at.ensures _ c.skip_scalar-scalar.ensures c.requires)

pub skip_type-overflow_add-result-2 : goal.skip_type-overflow_add-result-2
skip_type-overflow_add-result-2 t c =
    omega (arith, shallow_inside _ _ _ c.scalar_at.ensures _ c.skip_scalar-scalar.ensures c.requires, c.ranges.depth)

pub skip_type-returns : goal.skip_type-returns
skip_type-returns t c = span_type _ _ _ c.scalar_at.ensures _ c.skip_scalar-scalar.ensures
