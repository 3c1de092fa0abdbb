use Rattle.std.proofs.Common.{rules, arith}
use Rattle.known.proofs.KnownLaws.{deep}
use Rattle.order.proofs.TypeLaws.{all_all, all_any, all_def, all_kind, all_there, any_all, any_any, any_def, any_kind, by_kinds, def_all, def_any, def_kind, def_less, def_more, def_same, fields_there, name_there}
use Rattle.order.proofs.TypeLaws.{pair_place, scalar_there, shapes_less, shapes_more, shapes_same, types_less, types_more}
use Rattle.order.proofs.types.+comparing.Goals as goal

pub compare_fields-overflow_sub-j : goal.compare_fields-overflow_sub-j
compare_fields-overflow_sub-j t c = search (rules, pair_place)

pub compare_scalars-compare_types-requires : goal.compare_scalars-compare_types-requires
compare_scalars-compare_types-requires t c = search (rules, all_there)

pub compare_scalars-cmp_names-requires : goal.compare_scalars-cmp_names-requires
compare_scalars-cmp_names-requires t c = search (rules, name_there)

pub compare_scalars-compare_fields-requires : goal.compare_scalars-compare_fields-requires
compare_scalars-compare_fields-requires t c = search (rules, fields_there)

pub compare_scalars-returns-in-Plain : goal.compare_scalars-returns-in-Plain
compare_scalars-returns-in-Plain t c = search (rules, by_kinds)

pub compare_scalars-returns-in-Plain-look : goal.compare_scalars-returns-in-Plain-look
compare_scalars-returns-in-Plain-look t c = search (rules, any_kind)

pub compare_scalars-returns-in-BoxAny-look : goal.compare_scalars-returns-in-BoxAny-look
compare_scalars-returns-in-BoxAny-look t c = search (rules, any_any)

pub compare_scalars-returns-in-BoxAll-look : goal.compare_scalars-returns-in-BoxAll-look
compare_scalars-returns-in-BoxAll-look t c = search (rules, any_all)

pub compare_scalars-returns-in-BoxDef-look : goal.compare_scalars-returns-in-BoxDef-look
compare_scalars-returns-in-BoxDef-look t c = search (rules, any_def)

pub compare_scalars-returns-in-Plain-look-2 : goal.compare_scalars-returns-in-Plain-look-2
compare_scalars-returns-in-Plain-look-2 t c = search (rules, all_kind)

pub compare_scalars-returns-in-BoxAny-look-2 : goal.compare_scalars-returns-in-BoxAny-look-2
compare_scalars-returns-in-BoxAny-look-2 t c = search (rules, all_any)

pub compare_scalars-returns-in-BoxAll-look-2 : goal.compare_scalars-returns-in-BoxAll-look-2
compare_scalars-returns-in-BoxAll-look-2 t c = search (rules, all_all)

pub compare_scalars-returns-in-BoxDef-look-2 : goal.compare_scalars-returns-in-BoxDef-look-2
compare_scalars-returns-in-BoxDef-look-2 t c = search (rules, all_def)

pub compare_scalars-returns-in-Plain-look-3 : goal.compare_scalars-returns-in-Plain-look-3
compare_scalars-returns-in-Plain-look-3 t c = search (rules, def_kind)

pub compare_scalars-returns-in-BoxAny-look-3 : goal.compare_scalars-returns-in-BoxAny-look-3
compare_scalars-returns-in-BoxAny-look-3 t c = search (rules, def_any)

pub compare_scalars-returns-in-BoxAll-look-3 : goal.compare_scalars-returns-in-BoxAll-look-3
compare_scalars-returns-in-BoxAll-look-3 t c = search (rules, def_all)

pub compare_scalars-returns-in-Less : goal.compare_scalars-returns-in-Less
compare_scalars-returns-in-Less t c = search (rules, def_less)

pub compare_scalars-returns-in-Equal : goal.compare_scalars-returns-in-Equal
compare_scalars-returns-in-Equal t c = search (rules, def_same)

pub compare_scalars-returns-in-Greater : goal.compare_scalars-returns-in-Greater
compare_scalars-returns-in-Greater t c = search (rules, def_more)

pub compare_types-compare_scalars-requires : goal.compare_types-compare_scalars-requires
compare_types-compare_scalars-requires t c =
    let below = deep _ _ _ c.requires.0 in
    (omega arith, (scalar_there _ _ _ c.requires.0 c.scalar_at.ensures, scalar_there _ _ _ c.requires.1 c.scalar_at-2.ensures))

pub compare_types-returns-in-Less : goal.compare_types-returns-in-Less
compare_types-returns-in-Less t c =
    types_less _ _ _ _ _ c.scalar_at.ensures c.scalar_at-2.ensures c.compare_scalars.ensures c.in-Less.is

pub compare_types-returns-in-Less-cmp_shape : goal.compare_types-returns-in-Less-cmp_shape
compare_types-returns-in-Less-cmp_shape t c =
    shapes_less _ _ _ _ _ c.scalar_at.ensures c.scalar_at-2.ensures c.compare_scalars.ensures c.in-Same.is _ c.cmp_shape.ensures c.shape_at.ensures c.shape_at-in-Same.ensures c.in-Less-cmp_shape.is

pub compare_types-returns-in-Equal : goal.compare_types-returns-in-Equal
compare_types-returns-in-Equal t c =
    shapes_same _ _ _ _ _ c.scalar_at.ensures c.scalar_at-2.ensures c.compare_scalars.ensures c.in-Same.is _ c.cmp_shape.ensures c.shape_at.ensures c.shape_at-in-Same.ensures c.in-Equal.is

pub compare_types-returns-in-Greater : goal.compare_types-returns-in-Greater
compare_types-returns-in-Greater t c =
    shapes_more _ _ _ _ _ c.scalar_at.ensures c.scalar_at-2.ensures c.compare_scalars.ensures c.in-Same.is _ c.cmp_shape.ensures c.shape_at.ensures c.shape_at-in-Same.ensures c.in-Greater.is

pub compare_types-returns-in-More : goal.compare_types-returns-in-More
compare_types-returns-in-More t c =
    types_more _ _ _ _ _ c.scalar_at.ensures c.scalar_at-2.ensures c.compare_scalars.ensures c.in-More.is
