-- How many bytes suffice for a shape, a scalar up to its contents and a type that are packed; that they do is shown in `proofs/PackedLaws`.
use Rattle.std.specs.Prelude.{ℕ, ◌+◌, ◌*◌}
use Rattle.model.specs.Limits.{max_sizes, max_name}
use Rattle.packing.specs.Packed.{packed_size}

-- the bytes of a shape: two counts, and as many opening and closing sizes as there may be
abbrev pub packed_shape_bytes : ℕ
packed_shape_bytes = 2 + packed_size * (max_sizes + max_sizes)

-- the bytes of a scalar up to its contents: a kind, a form, the length of a name, the name and a count
abbrev pub packed_scalar_bytes : ℕ
packed_scalar_bytes = 1 + 1 + 1 + max_name + 1

-- and so of one type, those inside it left out: 134, for each of at most 32
abbrev pub packed_type_bytes : ℕ
packed_type_bytes = packed_shape_bytes + packed_scalar_bytes
