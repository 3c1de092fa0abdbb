-- What a loop over the heads has still to come: how many types, and that they stay within the limits from head to head.
use Rattle.std.specs.Prelude.{ℕ, ◌+◌, ◌≤◌, ◌<◌, ◌≡◌, refl}
use Rattle.std.proofs.Common.{arith}
use Rattle.model.specs.Limits.{max_types, max_depth}
use Rattle.model.specs.Types.{Shape, Scalar, plain, box_any, box_all, box_def, Fields, no_fields, field, Ty, ty, field_count, inside, among, below, deepest}
use Rattle.model.specs.Within.{ShapeWithin, ScalarWithin, FieldsWithin, Within}
use Rattle.packing.specs.Heads.{one_field, and_fields, contents, held_count}

-- ---- some fields before others

count-and_fields : (f g : Fields) → field_count (and_fields f g) ≡ field_count f + field_count g
count-and_fields no_fields g = omega arith
count-and_fields (field s k f) g = omega (arith, count-and_fields f g)

among-and_fields : (f g : Fields) → among (and_fields f g) ≡ among f + among g
unfolding among
among-and_fields no_fields g = omega arith
among-and_fields (field s k f) g = omega (arith, among-and_fields f g)

and_fields-within : (f g : Fields) → FieldsWithin f → FieldsWithin g → FieldsWithin (and_fields f g)
and_fields-within no_fields g h i = i
and_fields-within (field s k f) g h i = (h.0, h.1, and_fields-within f g h.2 i)

deepest-and_fields : (f g : Fields) (n : ℕ) → deepest f ≤ n → deepest g ≤ n → deepest (and_fields f g) ≤ n
unfolding deepest
deepest-and_fields no_fields g n h i = i
deepest-and_fields (field s k f) g n h i = omega (arith, deepest-and_fields f g n (omega arith) i)

-- ---- a scalar's contents before others

pub count-contents : (k : Scalar) (f : Fields) → field_count (contents k f) ≡ held_count k + field_count f
count-contents (plain k) f = omega arith
count-contents box_any f = omega arith
count-contents (box_all s k) f = omega arith
count-contents (box_def n g) f = count-and_fields g f

among-contents : (k : Scalar) (f : Fields) → among (contents k f) ≡ inside k + among f
unfolding among
among-contents (plain k) f = omega arith
among-contents box_any f = omega arith
among-contents (box_all s k) f = omega arith
among-contents (box_def n g) f = among-and_fields g f

contents-within : (k : Scalar) (f : Fields) → ScalarWithin k → FieldsWithin f → FieldsWithin (contents k f)
contents-within (plain k) f h i = i
contents-within box_any f h i = i
contents-within (box_all s k) f h i = (h.0, h.1, i)
contents-within (box_def n g) f h i = and_fields-within g f h.2 i

contents-shallow : (k : Scalar) (f : Fields) (n : ℕ) → below k ≤ n → deepest f ≤ n → deepest (contents k f) ≤ n
unfolding deepest
contents-shallow (plain k) f n h i = i
contents-shallow box_any f n h i = i
contents-shallow (box_all s k) f n h i = omega arith
contents-shallow (box_def n g) f m h i = deepest-and_fields g f m h i

-- ---- what is still to come

-- Fields within the limits of a type, as what a loop over the heads has still to come always is.
pub record Coming (f : Fields) : Type 0 where
  pub records : FieldsWithin f
  pub few : among f ≤ max_types
  pub shallow : deepest f ≤ max_depth

-- at first the type alone
pub coming-one_field : (t : Ty) → Within t → Coming (one_field t)
unfolding among deepest
coming-one_field (ty o k) w = record {
  records = (w.records.0, w.records.1, tt);
  few = omega (arith, w.few);
  shallow = omega (arith, w.shallow);
}

-- and past a head its contents too
module _ (o : Shape) (k : Scalar) (f : Fields) (h : Coming (field o k f)) where
  pub coming-contents : Coming (contents k f)
  unfolding among deepest
  coming-contents = record {
    records = contents-within k f h.records.1 h.records.2;
    few = omega (arith, among-contents k f, h.few);
    shallow = contents-shallow k f max_depth (omega (arith, h.shallow)) (omega (arith, h.shallow));
  }

  pub coming-shape : ShapeWithin o
  coming-shape = h.records.0

  pub coming-scalar : ScalarWithin k
  coming-scalar = h.records.1

  pub coming-few : inside k < max_types
  unfolding among
  coming-few = omega (arith, h.few)

  pub coming-shallow : below k < max_depth
  unfolding deepest
  coming-shallow = omega (arith, h.shallow)

-- there are no more fields than types, so how many are to come is a small number
count-among : (f : Fields) → field_count f ≤ among f
unfolding among
count-among no_fields = omega arith
count-among (field s k f) = omega (arith, count-among f)

pub coming-count : (f : Fields) → Coming f → field_count f ≤ max_types
coming-count f h = omega (arith, count-among f, h.few)

pub count-one_field : (t : Ty) → field_count (one_field t) ≡ 1
count-one_field (ty o k) = refl

-- by how many are to come: none, or a first and others
pub none-coming : (f : Fields) → field_count f ≡ 0 → f ≡ no_fields
none-coming no_fields e = refl
none-coming (field s k f) e = absurd (omega arith)

pub some-coming : {C : Type 0} (f : Fields) → 0 < field_count f → ((o : Shape) (k : Scalar) (g : Fields) → f ≡ field o k g → C) → C
some-coming no_fields h go = absurd (omega arith)
some-coming (field o k g) h go = go o k g refl
