-- The walk over a spec and a type: what its answer says for each way out of a function.
use Prim.Native.Nat.{ℕ, suc, ◌+◌, ◌-◌, ◌*◌, ◌≤◌, ◌<◌}
use native.Mathlib.Omega.{arith}
use native.Mathlib.Numerals.{add-one}
use mathlib.Core.Bool.{Bool, true, false, cond}
use mathlib.Core.List.{List, [], ◌∷◌, ◌++◌, append_assoc, append-nil}
use mathlib.Core.Option.{Option}
use mathlib.Core.Path.{◌≡◌, refl, sym, ◌∙◌, ap, subst}
use lib.ListN.{length, take}
use Rattle.std.specs.Prelude.{Result, Ok, Err}
use Rattle.std.specs.Result.{result_unwrap_or}
use Rattle.model.specs.Limits.{max_types, max_depth}
use Rattle.model.specs.Within.{ShapeWithin}
use Rattle.model.specs.Types.{Shape, Scalar, box_def, Fields, no_fields, field, Ty, ty, shape_of, box_of, field_of, field_count, inside, among, types}
use Rattle.format.specs.Records.{box_start, count_of, list_of, write_shape, write_scalar, write_fields}
use Rattle.format.specs.Suffices.{shape_bytes, box_bytes, shape-suffices}
use Rattle.format.specs.Outcome.{Outcome, accepted, refused, mapped}
use Rattle.lent.specs.Over.{over, take-over}
use Rattle.limits.specs.Answers.{number_of}
use Rattle.limits.specs.declared.refusal.Reason.{Reason}
use Rattle.record.specs.Answers.{shape_for}
use Rattle.record.specs.declared.DynShape.{DynShape}
use Rattle.validation.specs.CheckShape.{Side, unsided, check_shape}
use Rattle.validation.proofs.CheckShapeLaws.{check_shape-within}
use Rattle.validation.specs.CheckScalar.{◌>>=◌, in_turn, check_scalar, check_fields}
use Rattle.validation.proofs.OutcomeLaws.{and_rest}
use Rattle.validation.specs.MeasureLaws.{limited, fields_limited}
use Rattle.validation.proofs.MeasureLaws.{limited-counts, limited-true, fields_limited-true}
use Rattle.validation.proofs.KeepsLaws.{check_scalar-keeps}
use Rattle.validation.proofs.CheckScalarSteps.{at_hand, after_it, fields-step, field-begun, field_next}
use Rattle.known.specs.Known.{TypeAt, HasType, SpanIs}
use Rattle.known.specs.declared.Span.{Span}
use Rattle.validate.specs.Answers.{checked_of}
use Rattle.validate.specs.Lists.{next_place, ListAt, Countable}
use Rattle.validate.specs.Plans.{Pair, scalar_after, shape_after, type_after, TwoLists, fields_after, any_bytes, InsideIs, PairsAre, Planned}
use Rattle.validate.specs.Walk.{type_bytes, Piece, piece, validated_of, scalar_piece, type_piece, fields_piece, Roomy, TypeDone, ScalarDone, FieldsDone, CopyIs, HeadIs, Copyable, Listable, def_head}
use Rattle.validate.specs.declared.Extent.{Extent}
use Rattle.validate.specs.declared.Items.{Items}
use Rattle.validate.specs.declared.Plan.{Plan}
use Rattle.validate.specs.declared.Plan.TheVariants.{Keep, Take, Inside, Pairs}
use Rattle.validate.proofs.ListLaws.{has, list-first, list_rest, next-by-span}
use Rattle.validate.proofs.HeadLaws.{head-behind}
use Rattle.validate.proofs.PlanLaws.{items, some_left}

-- what is answered: where the bytes end and how many types they are, or why it is refused
abbrev pub Validated : Type 0
Validated = Result Extent Reason

roomy_more : (r : Validated) (m n : ℕ) → m ≤ n → Roomy r m → Roomy r n
roomy_more (Ok x) m n h j = omega arith
roomy_more (Err r) m n h j = tt

-- ---- a type: its shape was written, its scalar is judged first

-- `before` stood before the type and `after` before its scalar, which became os
module _ (before after out : List ℕ) (os : Outcome Scalar) (oh : Outcome Shape) where
  module _ (end n : ℕ) (wrote : accepted (piece (take end out) n) ≡ mapped (scalar_piece after) os) where
    type-clash : (k : ℕ) → oh ≡ refused k 0 → refused k 0 ≡ mapped (type_piece before) (in_turn os oh)
    type-clash m h = go os wrote
      where
        go : (o : Outcome Scalar) → accepted (piece (take end out) n) ≡ mapped (scalar_piece after) o → refused m 0 ≡ mapped (type_piece before) (in_turn o oh)
        go (accepted x) q = rw h
        go (refused k p) q = let z : ◌≡◌ {A = ℕ} 0 1 = cc in absurd (omega arith)

    type-done : (v : Shape) → oh ≡ accepted v → after ≡ before ++ write_shape v → accepted (piece (take end out) (n + 1)) ≡ mapped (type_piece before) (in_turn os oh)
    type-done v h b = go os wrote
      where
        go : (o : Outcome Scalar) → accepted (piece (take end out) n) ≡ mapped (scalar_piece after) o → accepted (piece (take end out) (n + 1)) ≡ mapped (type_piece before) (in_turn o oh)
        go (accepted x) q =
            let y : take end out ≡ after ++ write_scalar x = cc in
            let m : n ≡ inside x = cc in
            let bytes = y ∙ ap (λ l. l ++ write_scalar x) b ∙ append_assoc before (write_shape v) (write_scalar x) in
            rw h (ap (λ l. accepted (piece l (n + 1))) bytes ∙ ap (λ k. accepted (piece (before ++ (write_shape v ++ write_scalar x)) k)) (add-one n ∙ ap suc m))
        go (refused k p) q = let z : ◌≡◌ {A = ℕ} 0 1 = cc in absurd (omega arith)

pub scalar-few : {s : List ℕ} {i : ℕ} {t : List ℕ} {j o a : ℕ} (w : Pair s i t j o a) (to : ℕ) (before out : List ℕ) (x : Extent) → ScalarDone w to before (Ok x) out → x.types < max_types
scalar-few {s} {i} {t} {j} {o} {a} w to before out x h = go (scalar_after w) refl h.0
  where
    go : (u : Outcome Scalar) → scalar_after w ≡ u → accepted (piece (take x.end out) x.types) ≡ mapped (scalar_piece (take to before)) u → x.types < max_types
    go (accepted l) q c =
        let m : x.types ≡ inside l = cc in
        let k = check_scalar-keeps w.spec-scalar (limited o a) (limited-counts o a) w.type-shape w.type-scalar l w.limits q in
        omega (arith, m, (limited-true o a l k).0)
    go (refused k p) q c = let z : ◌≡◌ {A = ℕ} 0 1 = cc in absurd (omega arith)

-- ---- shapes as they were checked

-- the shapes x and y of two types, by value, and what is written: the merged shape, or the type's where there is none
module _ {s : List ℕ} {i : ℕ} {t : List ℕ} {j o a : ℕ} (w : Pair s i t j o a) (side : Side) (x y : DynShape) (c : Result DynShape Reason) (checked : checked_of c ≡ check_shape side (shape_for x) (shape_for y))
    (first : (d : ℕ) (u : Ty) → TypeAt s i d u → shape_for x ≡ shape_of u) (second : (d : ℕ) (u : Ty) → TypeAt t j d u → shape_for y ≡ shape_of u) where
  type-shape-is : shape_for y ≡ w.type-shape
  type-shape-is = second max_depth (ty w.type-shape w.type-scalar) w.type-there

  pub shapes-checked : checked_of c ≡ shape_after side w
  shapes-checked =
      checked
      ∙ ap (λ p. check_shape side p (shape_for y)) (first max_depth (ty w.spec-shape w.spec-scalar) w.spec-there)
      ∙ ap (check_shape side w.spec-shape) type-shape-is

  pub shape-short : {p : DynShape} → p ≡ result_unwrap_or c y → length (write_shape (shape_for p)) ≤ shape_bytes
  shape-short {p} put = shape-suffices (shape_for p) (rw put (go c shapes-checked))
    where
      go : (r : Result DynShape Reason) → checked_of r ≡ shape_after side w → ShapeWithin (shape_for (result_unwrap_or r y))
      go (Ok m) e = check_shape-within side w.spec-shape w.type-shape (shape_for m) w.spec-there.records.0 w.type-there.records.0 (sym e)
      go (Err r) e = subst ShapeWithin (sym type-shape-is) w.type-there.records.0

  pub merged-is : {m p : DynShape} → c ≡ Ok m → p ≡ result_unwrap_or c y → checked_of (Ok p) ≡ shape_after side w
  merged-is {m} {p} e put = let q : p ≡ m = put ∙ ap (λ r. result_unwrap_or r y) e in ap (λ u. checked_of (Ok u)) q ∙ ap checked_of (sym e) ∙ shapes-checked

  pub clash-is : {r : Reason} → c ≡ Err r → checked_of (Err r) ≡ shape_after side w
  clash-is e = ap checked_of (sym e) ∙ shapes-checked

pub laid-behind : (d w : List ℕ) (to : ℕ) {end : ℕ} {after : List ℕ} → end ≡ to + length w → end ≤ length d → after ≡ over d to w → take end after ≡ take to d ++ w
laid-behind d w to {end} {after} e h laid = ap (λ n. take n after) e ∙ ap (take (to + length w)) laid ∙ take-over d to w (omega (arith, e))

-- one pair of types: the shape p was laid at `to`, up to n, which gave d'
module _ {s : List ℕ} {i : ℕ} {t : List ℕ} {j o a : ℕ} (w : Pair s i t j o a) (to : ℕ) (d : List ℕ) (room : to + type_bytes * (max_types - o) ≤ length d) (p : DynShape) (short : length (write_shape (shape_for p)) ≤ shape_bytes) where
  pub shape-room : to + length (write_shape (shape_for p)) ≤ length d
  shape-room = let r = some_left o a w.type-scalar w.limits in omega (arith, r.0)

  module _ {n : ℕ} (begins : n ≡ to + length (write_shape (shape_for p))) where
    pub scalar-room : (d' : List ℕ) → length d' ≡ length d → n + box_bytes + type_bytes * (max_types - 1 - o) ≤ length d'
    scalar-room d' e = let r = some_left o a w.type-scalar w.limits in omega (arith, r.0)

    module _ (side : Side) (d' : List ℕ) (out : List ℕ) where
      module _ {x : Extent} (done : ScalarDone w n d' (Ok x) out) where
        pub pair-clash : (r : Reason) → checked_of (Err r) ≡ shape_after side w → TypeDone side w to d (Err r) out
        pair-clash r h = (type-clash (take to d) (take n d') out (scalar_after w) (shape_after side w) x.end x.types done.0 (number_of r) (sym h), tt)

        pub pair-done : d' ≡ over d to (write_shape (shape_for p)) → checked_of (Ok p) ≡ shape_after side w → TypeDone side w to d (Ok (record { end = x.end; types = x.types + 1 })) out
        pair-done laid h =
            let u : Shape = shape_for p in
            let b : take n d' ≡ take to d ++ write_shape u = laid-behind d (write_shape u) to begins (omega (arith, shape-room)) laid in
            (type-done (take to d) (take n d') out (scalar_after w) (shape_after side w) x.end x.types done.0 u (sym h) b, omega (arith, done.1))

-- ---- a scalar: what is copied has room

module _ {s : List ℕ} {i : ℕ} {t : List ℕ} {j o a : ℕ} (w : Pair s i t j o a) (to : ℕ) {room : ℕ} (h : to + box_bytes + type_bytes * (max_types - 1 - o) ≤ room) where
  pub keep_copyable : Copyable t j to room
  keep_copyable = let r = limited-true o a w.type-scalar w.limits in record { type = ty w.type-shape w.type-scalar; there = w.type-there; space = omega (arith, r.0) }

  pub take_copyable : scalar_after w ≡ accepted w.spec-scalar → Copyable s i to room
  take_copyable e =
      let k = check_scalar-keeps w.spec-scalar (limited o a) (limited-counts o a) w.type-shape w.type-scalar w.spec-scalar w.limits e in
      let r = limited-true o a w.spec-scalar k in
      record { type = ty w.spec-shape w.spec-scalar; there = w.spec-there; space = omega (arith, r.0) }

  pub head-room : to + box_bytes ≤ room
  head-room = omega arith

module _ {s : List ℕ} {i : ℕ} {t : List ℕ} {j o a : ℕ} (w : Pair s i t j o a) (to : ℕ) (before out : List ℕ) (x : Extent) where
  pub copied-done : (k : Scalar) → scalar_after w ≡ accepted k → CopyIs x out (scalar_piece (take to before) k) (to + box_bytes) → ScalarDone w to before (Ok x) out
  copied-done k e h = (ap accepted h.bytes ∙ ap (mapped (scalar_piece (take to before))) (sym e), h.room)

-- ---- into boxes

inside-wrote : (before : List ℕ) (u : Outcome Ty) → mapped (type_piece (before ++ box_start 1)) u ≡ mapped (scalar_piece before) (mapped box_of u)
unfolding write_scalar inside
inside-wrote before (accepted (ty v x)) = ap (λ l. accepted (piece l (suc (inside x)))) (append_assoc before (box_start 1) (write_shape v ++ write_scalar x))
inside-wrote before (refused k p) = refl

pairs_wrote : (before : List ℕ) (label : Option (List ℕ)) (count : ℕ) (u : Outcome Fields) → ((h : Fields) → u ≡ accepted h → field_count h ≡ count)
    → mapped (fields_piece (before ++ def_head label count) 0) u ≡ mapped (scalar_piece before) (mapped (box_def label) u)
unfolding write_scalar inside
pairs_wrote before label count (accepted h) same =
    let c : field_count h ≡ count = same h refl in
    let n : 0 + among h ≡ among h = omega arith in
    let tail : def_head label count ++ write_fields h ≡ write_scalar (box_def label h) = rw c (ap (λ l. box_start 2 ++ (count_of label ∷ l)) (append_assoc (list_of label) (count ∷ []) (write_fields h))) in
    let b : (before ++ def_head label count) ++ write_fields h ≡ before ++ write_scalar (box_def label h) = append_assoc before (def_head label count) (write_fields h) ∙ ap (λ l. before ++ l) tail in
    ap (λ l. accepted (piece l (0 + among h))) b ∙ ap (λ m. accepted (piece (before ++ write_scalar (box_def label h)) m)) n
pairs_wrote before label count (refused k p) same = refl

-- ---- fields keep their number

fields-counted : (f : Fields) (keeps : Fields → Bool) (g h : Fields) → check_fields f keeps g ≡ accepted h → field_count h ≡ field_count g
unfolding check_fields
fields-counted no_fields keeps g h e = let q : g ≡ h = cc in rw (← q)
fields-counted (field s k f) keeps no_fields h e = let q : no_fields ≡ h = cc in rw (← q)
fields-counted (field s k f) keeps (field t l g) h e = go (λ c u q. fields-counted f c g u q) (in_turn (check_scalar k (λ x. keeps (field t x g)) t l) (check_shape unsided s t)) e
  where
    last : (r : Ty) (o : Outcome Fields) → ((u : Fields) → o ≡ accepted u → field_count u ≡ field_count g) → (o >>= λ u. accepted (field_of r u)) ≡ accepted h → field_count h ≡ suc (field_count g)
    last (ty v x) (accepted u) same e = let q : field v x u ≡ h = cc in rw (← q) (ap suc (same u refl))
    last r (refused m p) same e = let z : ◌≡◌ {A = ℕ} 0 1 = cc in absurd (omega arith)

    go : ((c : Fields → Bool) (u : Fields) → check_fields f c g ≡ accepted u → field_count u ≡ field_count g) → (o : Outcome Ty)
        → and_rest o (λ r. check_fields f (λ u. keeps (field_of r u)) g) ≡ accepted h → field_count h ≡ suc (field_count g)
    go same (accepted r) e = last r (check_fields f (λ u. keeps (field_of r u)) g) (λ u q. same (λ v. keeps (field_of r v)) u q) e
    go same (refused m p) e = let z : ◌≡◌ {A = ℕ} 0 1 = cc in absurd (omega arith)

-- ---- one field more

-- a validated type, then the fields after it
step-goes : (so_far : List ℕ) (done before above : ℕ) (f g : Fields) (u : Outcome Ty) (after : List ℕ) (e n : ℕ) → accepted (piece (take e after) n) ≡ mapped (type_piece so_far) u
    → mapped (fields_piece so_far done) (and_rest u (after_it before above f g)) ≡ mapped (fields_piece (take e after) (done + n)) (check_fields f (fields_limited (before + n) above) g)
unfolding write_fields among
step-goes so_far done before above f g (accepted (ty v x)) after e n wrote =
    let b : take e after ≡ so_far ++ (write_shape v ++ write_scalar x) = cc in
    let m : n ≡ suc (inside x) = cc in
    rw m (go b (check_fields f (fields_limited (before + suc (inside x)) above) g))
  where
    go : take e after ≡ so_far ++ (write_shape v ++ write_scalar x) → (o : Outcome Fields) → mapped (fields_piece so_far done) (o >>= λ h. accepted (field v x h)) ≡ mapped (fields_piece (take e after) (done + suc (inside x))) o
    go b (accepted h) =
        let q : done + (suc (inside x) + among h) ≡ done + suc (inside x) + among h = omega arith in
        let bytes = sym (append_assoc so_far (write_shape v ++ write_scalar x) (write_fields h)) ∙ ap (λ l. l ++ write_fields h) (sym b) in
        ap (λ l. accepted (piece l (done + (suc (inside x) + among h)))) bytes ∙ ap (λ k. accepted (piece (take e after ++ write_fields h) k)) q
    go b (refused k p) = refl
step-goes so_far done before above f g (refused k p) after e n wrote = let z : ◌≡◌ {A = ℕ} 0 1 = cc in absurd (omega arith)

step_stops : (so_far : List ℕ) (done : ℕ) (u : Outcome Ty) (rest : Ty → Outcome Fields) (m : ℕ) → refused m 0 ≡ mapped (type_piece so_far) u → refused m 0 ≡ mapped (fields_piece so_far done) (u >>= rest)
step_stops so_far done (accepted (ty v x)) rest m e = let z : ◌≡◌ {A = ℕ} 0 1 = cc in absurd (omega arith)
step_stops so_far done (refused k p) rest m e = e

-- what it became keeps to the limits of the fields after it
step-limits : (before above : ℕ) (p : Shape) (k : Scalar) (q : Shape) (l : Scalar) (g : Fields) (so_far after : List ℕ) (e n : ℕ) → fields_limited before above (field q l g) ≡ true
    → accepted (piece (take e after) n) ≡ mapped (type_piece so_far) (at_hand before above p k q l g) → fields_limited (before + n) above g ≡ true
step-limits before above p k q l g so_far after e n h wrote = go (check_scalar k (limited (before + among g) above) q l) (check_shape unsided p q) refl wrote
  where
    go : (os : Outcome Scalar) (oh : Outcome Shape) → check_scalar k (limited (before + among g) above) q l ≡ os → accepted (piece (take e after) n) ≡ mapped (type_piece so_far) (in_turn os oh) → fields_limited (before + n) above g ≡ true
    go (accepted x) (accepted v) c w = let m : n ≡ suc (inside x) = cc in rw m (field_next before above k q l x g h c)
    go (accepted x) (refused j r) c w = let z : ◌≡◌ {A = ℕ} 0 1 = cc in absurd (omega arith)
    go (refused j r) oh c w = let z : ◌≡◌ {A = ℕ} 0 1 = cc in absurd (omega arith)

-- ---- from field to field

-- Where the walk over two lists stands: the lists that are left, the types written so far, and that what is left gives the goal.
pub record Pacing (s : List ℕ) (moves : Bool) (t : List ℕ) (steps : Bool) (others above : ℕ) (goal : Outcome Piece) (to i j todo left before rest : ℕ) (so_far : List ℕ) (end : ℕ) : Type 0 where
  pub lists : TwoLists s (items i todo moves) t (items j left steps) before above
  pub number : rest ≡ among lists.type-fields
  pub done : ℕ
  pub ahead : before ≡ others + done
  pub goes : goal ≡ mapped (fields_piece so_far done) (fields_after lists)
  pub room : end ≤ to + type_bytes * done

module _ {s : List ℕ} {x : Items} {t : List ℕ} {y : Items} {o a : ℕ} (w : TwoLists s x t y o a) where
  pub pacing_start : (before : List ℕ) (to : ℕ) {todo left : ℕ} → todo ≡ x.count → left ≡ y.count → {rest : ℕ} → rest ≡ among w.type-fields
      → Pacing s x.moves t y.moves o a (mapped (fields_piece before 0) (fields_after w)) to x.at y.at todo left o rest before to
  pacing_start before to m n e = record {
    lists = record {
      spec-fields = w.spec-fields;
      type-fields = w.type-fields;
      spec_list = w.spec_list;
      spec-count = w.spec-count ∙ sym m;
      type_list = w.type_list;
      type-count = w.type-count ∙ sym n;
      limits = w.limits;
    };
    number = e;
    done = 0;
    ahead = omega arith;
    goes = refl;
    room = omega arith;
  }

  pub lists_countable : Countable t y.at y.count y.moves
  lists_countable = record { fields = w.type-fields; there = w.type_list; counted = w.type-count; few = omega (arith, (fields_limited-true o a w.type-fields w.limits).0) }

-- the first field of each
pub record Firsts (s t : List ℕ) (i j before above : ℕ) (f g : Fields) (moves steps : Bool) : Type 0 where
  pub p : Shape
  pub k : Scalar
  pub f' : Fields
  pub q : Shape
  pub l : Scalar
  pub g' : Fields
  pub f-is : f ≡ field p k f'
  pub g-is : g ≡ field q l g'
  pub spec-there : TypeAt s i max_depth (ty p k)
  pub type-there : TypeAt t j max_depth (ty q l)
  pub spec_list : ListAt moves s (next_place moves i (ty p k)) f'
  pub type_list : ListAt steps t (next_place steps j (ty q l)) g'
  pub limits : fields_limited before above (field q l g') ≡ true

module _ {s : List ℕ} {moves : Bool} {t : List ℕ} {steps : Bool} {others above : ℕ} {goal : Outcome Piece} {to i j todo left before rest : ℕ} {so_far : List ℕ} {end : ℕ}
    (c : Pacing s moves t steps others above goal to i j todo left before rest so_far end) where
  -- a bound on the types
  pub pacing_few : before + rest ≤ max_types
  pacing_few = omega (arith, c.number, (fields_limited-true before above c.lists.type-fields c.lists.limits).0)

  pub pacing_ahead : others ≤ before
  pacing_ahead = omega (arith, c.ahead)

  -- both lists go on
  module _ (h : 0 < todo) (z : left ≡ 0 → ⊥) where
    pub firsts : Firsts s t i j before above c.lists.spec-fields c.lists.type-fields moves steps
    firsts = go c.lists.spec-fields c.lists.type-fields c.lists.spec_list c.lists.spec-count c.lists.type_list c.lists.type-count c.lists.limits
      where
        go : (f g : Fields) → ListAt moves s i f → field_count f ≡ todo → ListAt steps t j g → field_count g ≡ left → fields_limited before above g ≡ true → Firsts s t i j before above f g moves steps
        go no_fields g a b d e l = absurd (omega arith)
        go (field p k f) no_fields a b d e l = absurd (z (sym e))
        go (field p k f) (field q m g) a b d e l = record {
          p = p;
          k = k;
          f' = f;
          q = q;
          l = m;
          g' = g;
          f-is = refl;
          g-is = refl;
          spec-there = list-first s i p k f moves a;
          type-there = list-first t j q m g steps d;
          spec_list = list_rest s i p k f moves a;
          type_list = list_rest t j q m g steps d;
          limits = l;
        }

    abbrev pub first : Firsts s t i j before above c.lists.spec-fields c.lists.type-fields moves steps
    first = firsts

    pub first_spec : HasType s i max_depth
    first_spec = has first.spec-there

    pub first-type : HasType t j max_depth
    first-type = has first.type-there

    -- what becomes of the first type
    abbrev hand : Outcome Ty
    hand = at_hand before above first.p first.k first.q first.l first.g'

    pacing_outcome : fields_after c.lists ≡ and_rest hand (after_it before above first.f' first.g')
    pacing_outcome =
        ap (λ x. check_fields x (fields_limited before above) c.lists.type-fields) first.f-is
        ∙ ap (λ y. check_fields (field first.p first.k first.f') (fields_limited before above) y) first.g-is
        ∙ fields-step before above first.p first.k first.f' first.q first.l first.g' first.limits

    -- the span of the type's, by which the rest is counted
    module _ {r : Span} (spans : (u : Ty) → TypeAt t j max_depth u → SpanIs j u r) where
      span : SpanIs j (ty first.q first.l) r
      span = spans (ty first.q first.l) first.type-there

      pub rest-enough : r.types ≤ rest
      unfolding among
      rest-enough = omega (arith, c.number ∙ ap among first.g-is, span.types)

      pub rest-is : rest - r.types ≡ among first.g'
      unfolding among
      rest-is = omega (arith, c.number ∙ ap among first.g-is, span.types)

      -- the two types at hand
      abbrev pub pacing_pair : Pair s i t j (before + (rest - r.types)) above
      pacing_pair = record {
        spec-shape = first.p;
        spec-scalar = first.k;
        type-shape = first.q;
        type-scalar = first.l;
        spec-there = first.spec-there;
        type-there = first.type-there;
        limits = rw rest-is (field-begun before above first.q first.l first.g' first.limits);
      }

      pub pair-room : {room : ℕ} → to + type_bytes * (max_types - others) ≤ room → end + type_bytes * (max_types - (before + (rest - r.types))) ≤ room
      pair-room l = omega (arith, c.room, c.ahead, pacing_few, rest-enough, (some_left (before + (rest - r.types)) above first.l pacing_pair.limits).0)

      at-hand : type_after unsided pacing_pair ≡ hand
      at-hand = ap (λ m. in_turn (check_scalar first.k (limited (before + m) above) first.q first.l) (check_shape unsided first.p first.q)) rest-is

      module _ (out after : List ℕ) (same : so_far ≡ take end out) where
        validated : (w : Validated) → TypeDone unsided pacing_pair end out w after → validated_of w after ≡ mapped (type_piece so_far) hand
        validated w both = both.0 ∙ ap (λ b. mapped (type_piece b) (type_after unsided pacing_pair)) (sym same) ∙ ap (mapped (type_piece so_far)) at-hand

        pub pacing_stop : (r : Reason) → TypeDone unsided pacing_pair end out (Err r) after → (validated_of (Err r) after ≡ goal) × Roomy (Err r) to
        pacing_stop r both =
            let stops = step_stops so_far c.done hand (λ v. after_it before above first.f' first.g' v >>= λ h. accepted (field_of v h)) (number_of r) (validated (Err r) both) in
            (stops ∙ sym (c.goes ∙ ap (mapped (fields_piece so_far c.done)) pacing_outcome), tt)

        module _ {v : Extent} (both : TypeDone unsided pacing_pair end out (Ok v) after) where
          limits-kept : fields_limited (before + v.types) above first.g' ≡ true
          limits-kept = step-limits before above first.p first.k first.q first.l first.g' so_far after v.end v.types first.limits (validated (Ok v) both)

          pub types-few : before + v.types ≤ max_types
          types-few = omega (arith, (fields_limited-true (before + v.types) above first.g' limits-kept).0)

          module _ {todo' left' : ℕ} (one : todo' + 1 ≡ todo) (other : left' + 1 ≡ left) {i' j' : ℕ} (mi : (u : Ty) → TypeAt s i max_depth u → i' ≡ next_place moves i u) (mj : j' ≡ cond steps r.end j) where
            pub pacing_next : Pacing s moves t steps others above goal to i' j' todo' left' (before + v.types) (rest - r.types) (take v.end after) v.end
            pacing_next =
                let sc : suc (field_count first.f') ≡ todo = ap field_count (sym first.f-is) ∙ c.lists.spec-count in
                let tc : suc (field_count first.g') ≡ left = ap field_count (sym first.g-is) ∙ c.lists.type-count in
                record {
                  lists = record {
                    spec-fields = first.f';
                    type-fields = first.g';
                    spec_list = rw (mi (ty first.p first.k) first.spec-there) first.spec_list;
                    spec-count = omega (arith, sc);
                    type_list = rw (next-by-span steps span mj) first.type_list;
                    type-count = omega (arith, tc);
                    limits = limits-kept;
                  };
                  number = rest-is;
                  done = c.done + v.types;
                  ahead = omega (arith, c.ahead);
                  goes = c.goes ∙ ap (mapped (fields_piece so_far c.done)) pacing_outcome ∙ step-goes so_far c.done before above first.f' first.g' hand after v.end v.types (validated (Ok v) both);
                  room = omega (arith, both.1, c.room);
                }

-- ---- a list has ended

check_fields-none : (f : Fields) (keeps : Fields → Bool) → check_fields f keeps no_fields ≡ accepted no_fields
unfolding check_fields
check_fields-none no_fields keeps = refl
check_fields-none (field p k f) keeps = refl

check_fields-end : (g : Fields) (keeps : Fields → Bool) → check_fields no_fields keeps g ≡ accepted g
unfolding check_fields
check_fields-end g keeps = refl

fields_none : (f : Fields) → field_count f ≡ 0 → f ≡ no_fields
fields_none no_fields e = refl
fields_none (field p k f) e = absurd (omega arith)

module _ {s : List ℕ} {moves : Bool} {t : List ℕ} {steps : Bool} {others above : ℕ} {goal : Outcome Piece} {to i j todo left before rest : ℕ} (out : List ℕ) {end : ℕ}
    (c : Pacing s moves t steps others above goal to i j todo left before rest (take end out) end) where
  abbrev own : Fields
  own = c.lists.type-fields

  -- the type's
  pub pacing_ended : left ≡ 0 → (validated_of (Ok (record { end = end; types = before - others })) out ≡ goal) × Roomy (Ok (record { end = end; types = before - others })) to
  unfolding write_fields among
  pacing_ended z =
      let g : own ≡ no_fields = fields_none own (c.lists.type-count ∙ z) in
      let o : fields_after c.lists ≡ accepted no_fields = ap (check_fields c.lists.spec-fields (fields_limited before above)) g ∙ check_fields-none c.lists.spec-fields (fields_limited before above) in
      let d : before - others ≡ c.done + 0 = omega (arith, c.ahead) in
      let bytes = ap (λ l. accepted (piece l (c.done + 0))) (sym (append-nil (take end out))) in
      (ap (λ n. accepted (piece (take end out) n)) d ∙ bytes ∙ sym (c.goes ∙ ap (mapped (fields_piece (take end out) c.done)) o), omega (arith, c.ahead, c.room))

  -- the spec's: what is left of the type's has room, and stays
  module _ {room : ℕ} (l : to + type_bytes * (max_types - others) ≤ room) where
    pub pacing_listable : {n : ℕ} → n ≡ left → Listable t j n steps end room
    pacing_listable e = record {
      fields = own;
      there = c.lists.type_list;
      counted = c.lists.type-count ∙ sym e;
      space = omega (arith, c.room, c.ahead, c.number, pacing_few c);
      few = omega (arith, c.number, pacing_few c);
    }

  module _ (after : List ℕ) (x : Extent) (copied : CopyIs x after (fields_piece (take end out) 0 own) end) where
    tail-types : x.types ≡ 0 + among own
    tail-types = let q = copied.bytes in cc

    pub tail-few : before - others + x.types ≤ max_types
    tail-few = omega (arith, tail-types, c.ahead, c.number, pacing_few c)

    pub pacing_rest : todo ≡ 0 → (validated_of (Ok (record { end = x.end; types = before - others + x.types })) after ≡ goal) × Roomy (Ok (record { end = x.end; types = before - others + x.types })) to
    pacing_rest z =
        let f : c.lists.spec-fields ≡ no_fields = fields_none c.lists.spec-fields (c.lists.spec-count ∙ z) in
        let o : fields_after c.lists ≡ accepted own = ap (λ x. check_fields x (fields_limited before above) own) f ∙ check_fields-end own (fields_limited before above) in
        let y = copied.bytes in
        let b : take x.end after ≡ take end out ++ write_fields own = cc in
        let q : before - others + x.types ≡ c.done + among own = omega (arith, c.ahead, tail-types) in
        let bytes = ap (λ k. accepted (piece (take x.end after) k)) q ∙ ap (λ l. accepted (piece l (c.done + among own))) b in
        (bytes ∙ sym (c.goes ∙ ap (mapped (fields_piece (take end out) c.done)) o), omega (arith, copied.room, c.room, c.ahead))

-- ---- the plan

module _ {s : List ℕ} {i : ℕ} {t : List ℕ} {j o a : ℕ} (w : Pair s i t j o a) {plan : Plan} (planned : Planned w (Ok plan)) where
  pub plan_keep : plan ≡ Keep → scalar_after w ≡ accepted w.type-scalar
  plan_keep e = rw e at planned

  pub plan_take : plan ≡ Take → scalar_after w ≡ accepted w.spec-scalar
  plan_take e = rw e at planned

  pub plan_inside : {c d : ℕ} → plan ≡ Inside c d → InsideIs s t o a (scalar_after w) w.spec-scalar w.type-scalar c d
  plan_inside e = rw e at planned

  pub plan_pairs : {x y : Items} {f : Bool} {l : ℕ} {g : Bool} → plan ≡ Pairs x y f l g → PairsAre s t o a (scalar_after w) w.spec-scalar w.type-scalar x y f l g
  plan_pairs e = rw e at planned

-- the same lists, where the type's bytes are others
module _ {s : List ℕ} {x y : Items} {o a : ℕ} where
  abbrev pub over-lists : {t u : List ℕ} → t ≡ u → TwoLists s x t y o a → TwoLists s x u y o a
  over-lists e v = record {
    spec-fields = v.spec-fields;
    type-fields = v.type-fields;
    spec_list = v.spec_list;
    spec-count = v.spec-count;
    type_list = subst (λ b. ListAt y.moves b y.at v.type-fields) e v.type_list;
    type-count = v.type-count;
    limits = v.limits;
  }

  abbrev pub fresh-lists : (t : List ℕ) (fresh : Bool) → TwoLists s x (cond fresh any_bytes t) y o a → fresh ≡ true → TwoLists s x any_bytes y o a
  fresh-lists t fresh v e = over-lists (ap (λ b. cond b any_bytes t) e) v

  abbrev pub own-lists : (t : List ℕ) (fresh : Bool) → TwoLists s x (cond fresh any_bytes t) y o a → fresh ≡ false → TwoLists s x t y o a
  own-lists t fresh v e = over-lists (ap (λ b. cond b any_bytes t) e) v

-- ---- what was written inside a box

-- the box's head was laid at `to`, and what it holds from `start` on
module _ {s : List ℕ} {i : ℕ} {t : List ℕ} {j o a : ℕ} (w : Pair s i t j o a) (to : ℕ) (d : List ℕ) (room : to + box_bytes + type_bytes * (max_types - 1 - o) ≤ length d) where
  pub held-room : (start : ℕ) (d' : List ℕ) → start ≤ to + box_bytes → length d' ≡ length d → start + type_bytes * (max_types - (o + 1)) ≤ length d'
  held-room start d' h e = let r = some_left o a w.type-scalar w.limits in omega (arith, r.0)

  module _ (start : ℕ) (d' : List ℕ) (r : Validated) (out : List ℕ) where
    pub inside-done : {content other : ℕ} (v : InsideIs s t o a (scalar_after w) w.spec-scalar w.type-scalar content other) → HeadIs to (box_start 1) d start d' → TypeDone unsided v.inner start d' r out → ScalarDone w to d r out
    inside-done v box h =
        let b : take start d' ≡ take to d ++ box_start 1 = head-behind d (box_start 1) (omega arith) box in
        let u : Outcome Ty = type_after unsided v.inner in
        (h.0 ∙ ap (λ c. mapped (type_piece c) u) b ∙ inside-wrote (take to d) u ∙ ap (mapped (scalar_piece (take to d))) (sym v.is), roomy_more r start (to + box_bytes) box.short h.1)

    -- the fields f and g that became the Def's
    pairs_done : (label : Option (List ℕ)) (count : ℕ) (f g : Fields) → field_count g ≡ count → HeadIs to (def_head label count) d start d'
        → scalar_after w ≡ mapped (box_def label) (check_fields f (fields_limited (o + 1) (a + 1)) g)
        → (validated_of r out ≡ mapped (fields_piece (take start d') 0) (check_fields f (fields_limited (o + 1) (a + 1)) g)) × Roomy r start → ScalarDone w to d r out
    pairs_done label count f g c head is h =
        let b : take start d' ≡ take to d ++ def_head label count = head-behind d (def_head label count) (omega arith) head in
        let u : Outcome Fields = check_fields f (fields_limited (o + 1) (a + 1)) g in
        let bytes = pairs_wrote (take to d) label count u (λ k e. fields-counted f (fields_limited (o + 1) (a + 1)) g k e ∙ c) in
        (h.0 ∙ ap (λ c. mapped (fields_piece c 0) u) b ∙ bytes ∙ ap (mapped (scalar_piece (take to d))) (sym is), roomy_more r start (to + box_bytes) head.short h.1)

    module _ {x y : Items} {fresh : Bool} {name : ℕ} {borrowed : Bool} (v : PairsAre s t o a (scalar_after w) w.spec-scalar w.type-scalar x y fresh name borrowed) (head : HeadIs to (def_head v.label y.count) d start d') where
      pub fresh-done : (e : fresh ≡ true) → FieldsDone (fresh-lists t fresh v.inner e) start d' r out → ScalarDone w to d r out
      fresh-done e h = pairs_done v.label y.count v.inner.spec-fields v.inner.type-fields v.inner.type-count head v.is h

      pub own-done : (e : fresh ≡ false) → FieldsDone (own-lists t fresh v.inner e) start d' r out → ScalarDone w to d r out
      own-done e h = pairs_done v.label y.count v.inner.spec-fields v.inner.type-fields v.inner.type-count head v.is h
