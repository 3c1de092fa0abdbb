-- Types, scalars, boxes and fields that are passed over: how many types may still follow each. The first part of each law says
-- nothing: it shows a tactic the reading to match.
use Prim.Native.Nat.{ℕ, zero, suc, ◌-◌, ◌<◌}
use native.Mathlib.Omega.{arith}
use native.Mathlib.Nat.{sub-zero}
use mathlib.Core.Bool.{Bool, true, false, cond}
use mathlib.Core.List.{List}
use mathlib.Core.Path.{◌≡◌, refl, ap}
use lib.Dec.{eqb, leb}
use borrow.Author.Tests.{eqb-false, lt-leb}
use Rattle.model.specs.Limits.{max_name, max_fields}
use Rattle.model.specs.Refusals.{out_of_range, too_many}
use Rattle.model.specs.Types.{Shape, Scalar, box_any, box_def, Fields, Ty, ty, box_of, field_of, types, inside, among}
use Rattle.format.specs.Reader.{Read, got, stopped, Reader, and_then, map_read, give, stop, here, byte, judged}
use Rattle.format.specs.Records.{scalar_mark, box_mark, box_code, kind_of, optional, list_count, is_count, is_optional, form, read_mark, read_shape, read_name, read_fields, def_from, all_from, box_from, plain_from, scalar_from, read_ty}
use Rattle.record.specs.Answers.{nothing}

-- ---- types

module _ (s : List ℕ) (d n at : ℕ) where
  -- A type at most d deep, of at most n types, is passed over as r.
  abbrev Passes : Read ℕ → Type 0
  Passes r = (read_ty s d n at ≡ read_ty s d n at) × (map_read (λ t. n - types t) (read_ty s d n at) ≡ r)

  pub type_deep : d ≡ 0 → Passes (stopped too_many at)
  unfolding read_ty
  type_deep e = (refl, rw e)

  pub type_many : n ≡ 0 → Passes (stopped too_many at)
  unfolding read_ty
  type_many e = (refl, go d n e)
    where
      go : (d n : ℕ) → n ≡ 0 → map_read (λ t. n - types t) (read_ty s d n at) ≡ stopped too_many at
      go zero n e = refl
      go (suc d) n e = rw e

  pub type_passed : 0 < d → 0 < n → Passes (and_then (map_read nothing (read_shape s at)) (λ _ m. map_read (λ k. (n - 1) - inside k) (scalar_from s (read_ty s (d - 1)) (n - 1) m m)))
  unfolding read_ty
  type_passed deep many = (refl, go d n deep many)
    where
      last : (n : ℕ) (t : Shape) (r : Read Scalar) → map_read (λ t. suc n - types t) (and_then r (λ k. give (ty t k))) ≡ map_read (λ k. n - inside k) r
      last n t (got k m) = ap (λ v. got v m) (omega arith)
      last n t (stopped j q) = refl

      first :
          (d n : ℕ) (r : Read Shape) →
          map_read (λ t. suc n - types t) (and_then r (λ t m. and_then (scalar_from s (read_ty s d) n m m) (λ k. give (ty t k))))
          ≡ and_then (map_read nothing r) (λ _ m. map_read (λ k. n - inside k) (scalar_from s (read_ty s d) n m m))
      first d n (got t m) = last n t (scalar_from s (read_ty s d) n m m)
      first d n (stopped j q) = refl

      go : (d n : ℕ) → 0 < d → 0 < n → map_read (λ t. n - types t) (read_ty s d n at) ≡ and_then (map_read nothing (read_shape s at)) (λ _ m. map_read (λ k. (n - 1) - inside k) (scalar_from s (read_ty s (d - 1)) (n - 1) m m))
      go zero n e f = absurd (omega arith)
      go (suc d) zero e f = absurd (omega arith)
      go (suc d) (suc n) e f =
          let x : suc d - 1 ≡ d = omega arith in
          let y : suc n - 1 ≡ n = omega arith in
          rw (x, y) (first d n (read_shape s at))

-- ---- scalars; `go n` reads a type of at most n types

-- what follows the code of a kind that is no box's
plain_passed : (s : List ℕ) (n c p at : ℕ) → (c ≡ box_code → ⊥) → map_read (λ k. n - inside k) (plain_from s c p at) ≡ cond (leb c 9) (got n at) (stopped out_of_range p)
unfolding inside kind_of
plain_passed s n zero p at e = rw sub-zero
plain_passed s n (suc zero) p at e = rw sub-zero
plain_passed s n (suc (suc zero)) p at e = rw sub-zero
plain_passed s n (suc (suc (suc zero))) p at e = rw sub-zero
plain_passed s n (suc (suc (suc (suc zero)))) p at e = rw sub-zero
plain_passed s n (suc (suc (suc (suc (suc zero))))) p at e = rw sub-zero
plain_passed s n (suc (suc (suc (suc (suc (suc zero)))))) p at e = rw sub-zero
plain_passed s n (suc (suc (suc (suc (suc (suc (suc zero))))))) p at e = rw sub-zero
plain_passed s n (suc (suc (suc (suc (suc (suc (suc (suc zero)))))))) p at e = absurd (e refl)
plain_passed s n (suc (suc (suc (suc (suc (suc (suc (suc (suc zero))))))))) p at e = rw sub-zero
plain_passed s n (suc (suc (suc (suc (suc (suc (suc (suc (suc (suc c)))))))))) p at e = let past : leb (suc (suc (suc (suc (suc (suc (suc (suc (suc (suc c)))))))))) 9 ≡ false = lt-leb _ 9 (omega arith) in rw past

module _ (s : List ℕ) (go : ℕ → Reader Ty) (n at : ℕ) where
  -- what follows a scalar's mark, read and passed over
  abbrev coded : Read ℕ → Read Scalar
  coded r = and_then r (λ c. cond (eqb c box_code) (here (box_from s go n)) (plain_from s c at))

  abbrev past_code : Read ℕ → Read ℕ
  past_code r = and_then r (λ c b. cond (eqb c box_code) (map_read (λ k. n - inside k) (box_from s go n b b)) (cond (leb c 9) (got n b) (stopped out_of_range at)))

  code_passed : (r : Read ℕ) → map_read (λ k. n - inside k) (coded r) ≡ past_code r
  code_passed (got c b) = kind (eqb c box_code) refl
    where
      kind : (t : Bool) → eqb c box_code ≡ t → map_read (λ k. n - inside k) (cond t (here (box_from s go n)) (plain_from s c at) b) ≡ cond t (map_read (λ k. n - inside k) (box_from s go n b b)) (cond (leb c 9) (got n b) (stopped out_of_range at))
      kind true e = refl
      kind false e = plain_passed s n c at b (eqb-false c box_code e)
  code_passed (stopped k q) = refl

  pub scalar_passed : (scalar_from s go n at at ≡ scalar_from s go n at at) × (map_read (λ k. n - inside k) (scalar_from s go n at at) ≡ and_then (read_mark s scalar_mark at at) (λ _ a. past_code (byte s at a)))
  unfolding scalar_from
  scalar_passed = (refl, marked (read_mark s scalar_mark at at))
    where
      marked : (r : Read (Unit {0})) → map_read (λ k. n - inside k) (and_then r (λ _ a. coded (byte s at a))) ≡ and_then r (λ _ a. past_code (byte s at a))
      marked (got u a) = code_passed (byte s at a)
      marked (stopped k q) = refl

  -- ---- boxes

  -- what follows a box's mark
  abbrev formed : Read ℕ → Read Scalar
  formed r = and_then r (λ c b. form c (give box_any) (all_from s go n) (def_from s go n at) (stop out_of_range at) b)

  abbrev past_form : Read ℕ → Read ℕ
  past_form r = and_then r (λ c b. form c (got n b) (map_read (λ t. n - types t) (go n b)) (map_read (λ k. n - inside k) (def_from s go n at b)) (stopped out_of_range at))

  form_passed : (r : Read ℕ) → map_read (λ k. n - inside k) (formed r) ≡ past_form r
  unfolding inside
  form_passed (got zero b) = rw sub-zero
  form_passed (got (suc zero) b) = content (go n b)
    where
      content : (r : Read Ty) → map_read (λ k. n - inside k) (and_then r (λ t. give (box_of t))) ≡ map_read (λ t. n - types t) r
      content (got (ty t k) m) = refl
      content (stopped j q) = refl
  form_passed (got (suc (suc zero)) b) = refl
  form_passed (got (suc (suc (suc c))) b) = refl
  form_passed (stopped k q) = refl

  pub box_passed : (box_from s go n at at ≡ box_from s go n at at) × (map_read (λ k. n - inside k) (box_from s go n at at) ≡ and_then (read_mark s box_mark at at) (λ _ a. past_form (byte s at a)))
  unfolding box_from
  box_passed = (refl, marked (read_mark s box_mark at at))
    where
      marked : (r : Read (Unit {0})) → map_read (λ k. n - inside k) (and_then r (λ _ a. formed (byte s at a))) ≡ and_then r (λ _ a. past_form (byte s at a))
      marked (got u a) = form_passed (byte s at a)
      marked (stopped k q) = refl

-- ---- the rest of a Def, whose box begins at p

module _ (s : List ℕ) (go : ℕ → Reader Ty) (n p at : ℕ) where
  -- what follows the count of its fields
  abbrev counted : ℕ → List ℕ → Read ℕ → Read Scalar
  counted c name r = and_then r (λ k d. and_then (read_fields s go k n d) (λ f. give (box_def (optional c name) f)))

  abbrev past_count : Read ℕ → Read ℕ
  past_count r = and_then r (λ k d. map_read (λ f. n - among f) (read_fields s go k n d))

  count_passed : (c : ℕ) (name : List ℕ) (r : Read ℕ) → map_read (λ k. n - inside k) (counted c name r) ≡ past_count r
  unfolding inside
  count_passed c name (got k d) = fields (read_fields s go k n d)
    where
      fields : (r : Read Fields) → map_read (λ k. n - inside k) (and_then r (λ f. give (box_def (optional c name) f))) ≡ map_read (λ f. n - among f) r
      fields (got f m) = refl
      fields (stopped j q) = refl
  count_passed c name (stopped k q) = refl

  pub def_passed :
      (def_from s go n p at ≡ def_from s go n p at)
      × (map_read (λ k. n - inside k) (def_from s go n p at)
      ≡ and_then (judged s (is_optional max_name) p at) (λ c a. and_then (map_read nothing (read_name s (list_count c) p a)) (λ _ b. past_count (judged s (is_count max_fields) p b))))
  unfolding def_from
  def_passed = (refl, lengthened (judged s (is_optional max_name) p at))
    where
      named : (c : ℕ) (r : Read (List ℕ)) → map_read (λ k. n - inside k) (and_then r (λ name b. counted c name (judged s (is_count max_fields) p b))) ≡ and_then (map_read nothing r) (λ _ b. past_count (judged s (is_count max_fields) p b))
      named c (got name b) = count_passed c name (judged s (is_count max_fields) p b)
      named c (stopped k q) = refl

      lengthened :
          (r : Read ℕ) →
          map_read (λ k. n - inside k) (and_then r (λ c a. and_then (read_name s (list_count c) p a) (λ name b. counted c name (judged s (is_count max_fields) p b))))
          ≡ and_then r (λ c a. and_then (map_read nothing (read_name s (list_count c) p a)) (λ _ b. past_count (judged s (is_count max_fields) p b)))
      lengthened (got c a) = named c (read_name s (list_count c) p a)
      lengthened (stopped k q) = refl

-- ---- fields: by the first of some, and where none is left

module _ (s : List ℕ) (go : ℕ → Reader Ty) (k n at : ℕ) where
  -- As many fields as k are passed over as r.
  abbrev Follow : Read ℕ → Type 0
  Follow r = (read_fields s go k n at ≡ read_fields s go k n at) × (map_read (λ f. n - among f) (read_fields s go k n at) ≡ r)

  pub fields_end : k ≡ 0 → Follow (got n at)
  unfolding read_fields among
  fields_end e = (refl, rw (e, sub-zero))

  pub fields_step : 0 < k → Follow (and_then (map_read (λ t. n - types t) (go n at)) (λ m next. map_read (λ f. m - among f) (read_fields s go (k - 1) m next)))
  unfolding read_fields among
  fields_step h = (refl, count k h)
    where
      rest : (t : Ty) (r : Read Fields) → map_read (λ f. n - among f) (and_then r (λ f. give (field_of t f))) ≡ map_read (λ f. (n - types t) - among f) r
      rest (ty t k) (got f q) = ap (λ v. got v q) (omega arith)
      rest t (stopped j q) = refl

      first :
          (k : ℕ) (r : Read Ty) →
          map_read (λ f. n - among f) (and_then r (λ t m. and_then (read_fields s go k (n - types t) m) (λ f. give (field_of t f))))
          ≡ and_then (map_read (λ t. n - types t) r) (λ m next. map_read (λ f. m - among f) (read_fields s go k m next))
      first k (got t m) = rest t (read_fields s go k (n - types t) m)
      first k (stopped j q) = refl

      count : (k : ℕ) → 0 < k → map_read (λ f. n - among f) (read_fields s go k n at) ≡ and_then (map_read (λ t. n - types t) (go n at)) (λ m next. map_read (λ f. m - among f) (read_fields s go (k - 1) m next))
      count zero h = absurd (omega arith)
      count (suc k) h = let x : suc k - 1 ≡ k = omega arith in rw x (first k (go n at))
