-- What readers keep to: a reader of a record, or of any part of a step, goes on from the place reached and never past the end of the bytes, and
-- where it stops, the place that it names is not before a given place `lo`, nor past the end. (Which numbers it stops with is in `demand`, Numbered.)
use Prim.Native.Nat.{ℕ, zero, suc, ◌-◌, ◌≤◌}
use native.Mathlib.Omega.{arith}
use Rattle.std.specs.Prelude.{Bool, ◌&&◌, ◌||◌, cond, List, ◌≡◌, length, get_or}
use Rattle.std.proofs.Math.Bool.{true, false}
use Rattle.std.proofs.Math.Option.{Option, none, some}
use Rattle.std.proofs.Math.Path.{refl}
use Rattle.std.proofs.Math.Dec.{eqb, leb, ltb}
use borrow.Author.Tests.{ltb-true}
use Rattle.model.specs.Limits.{max_size, ones, max_sizes, max_name, max_fields, max_types, max_depth}
use Rattle.model.specs.Refusals.{ended, unmarked, out_of_range, oversized, too_many}
use Rattle.model.specs.Types.{Scalar, Ty, types}
use Rattle.format.specs.Reader.{Read, got, stopped, Reader, and_then, ◌>>=◌, give, stop, need, here, byte, judged, number}
use Rattle.format.specs.Records.{Mark, mark, shape_mark, scalar_mark, box_mark, box_code, kind_of, is_count, is_optional, list_count, is_printing}
use Rattle.format.specs.Records.{form, or_stop, read_mark, read_dim, read_dims, shape_from, read_name, read_fields, def_from, box_from, scalar_from, read_ty, read_type}
use Rattle.machine.specs.Steps.{Opcode, a_put, a_row, a_pervading, a_join, a_validating, a_declaration, a_use, opcodes, max_flag}
use Rattle.machine.specs.Written.{is_name_length}
use Rattle.machine.specs.Sheet.{opcode_in, opcode_from, name_from, argument_from}

-- ---- what is kept

-- Of what was read from place `at` on, where places from lo on may be named.
abbrev pub ReadStays : {A : Type 0} → List ℕ → ℕ → ℕ → Read A → Type 0
ReadStays s lo at (got a next) = (at ≤ next) × (next ≤ length s)
ReadStays s lo at (stopped k p) = (lo ≤ p) × (p ≤ length s)

-- It is so from whichever place from lo on. A record, so that the reader can be read off a goal.
pub record ReaderStays {A : Type 0} (s : List ℕ) (lo : ℕ) (m : Reader A) : Type 0 where
  pub kept : (at : ℕ) → lo ≤ at → at ≤ length s → ReadStays s lo at (m at)

stays-at-before : {A : Type 0} (s : List ℕ) (lo at mid : ℕ) (r : Read A) → at ≤ mid → ReadStays s lo mid r → ReadStays s lo at r
stays-at-before s lo at mid (got a next) l h = (omega arith, h.1)
stays-at-before s lo at mid (stopped k p) l h = h

-- ---- forms of statements

module _ {s : List ℕ} {lo : ℕ} where
  stays-give : {A : Type 0} {a : A} → ReaderStays s lo (give a)
  stays-give = record { kept = λ at l h. (omega arith, h) }

  -- From here on p is the place that a record's reader hands on.
  stays-stop : {A : Type 0} (k p : ℕ) → lo ≤ p → p ≤ length s → ReaderStays {A = A} s lo (stop k p)
  stays-stop k p l h = record { kept = λ at _ _. (l, h) }

  stays-need : (t : Bool) (k p : ℕ) → lo ≤ p → p ≤ length s → ReaderStays s lo (need t k p)
  stays-need true k p l h = stays-give
  stays-need false k p l h = stays-stop k p l h

  stays-or_stop : {A : Type 0} (a : Option A) (k p : ℕ) → lo ≤ p → p ≤ length s → ReaderStays s lo (or_stop a k p)
  stays-or_stop none k p l h = stays-stop k p l h
  stays-or_stop (some a) k p l h = stays-give

  then_kept : {A B : Type 0} (r : Read A) (f : A → Reader B) (at : ℕ) → lo ≤ at → ReadStays s lo at r → ((a : A) → ReaderStays s lo (f a)) → ReadStays s lo at (and_then r f)
  then_kept (got a next) f at l h k = stays-at-before s lo at next (f a next) h.0 ((k a).kept next (omega arith) h.1)
  then_kept (stopped j p) f at l h k = h

  stays_bind : {A B : Type 0} {m : Reader A} (f : A → Reader B) → ReaderStays s lo m → ((a : A) → ReaderStays s lo (f a)) → ReaderStays s lo (m >>= f)
  stays_bind {A} {B} {m} f h k = record { kept = λ at l r. then_kept (m at) f at l (h.kept at l r) k }

  stays_here : {A : Type 0} (f : ℕ → Reader A) → ((p : ℕ) → lo ≤ p → p ≤ length s → ReaderStays s lo (f p)) → ReaderStays s lo (here f)
  stays_here f h = record { kept = λ at l r. (h at l r).kept at l r }

  stays-cond : {A : Type 0} (t : Bool) {m n : Reader A} → ReaderStays s lo m → ReaderStays s lo n → ReaderStays s lo (cond t m n)
  stays-cond true h k = h
  stays-cond false h k = k

  stays-form : (c : ℕ) {a b d e : Reader Scalar} → ReaderStays s lo a → ReaderStays s lo b → ReaderStays s lo d → ReaderStays s lo e → ReaderStays s lo (form c a b d e)
  stays-form zero h i j k = h
  stays-form (suc zero) h i j k = i
  stays-form (suc (suc zero)) h i j k = j
  stays-form (suc (suc (suc c))) h i j k = k

-- ---- what is read for a record, whose refusals name p

module _ (s : List ℕ) (lo p : ℕ) (l : lo ≤ p) (h : p ≤ length s) where
  stays-byte : ReaderStays s lo (byte s p)
  unfolding byte
  stays-byte = record { kept = λ at _ _. go at (ltb at (length s)) refl }
    where
      go : (at : ℕ) (t : Bool) → ltb at (length s) ≡ t → ReadStays s lo at (cond t (got (get_or s at 0) (suc at)) (stopped ended p))
      go at true e = let more = ltb-true at (length s) e in (omega arith, more)
      go at false e = (l, h)

  stays-judged : (fits : ℕ → Bool) → ReaderStays s lo (judged s fits p)
  unfolding judged
  stays-judged fits = stays_bind _ stays-byte λ b. stays_bind _ (stays-need (fits b) out_of_range p l h) λ _. stays-give

  stays-number : (k : ℕ) → ReaderStays s lo (number s k p)
  unfolding number
  stays-number zero = stays-give
  stays-number (suc k) = stays_bind _ stays-byte λ b. stays_bind _ (stays-number k) λ n. stays-give

  stays-mark : (m : Mark) → ReaderStays s lo (read_mark s m p)
  unfolding read_mark
  stays-mark (mark a b) = stays_bind _ stays-byte λ x. stays_bind _ stays-byte λ y. stays-need (eqb x a && eqb y b) unmarked p l h

  stays_dim : ReaderStays s lo (read_dim s p)
  unfolding read_dim
  stays_dim = stays_bind _ (stays-number 8) λ n. stays_bind _ (stays-need (eqb n ones || leb n max_size) oversized p l h) λ _. stays-give

  stays-dims : (k : ℕ) → ReaderStays s lo (read_dims s k p)
  unfolding read_dims
  stays-dims zero = stays-give
  stays-dims (suc k) = stays_bind _ stays_dim λ d. stays_bind _ (stays-dims k) λ ds. stays-give

  stays-shape : ReaderStays s lo (shape_from s p)
  unfolding shape_from
  stays-shape =
      stays_bind _ (stays-mark shape_mark) λ _.
      stays_bind _ (stays-judged (is_count max_sizes)) λ m.
      stays_bind _ (stays-judged (is_optional max_sizes)) λ n.
      stays_bind _ (stays-dims m) λ o.
      stays_bind _ (stays-dims (list_count n)) λ c.
      stays-give

  stays-name : (k : ℕ) → ReaderStays s lo (read_name s k p)
  unfolding read_name
  stays-name zero = stays-give
  stays-name (suc k) = stays_bind _ (stays-judged is_printing) λ b. stays_bind _ (stays-name k) λ n. stays-give

-- ---- types

module _ (s : List ℕ) (lo : ℕ) where
  module _ (go : ℕ → Reader Ty) (keeps : (n : ℕ) → ReaderStays s lo (go n)) where
    stays-fields : (k n : ℕ) → ReaderStays s lo (read_fields s go k n)
    unfolding read_fields
    stays-fields zero n = stays-give
    stays-fields (suc k) n = stays_bind _ (keeps n) λ t. stays_bind _ (stays-fields k (n - types t)) λ f. stays-give

    stays-def : (n p : ℕ) → lo ≤ p → p ≤ length s → ReaderStays s lo (def_from s go n p)
    unfolding def_from
    stays-def n p l h =
        stays_bind _ (stays-judged s lo p l h (is_optional max_name)) λ c.
        stays_bind _ (stays-name s lo p l h (list_count c)) λ name.
        stays_bind _ (stays-judged s lo p l h (is_count max_fields)) λ k.
        stays_bind _ (stays-fields k n) λ f.
        stays-give

    stays-box : (n p : ℕ) → lo ≤ p → p ≤ length s → ReaderStays s lo (box_from s go n p)
    unfolding box_from
    stays-box n p l h =
        stays_bind _ (stays-mark s lo p l h box_mark) λ _.
        stays_bind _ (stays-byte s lo p l h) λ c.
        stays-form c stays-give (stays_bind _ (keeps n) λ t. stays-give) (stays-def n p l h) (stays-stop out_of_range p l h)

    stays-scalar : (n p : ℕ) → lo ≤ p → p ≤ length s → ReaderStays s lo (scalar_from s go n p)
    unfolding scalar_from
    stays-scalar n p l h =
        stays_bind _ (stays-mark s lo p l h scalar_mark) λ _.
        stays_bind _ (stays-byte s lo p l h) λ c.
        stays-cond (eqb c box_code)
        (stays_here (box_from s go n) (stays-box n))
        (stays_bind _ (stays-or_stop (kind_of c) out_of_range p l h) λ k. stays-give)

  stays-ty : (d n : ℕ) → ReaderStays s lo (read_ty s d n)
  unfolding read_ty
  stays-ty zero n = stays_here (stop too_many) (stays-stop too_many)
  stays-ty (suc d) zero = stays_here (stop too_many) (stays-stop too_many)
  stays-ty (suc d) (suc n) =
      stays_bind _ (stays_here (shape_from s) (stays-shape s lo)) λ t.
      stays_bind _ (stays_here (scalar_from s (read_ty s d) n) (stays-scalar (read_ty s d) (stays-ty d) n)) λ k.
      stays-give

  pub stays-type : ReaderStays s lo (read_type s)
  stays-type = stays-ty max_depth max_types

-- ---- steps, whose refusals name p outside their types

module _ (s : List ℕ) (lo p : ℕ) (l : lo ≤ p) (h : p ≤ length s) where
  pub stays-opcode : ReaderStays s lo (opcode_from s p)
  unfolding opcode_from
  stays-opcode =
      stays_bind _ (stays-byte s lo p l h) λ x.
      stays_bind _ (stays-byte s lo p l h) λ y.
      stays-or_stop (opcode_in opcodes x y) unmarked p l h

  stays-named : ReaderStays s lo (name_from s p)
  unfolding name_from
  stays-named = stays_bind _ (stays-judged s lo p l h is_name_length) λ n. stays-name s lo p l h n

  pub stays_argument : (c : Opcode) → ReaderStays s lo (argument_from s c p)
  unfolding argument_from
  stays_argument a_put = stays_bind _ (stays-type s lo) λ t. stays-give
  stays_argument a_row = stays-give
  stays_argument a_pervading = stays_bind _ (stays-judged s lo p l h (is_count max_flag)) λ n. stays-give
  stays_argument a_join = stays-give
  stays_argument a_validating = stays_bind _ (stays-type s lo) λ spec. stays-give
  stays_argument a_declaration = stays_bind _ stays-named λ n. stays_bind _ (stays-type s lo) λ t. stays-give
  stays_argument a_use = stays_bind _ stays-named λ n. stays-give
