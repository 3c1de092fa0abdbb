-- The walk over the records of the types left: the first i of them are put, line by line.
use Prim.Native.Nat.{ℕ, suc, ◌+◌, ◌-◌, ◌*◌, ◌≤◌, ◌<◌}
use native.Mathlib.Omega.{arith}
use native.Mathlib.Numerals.{add-one}
use native.Mathlib.Nat.{mul-le-mul_right, suc-mul, add-mul}
use mathlib.Core.List.{List, [], ◌∷◌, ◌++◌, map, append-nil, append_assoc}
use mathlib.Core.Path.{◌≡◌, refl, sym, ◌∙◌, ap, subst}
use lib.ListN.{length, get_or, take, drop, length-append, length-drop, length-take, length-map}
use lib.Seq.{take-append_seam, drop-cons, paste-zero}
use Rattle.model.specs.Types.{Ty}
use Rattle.format.specs.ReaderLaws.{drop_past}
use Rattle.format.specs.Records.{write_ty}
use Rattle.format.specs.Outcome.{accepted, refused}
use Rattle.machine.specs.Call.{write_types}
use Rattle.report.specs.Laid.{Laid}
use Rattle.report.specs.Left.{LeftIs, Left}
use Rattle.report.specs.Report.{ok_word, no_word, headed, type_line, type_lines, reported}
use Rattle.report.specs.Room.{head_room, line_room, lines_room, text_room}
use Rattle.report.proofs.TextLaws.{laid_then, length_headed, length_type_line}

-- Of the types ts those from the i-th on, whose records begin at `from`, are to come; the text of those before ends at `end`.
pub record Walked (n : ℕ) (s lengths between out₀ : List ℕ) (at : ℕ) (ts : List Ty) (out : List ℕ) (i from end : ℕ) : Type 0 where
  pub rest : List Ty
  pub text : List ℕ
  pub lines : type_lines between 0 ts ≡ text ++ type_lines between i rest
  pub laid : Laid end at out₀ out text
  pub bytes : drop from s ≡ write_types rest
  pub reached : from ≤ length s
  pub count : n ≡ i + length rest
  pub sizes : take (length rest) (drop i lengths) ≡ map (λ t. length (write_ty t)) rest
  pub many : n ≤ length lengths
  pub room : length text ≤ lines_room (length between) i from

add_sub : (m n : ℕ) → m + n - m ≡ n
add_sub m n = omega arith

module _ (n : ℕ) (s lengths between out₀ : List ℕ) (at : ℕ) (ts : List Ty) where
  pub walk_starts : LeftIs s lengths n ts → Walked n s lengths between out₀ at ts out₀ 0 0 at
  walk_starts h =
      record {
        rest = ts;
        text = [];
        lines = refl;
        laid = record { ends = omega arith; laid = paste-zero out₀ at [] };
        bytes = h.bytes;
        reached = omega arith;
        count = h.count ∙ omega arith;
        sizes = rw (← h.count) h.sizes;
        many = omega (arith, h.count, length-take n lengths, ap length h.sizes, length-map ts (λ t. length (write_ty t)));
        room = omega arith;
      }

  -- ---- one type more

  -- the type that is due at `from`, which ends at `next`
  pub record Due (out : List ℕ) (i from end next : ℕ) : Type 0 where
    pub onward : from ≤ next
    pub inside : next ≤ length s
    pub room : end + line_room (length between) (length (take (next - from) (drop from s))) ≤ length out₀
    pub more : (e : ℕ) (out₁ : List ℕ) → Laid e end out out₁ (type_line between i (take (next - from) (drop from s))) → Walked n s lengths between out₀ at ts out₁ (i + 1) next e

  -- the length of the first, and of those after it
  sizes-first : (i : ℕ) (t : Ty) (rest : List Ty) → i < length lengths → take (length (t ∷ rest)) (drop i lengths) ≡ map (λ t. length (write_ty t)) (t ∷ rest)
      → (length (write_ty t) ≡ get_or lengths i 0) × (take (length rest) (drop (i + 1) lengths) ≡ map (λ t. length (write_ty t)) rest)
  sizes-first i t rest less e =
      let x = rw (drop-cons lengths i 0 less) at e in
      let a : length (write_ty t) ≡ get_or lengths i 0 = cc in
      let b : take (length rest) (drop (suc i) lengths) ≡ map (λ t. length (write_ty t)) rest = cc in
      (a, rw (add-one i) b)

  module _ {out : List ℕ} {i from end : ℕ} (fits : at + lines_room (length between) n (length s) ≤ length out₀) (more : i < n) where
    pub walk_due : Walked n s lengths between out₀ at ts out i from end → Due out i from end (from + get_or lengths i 0)
    unfolding write_types type_lines
    walk_due w = go w.rest w.lines w.bytes w.count w.sizes
      where
        -- at the end of the type itself
        here : (t : Ty) (rest : List Ty) → type_lines between 0 ts ≡ w.text ++ type_lines between i (t ∷ rest) → drop from s ≡ write_types (t ∷ rest) → n ≡ i + length (t ∷ rest)
            → take (length rest) (drop (i + 1) lengths) ≡ map (λ t. length (write_ty t)) rest → Due out i from end (from + length (write_ty t))
        here t rest lines bytes count sizes =
            let size : ℕ = length (write_ty t) in
            let whole : length s ≡ from + size + length (write_types rest) = omega (arith, ap length bytes, length-append (write_ty t) (write_types rest), length-drop from s, w.reached) in
            let record_is : take (from + size - from) (drop from s) ≡ write_ty t = ap (λ k. take k (drop from s)) (add_sub from size) ∙ ap (take size) bytes ∙ take-append_seam (write_ty t) (write_types rest) in
            let lines_more : suc i * (length between) ≤ n * length between = mul-le-mul_right (length between) more in
            record {
              onward = omega arith;
              inside = omega arith;
              room = omega (arith, ap length record_is, w.laid.ends, w.room, suc-mul i (length between));
              more = λ e out₁ h. record {
                rest = rest;
                text = w.text ++ type_line between i (write_ty t);
                lines = lines ∙ sym (append_assoc w.text (type_line between i (write_ty t)) (type_lines between (suc i) rest)) ∙ rw add-one;
                laid = laid_then at out₀ w.text (omega (arith, w.room, suc-mul i (length between))) w.laid (rw record_is at h);
                bytes = drop_past s from (write_ty t) (write_types rest) bytes;
                reached = omega arith;
                count = count ∙ omega arith;
                sizes = sizes;
                many = w.many;
                room = omega (arith, w.room, length-append w.text (type_line between i (write_ty t)), length_type_line between i (write_ty t), add-mul i 1 (length between));
              };
            }

        go : (rest : List Ty) → type_lines between 0 ts ≡ w.text ++ type_lines between i rest → drop from s ≡ write_types rest → n ≡ i + length rest
            → take (length rest) (drop i lengths) ≡ map (λ t. length (write_ty t)) rest → Due out i from end (from + get_or lengths i 0)
        go [] lines bytes count sizes = absurd (omega arith)
        go (t ∷ rest) lines bytes count sizes =
            let (first, others) = sizes-first i t rest (omega (arith, w.many)) sizes in
            subst (λ k. Due out i from end (from + k)) first (here t rest lines bytes count others)

  pub walk_ends : (out : List ℕ) (i from end : ℕ) → n ≤ i → Walked n s lengths between out₀ at ts out i from end → Laid end at out₀ out (type_lines between 0 ts)
  unfolding type_lines
  walk_ends out i from end h w = go w.rest w.lines w.count
    where
      go : (rest : List Ty) → type_lines between 0 ts ≡ w.text ++ type_lines between i rest → n ≡ i + length rest → Laid end at out₀ out (type_lines between 0 ts)
      go [] lines count = rw (lines, append-nil w.text) w.laid
      go (t ∷ rest) lines count = absurd (omega arith)

-- Of whatever types these bytes are, the first i are put.
unfoldable pub Shown : ℕ → List ℕ → List ℕ → List ℕ → List ℕ → ℕ → List ℕ → ℕ → ℕ → ℕ → Type 0
Shown n s lengths between out₀ at out i from end = (ts : List Ty) → LeftIs s lengths n ts → Walked n s lengths between out₀ at ts out i from end

module _ (n : ℕ) (s lengths between out₀ : List ℕ) (at : ℕ) where
  pub shown_none : Shown n s lengths between out₀ at out₀ 0 0 at
  unfolding Shown
  shown_none = walk_starts n s lengths between out₀ at

  module _ (out : List ℕ) (i from end : ℕ) (w : Shown n s lengths between out₀ at out i from end) where
    pub shown_all : n ≤ i → (ts : List Ty) → LeftIs s lengths n ts → Laid end at out₀ out (type_lines between 0 ts)
    unfolding Shown
    shown_all h ts k = walk_ends n s lengths between out₀ at ts out i from end h (w ts k)

    module _ (left : Left s lengths n) (more : i < n) where
      pub shown_many : i < length lengths
      unfolding Shown
      shown_many = omega (arith, (w left.types left.there).many)

      module _ (fits : at + lines_room (length between) n (length s) ≤ length out₀) where
        pub shown_inside : from + get_or lengths i 0 ≤ length s
        unfolding Shown
        shown_inside = (walk_due n s lengths between out₀ at left.types fits more (w left.types left.there)).inside

        pub shown_room : end + line_room (length between) (get_or lengths i 0) ≤ length out₀
        unfolding Shown
        shown_room =
            let due = walk_due n s lengths between out₀ at left.types fits more (w left.types left.there) in
            omega (arith, due.room, due.inside, length-take (from + get_or lengths i 0 - from) (drop from s), length-drop from s)

        pub shown_more : (e : ℕ) (out₁ : List ℕ) → Laid e end out out₁ (type_line between i (take (from + get_or lengths i 0 - from) (drop from s))) → Shown n s lengths between out₀ at out₁ (i + 1) (from + get_or lengths i 0) e
        unfolding Shown
        shown_more e out₁ l ts k = (walk_due n s lengths between out₀ at ts fits more (w ts k)).more e out₁ l

pub ruleset showing = (shown_none, shown_many, shown_inside, shown_room, shown_more)

-- ---- the whole text

pub left_laid : (s lengths : List ℕ) (n : ℕ) (between : List ℕ) (ts : List Ty) (at : ℕ) (d : List ℕ) → LeftIs s lengths n ts → at + head_room ≤ length d
    → {m r : ℕ} {d₁ d₂ : List ℕ} → Laid m at d d₁ (headed ok_word n (length s)) → Laid r m d₁ d₂ (type_lines between 0 ts) → Laid r at d d₂ (reported between (accepted ts))
unfolding reported
left_laid s lengths n between ts at d h fits {m} {r} {d₁} {d₂} head lines =
    subst (λ w. Laid r at d d₂ (w ++ type_lines between 0 ts)) (ap (λ k. headed ok_word k (length s)) h.count ∙ ap (λ w. headed ok_word (length ts) (length w)) h.bytes)
    (laid_then at d (headed ok_word n (length s)) (omega (arith, length_headed ok_word n (length s) refl)) head lines)

-- ---- how long the text is

length-type_lines : (between : List ℕ) (i : ℕ) (ts : List Ty) → length (type_lines between i ts) ≤ lines_room (length between) (length ts) (length (write_types ts))
unfolding type_lines write_types
length-type_lines between i [] = omega arith
length-type_lines between i (t ∷ ts) =
    let first = length-append (type_line between i (write_ty t)) (type_lines between (suc i) ts) in
    let bytes = length-append (write_ty t) (write_types ts) in
    omega (arith, first, bytes, length_type_line between i (write_ty t), length-type_lines between (suc i) ts, suc-mul (length ts) (length between))

pub length-refused : (between : List ℕ) (k p : ℕ) → length (reported between (refused k p)) ≤ head_room
unfolding reported
length-refused between k p = length_headed no_word k p refl

pub length-accepted : (between : List ℕ) (ts : List Ty) → length (reported between (accepted ts)) ≤ text_room (length between) (length ts) (length (write_types ts))
unfolding reported
length-accepted between ts =
    omega (arith, length-append (headed ok_word (length ts) (length (write_types ts))) (type_lines between 0 ts), length_headed ok_word (length ts) (length (write_types ts)) refl, length-type_lines between 0 ts)
