-- Reading left to right over one list of bytes. A reader is a function of the place reached: it gives a value and the place
-- after it, or stops with a refusal's number and place. What is read for a record hands on p, the place that its refusals name.
use Rattle.std.specs.Prelude.{ℕ, zero, suc, ◌+◌, ◌*◌, ◌/◌, ◌%◌, ◌<◌, Bool, true, false, cond, List, [], ◌∷◌, ◌++◌, ◌≡◌, length, get_or, drop, ltb}
use Rattle.model.specs.Refusals.{ended, out_of_range}

infixl 20 ◌>>=◌
infixl 20 ◌>>◌
pub data Read (A : Type 0) : Type 0 where
  got : A → ℕ → Read A
  stopped : ℕ → ℕ → Read A

abbrev pub Reader : Type 0 → Type 0
Reader A = ℕ → Read A

abbrev pub and_then : {A B : Type 0} → Read A → (A → Reader B) → Read B
and_then (got a next) f = f a next
and_then (stopped k p) f = stopped k p

abbrev pub map_read : {A B : Type 0} → (A → B) → Read A → Read B
map_read f (got a next) = got (f a) next
map_read f (stopped k p) = stopped k p

abbrev pub ◌>>=◌ : {A B : Type 0} → Reader A → (A → Reader B) → Reader B
◌>>=◌ m f = λ at. and_then (m at) f

abbrev pub ◌>>◌ : {A B : Type 0} → Reader A → Reader B → Reader B
◌>>◌ m f = λ at. and_then (m at) (λ _. f)

abbrev pub give : {A : Type 0} → A → Reader A
give a = λ at. got a at

abbrev pub stop : {A : Type 0} → ℕ → ℕ → Reader A
stop k p = λ at. stopped k p

-- goes on where the test holds, else stops with the number k at place p
abbrev pub need : Bool → ℕ → ℕ → Reader (Unit {0})
need true k p = give tt
need false k p = stop k p

-- a record's reader at the place reached: its refusals name that place
abbrev pub here : {A : Type 0} → (ℕ → Reader A) → Reader A
here f = λ at. f at at

module _ (s : List ℕ) where
  unfoldable pub byte : ℕ → Reader ℕ
  byte p = λ at. cond (ltb at (length s)) (got (get_or s at 0) (suc at)) (stopped ended p)

  -- a byte that is judged as it is read: a count, a flag or a byte of a name
  unfoldable pub judged : (ℕ → Bool) → ℕ → Reader ℕ
  judged allowed p = do
    b ← byte p
    need (allowed b) out_of_range p
    give b

  -- a number of k bytes, low byte first
  unfoldable pub number : ℕ → ℕ → Reader ℕ
  number zero p = give 0
  number (suc k) p = do
    b ← byte p
    n ← number k p
    give (n * 256 + b)

-- a number written as k bytes, low byte first
unfoldable pub bytes_of : ℕ → ℕ → List ℕ
bytes_of zero n = []
bytes_of (suc k) n = n % 256 ∷ bytes_of k (n / 256)

-- Bytes: every element is one, as in every slice of u8.
abbrev pub Bytes : List ℕ → Type 0
Bytes s = (i : ℕ) → get_or s i 0 < 256

-- ---- what was written and what was read

-- m reads a off the bytes w, wherever they stand in s. A record, so that m, w and a can be read off a goal.
pub record Reads {A : Type 0} (s : List ℕ) (m : Reader A) (w : List ℕ) (a : A) : Type 0 where
  pub run : (at : ℕ) (rest : List ℕ) → drop at s ≡ w ++ rest → m at ≡ got a (at + length w)

-- From place `at` up to place n stand the bytes w.
pub record Took (s : List ℕ) (at : ℕ) (w : List ℕ) (n : ℕ) : Type 0 where
  pub is : drop at s ≡ w ++ drop n s
