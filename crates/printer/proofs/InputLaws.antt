-- An input that was read to its end, or beyond what a sheet may have, gets the text of the bytes that stand in the buffer.
use Prim.Native.Nat.{ℕ, ◌≤◌, ◌<◌}
use native.Mathlib.Omega.{arith}
use mathlib.Core.Bool.{Bool, true, false}
use mathlib.Core.List.{List, ◌++◌}
use mathlib.Core.Path.{◌≡◌, refl, sym, ◌∙◌, ap, subst}
use lib.ListN.{length, take}
use lib.Seq.{take_all, length-take-le}
use lib.Dec.{ltb}
use borrow.Author.Tests.{ltb-true, ltb-false}
use Rattle.std.specs.Prelude.{Some, None}
use Rattle.machine.specs.SheetLimits.{program_bytes}
use Rattle.report.specs.Laid.{Laid}
use Rattle.report.specs.Report.{line_feed, reported, buffers, buffers_of, program_call, printed}
use Rattle.streams.specs.Streams.{ToTheEnd}
use Rattle.streams.specs.declared.Answered.{Answered}
use Rattle.streams.specs.declared.Answered.TheVariants.{Bytes, Nothing, Failed}
use Rattle.printer.specs.Input.{ReadFrom, TextOf, Prints}
use Rattle.printer.proofs.ProgramLaws.{outcome_long, call_long}

-- ---- one text for the input and for what was read of it

-- The two are the same bytes, or both are too long.
data Alike (s t : List ℕ) : Type 0 where
  equal : s ≡ t → Alike s t
  long : program_bytes < length s → program_bytes < length t → Alike s t

alike-printed : {s t : List ℕ} → Alike s t → printed s ≡ printed t
unfolding printed
alike-printed (equal e) = ap printed e
alike-printed {s} {t} (long h k) = ap (λ o. reported line_feed o ++ line_feed) (outcome_long s h ∙ sym (outcome_long t k))

alike-left : {s t : List ℕ} (result scratch : List ℕ) → Alike s t → buffers_of (program_call s result scratch) ≡ buffers_of (program_call t result scratch)
alike-left result scratch (equal e) = ap (λ s. buffers_of (program_call s result scratch)) e
alike-left {s} {t} result scratch (long h k) = ap buffers_of (call_long s result scratch h ∙ sym (call_long t result scratch k))

module _ (input buf : List ℕ) (count : ℕ) (inside : count ≤ length buf) where
  long-alike : program_bytes < count → count ≤ length input → Alike (take count buf) input
  long-alike h there = long (rw (length-take-le count buf inside) h) (omega arith)

  whole-alike : take count buf ≡ take count input → count ≡ length input → Alike (take count buf) input
  whole-alike front whole = equal (front ∙ take_all count input (omega arith))

-- A read that gave no byte has found the end; after one that gave some the buffer is full, and longer than a sheet may be.
read_alike : (input buf : List ℕ) (count : ℕ) (last : Answered) → (last ≡ Failed → ⊥) → program_bytes < length buf → ToTheEnd count last (length buf) → ReadFrom input buf count last → Alike (take count buf) input
read_alike input buf count Failed ok wide t h = absurd (ok refl)
read_alike input buf count Nothing ok wide t h = whole-alike input buf count t.inside h.front (h.whole refl)
read_alike input buf count (Bytes n) ok wide t h = by (ltb count (length buf)) refl
  where
    by : (b : Bool) → ltb count (length buf) ≡ b → Alike (take count buf) input
    by true e = absurd (t.ended (ltb-true count (length buf) e))
    by false e = let full = ltb-false count (length buf) e in long-alike input buf count t.inside (omega arith) h.there

-- ---- what is printed

module _ (buf : List ℕ) (count : ℕ) (result scratch out : List ℕ) where
  pub prints_nothing : (last : Answered) → last ≡ Failed → Prints last buf count None result result scratch scratch out out
  prints_nothing last h = rw h (refl, refl, refl)

  module _ (result₁ scratch₁ out₁ : List ℕ) {r : ℕ} (wide : program_bytes < length buf)
      (laid : Laid r 0 out out₁ (printed (take count buf))) (left : buffers result₁ scratch₁ ≡ buffers_of (program_call (take count buf) result scratch)) where
    text_of : {input : List ℕ} → Alike (take count buf) input → TextOf input (Some r) result result₁ scratch scratch₁ out out₁
    text_of a =
        record {
          size = r;
          text = refl;
          laid = subst (λ w. Laid r 0 out out₁ w) (alike-printed a) laid;
          left = left ∙ alike-left result scratch a;
        }

    pub prints_text : (last : Answered) → (last ≡ Failed → ⊥) → ToTheEnd count last (length buf) → Prints last buf count (Some r) result result₁ scratch scratch₁ out out₁
    prints_text (Bytes n) h t = λ input f. text_of (read_alike input buf count (Bytes n) h wide t f)
    prints_text Nothing h t = λ input f. text_of (read_alike input buf count Nothing h wide t f)
    prints_text Failed h t = absurd (h refl)
