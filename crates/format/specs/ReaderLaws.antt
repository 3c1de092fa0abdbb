-- Laws of readers, one for each form of statement: what reads the bytes that were written (`Reads`), and what an accepted
-- reading took (`Took`).
use Prim.Native.Nat.{ℕ, zero, suc, ◌+◌, ◌*◌, ◌/◌, ◌%◌, ◌^◌, ◌≤◌, ◌<◌}
use Rattle.std.proofs.Common.{add-one, add-zero, add_assoc, div-lt_iff_lt-mul, div-add-mod', append_assoc, sym, ◌∙◌, ap, length-append, length-drop, drop-drop, get_or-drop, drop-cons, lt-ltb, le-ltb, ltb-true}
use native.Mathlib.Omega.{arith}
use Rattle.std.proofs.Math.Nat.{pow-suc}
use Rattle.std.specs.Prelude.{Bool, List, [], ◌∷◌, ◌++◌, length, drop}
use Rattle.std.proofs.Math.Bool.{true, false, cond}
use Rattle.std.proofs.Math.Path.{◌≡◌, refl}
use Rattle.std.proofs.Math.ListN.{get_or}
use Rattle.std.proofs.Math.Seq.{drop-append_seam}
use Rattle.std.proofs.Math.Dec.{ltb, lit<}
use Rattle.std.proofs.Math.Arith.{digits_div, digits_mod, digits_lt}
use Rattle.model.specs.Refusals.{ended, out_of_range}
use Rattle.format.specs.Reader.{Bytes, Read, got, stopped, Reader, and_then, ◌>>=◌, ◌>>◌, give, need, here, byte, judged, number, bytes_of, Reads, Took}

-- ---- written and read

module _ (s : List ℕ) where
  pub drop_past : (at : ℕ) (xs ys : List ℕ) → drop at s ≡ xs ++ ys → drop (at + length xs) s ≡ ys
  drop_past at xs ys e = sym (drop-drop (length xs) at s) ∙ ap (drop (length xs)) e ∙ drop-append_seam xs ys

  pub byte-there : (p at : ℕ) → at < length s → byte s p at ≡ got (get_or s at 0) (suc at)
  unfolding byte
  byte-there p at h = rw (lt-ltb at (length s) h)

  pub byte-ended : (p at : ℕ) → length s ≤ at → byte s p at ≡ stopped ended p
  unfolding byte
  byte-ended p at h = rw (le-ltb at (length s) h)

  byte_at : (p at b : ℕ) (rest : List ℕ) → drop at s ≡ b ∷ rest → byte s p at ≡ got b (suc at)
  byte_at p at b rest e =
      let l : length (drop at s) ≡ suc (length rest) = ap length e in
      let l' : at < length s = omega (arith, length-drop at s) in
      let g : get_or s at 0 ≡ b = rw (add-zero at) at (sym (get_or-drop at s 0 0) ∙ ap (λ (x : List ℕ). get_or x 0 0) e) in
      byte-there p at l' ∙ rw g

module _ {s : List ℕ} where
  pub reads-give : {A : Type 0} {a : A} → Reads s (give a) [] a
  reads-give = record { run = λ at rest e. rw add-zero }

  pub reads_bind : {A B : Type 0} {m : Reader A} (f : A → Reader B) {xs ys : List ℕ} {a : A} {b : B} → Reads s m xs a → Reads s (f a) ys b → Reads s (m >>= f) (xs ++ ys) b
  reads_bind f {xs} {ys} h k = record {
    run = λ at rest e.
        let e' : drop at s ≡ xs ++ (ys ++ rest) = rw append_assoc at e in
        rw (h.run at (ys ++ rest) e') (rw (k.run (at + length xs) rest (drop_past s at xs (ys ++ rest) e')) (rw (length-append, add_assoc)));
  }

  reads-one : (p x : ℕ) → Reads s (byte s p) (x ∷ []) x
  reads-one p x = record { run = λ at rest e. byte_at s p at x rest e ∙ rw add-one }

  pub reads_byte : {B : Type 0} (p : ℕ) (f : ℕ → Reader B) {x : ℕ} {ys : List ℕ} {b : B} → Reads s (f x) ys b → Reads s (byte s p >>= f) (x ∷ ys) b
  reads_byte p f {x} k = reads_bind f (reads-one p x) k

  pub reads-need : {B : Type 0} (t : Bool) (k p : ℕ) {q : Reader B} {ys : List ℕ} {b : B} → t ≡ true → Reads s q ys b → Reads s (need t k p >> q) ys b
  reads-need t k p e h = record { run = λ at rest d. rw e (h.run at rest d) }

  pub reads-judged : {B : Type 0} (allowed : ℕ → Bool) (p : ℕ) (f : ℕ → Reader B) {x : ℕ} {ys : List ℕ} {b : B} → allowed x ≡ true → Reads s (f x) ys b → Reads s (judged s allowed p >>= f) (x ∷ ys) b
  unfolding judged
  reads-judged allowed p f {x} e k = reads_bind f (reads_byte p _ (reads-need (allowed x) out_of_range p e reads-give)) k

  pub reads_here : {A : Type 0} (f : ℕ → Reader A) {w : List ℕ} {a : A} → ((p : ℕ) → Reads s (f p) w a) → Reads s (here f) w a
  reads_here f h = record { run = λ at rest e. (h at).run at rest e }

  -- The last statement gives a value made from what was read.
  pub reads-last : {A B : Type 0} {m : Reader A} (g : A → B) {xs : List ℕ} {a : A} {b : B} → Reads s m xs a → g a ≡ b → Reads s (m >>= λ x. give (g x)) xs b
  reads-last g h e = record { run = λ at rest d. rw (h.run at rest d, e) }

  pub reads-number : (k p n : ℕ) → n < 256 ^ k → Reads s (number s k p) (bytes_of k n) n
  unfolding number bytes_of
  reads-number zero p n h = let e : n ≡ 0 = omega arith in rw e reads-give
  reads-number (suc k) p n h =
      let h' : n / 256 < 256 ^ k = (div-lt_iff_lt-mul (lit< tt)).1 (rw pow-suc at h) in
      reads_byte p _ (reads-last (λ m. m * 256 + n % 256) (reads-number k p (n / 256) h') (div-add-mod' n 256))

-- ---- read and written

module _ {s : List ℕ} where
  pub took-none : {at : ℕ} → Took s at [] at
  took-none = record { is = refl }

  pub took-join : {at m n : ℕ} {xs ys : List ℕ} → Took s at xs m → Took s m ys n → Took s at (xs ++ ys) n
  took-join e f = record { is = rw append_assoc (rw (← f.is) e.is) }

-- An accepted sequence: both parts were accepted. By continuation, so that the value and the place between them are variables.
pub split : {A B C : Type 0} (r : Read A) {f : A → Reader B} {b : B} {n : ℕ} → and_then r f ≡ got b n → ((a : A) (m : ℕ) → r ≡ got a m → f a m ≡ got b n → C) → C
split (got a m) e k = k a m refl e
split (stopped j p) e k = let z : ◌≡◌ {A = ℕ} 0 1 = cc in absurd (omega arith)

pub needed : {B C : Type 0} (t : Bool) (j p at : ℕ) (q : Reader B) {b : B} {n : ℕ} → and_then (need t j p at) (λ _. q) ≡ got b n → (t ≡ true → q at ≡ got b n → C) → C
needed true j p at q e k = k refl e
needed false j p at q e k = let z : ◌≡◌ {A = ℕ} 0 1 = cc in absurd (omega arith)

pub gave : {A C : Type 0} {a b : A} {m n : ℕ} → got a m ≡ got b n → (a ≡ b → m ≡ n → C) → C
gave e k = k (cc) (cc)

module _ (s : List ℕ) (small : Bytes s) where
  pub took-byte : (p at b n : ℕ) → byte s p at ≡ got b n → Took s at (b ∷ []) n × (b < 256)
  unfolding byte
  took-byte p at b n e = go (ltb at (length s)) refl e
    where
      go : (t : Bool) → ltb at (length s) ≡ t → cond t (got (get_or s at 0) (suc at)) (stopped ended p) ≡ got b n → Took s at (b ∷ []) n × (b < 256)
      go true h e =
          let x : get_or s at 0 ≡ b = cc in
          let y : n ≡ suc at = cc in
          (record { is = rw (y, ← x) (drop-cons s at 0 (ltb-true at (length s) h)) }, rw x at (small at))
      go false h e = let z : ◌≡◌ {A = ℕ} 0 1 = cc in absurd (omega arith)

  pub took-judged : (allowed : ℕ → Bool) (p at b n : ℕ) → judged s allowed p at ≡ got b n → Took s at (b ∷ []) n × (allowed b ≡ true)
  unfolding judged
  took-judged allowed p at b n e =
      split (byte s p at) e λ x m e₁ e₂.
      needed (allowed x) _ _ _ _ e₂ λ t e₃.
      gave e₃ λ w y.
      rw (← w, ← y) ((took-byte p at x m e₁).0, t)

  pub took_number : (k p at a n : ℕ) → number s k p at ≡ got a n → Took s at (bytes_of k a) n × (a < 256 ^ k)
  unfolding number bytes_of
  took_number zero p at a n e = gave e λ x y. rw (← x, ← y) (took-none, lit< tt)
  took_number (suc k) p at a n e =
      split (byte s p at) e λ b m e₁ e₂.
      split (number s k p m) e₂ λ q m' e₃ e₄.
      gave e₄ λ x y.
      let h = took-byte p at b m e₁ in
      let r = took_number k p m q m' e₃ in
      (rw (← x, ← y, digits_mod q h.1, digits_div q h.1) (took-join h.0 r.0), rw (← x, pow-suc) (digits_lt r.1 h.1))
