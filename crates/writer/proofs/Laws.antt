-- What the stores of this crate come to, as records laid over a buffer.
use Prim.Native.Nat.{ℕ, ◌+◌, ◌*◌, ◌≤◌, ◌<◌, min}
use native.Mathlib.Omega.{arith}
use native.Mathlib.Numerals.{add-one, unary_clauses}
use mathlib.Core.List.{List, [], ◌∷◌, ◌++◌, map, append_assoc, append-nil}
use mathlib.Core.Path.{◌≡◌, refl, sym, ◌∙◌, ap}
use lib.ListN.{length, get_or, set, take, length-map, length-take, get_or-map}
use lib.Seq.{sets, sets-eq, take-suc, take_all, get_or-take, length-take-le}
use Rattle.format.specs.Suffices.{length-write_dims}
use Rattle.model.specs.Types.{Dim}
use Rattle.format.specs.Reader.{bytes_of}
use Rattle.format.specs.Records.{dim_number, dim_of, write_dims}
use Rattle.format.specs.ReadWrite.{dim-number}
use Rattle.lent.specs.Over.{over, over-over}

-- eight bytes, each stored
module _ (out : List ℕ) (at a b c d e f g h : ℕ) where
  abbrev stored : List ℕ
  stored = set (set (set (set (set (set (set (set out at a) (at + 1) b) (at + 2) c) (at + 3) d) (at + 4) e) (at + 5) f) (at + 6) g) (at + 7) h

  pub eight_stores : at + 8 ≤ length out → stored ≡ over out at (a ∷ b ∷ c ∷ d ∷ e ∷ f ∷ g ∷ h ∷ [])
  eight_stores fits =
      let stores : stored ≡ sets out at (a ∷ b ∷ c ∷ d ∷ e ∷ f ∷ g ∷ h ∷ []) = simp unary_clauses in
      stores ∙ sets-eq (a ∷ b ∷ c ∷ d ∷ e ∷ f ∷ g ∷ h ∷ []) out at fits

pub length-dims : (sizes : List ℕ) (count : ℕ) → length (map dim_of (take count sizes)) ≡ min count (length sizes)
length-dims sizes count = length-map (take count sizes) dim_of ∙ length-take count sizes

write_dims_append : (ds es : List Dim) → write_dims (ds ++ es) ≡ write_dims ds ++ write_dims es
write_dims_append [] es = refl
write_dims_append (d ∷ ds) es = rw (write_dims_append ds es) (sym (append_assoc (bytes_of 8 (dim_number d)) (write_dims ds) (write_dims es)))

-- ---- sizes, one after the other: the first i of them are written

module _ (out : List ℕ) (start : ℕ) (sizes : List ℕ) (count : ℕ) where
  abbrev dims : List Dim
  dims = map dim_of (take count sizes)

  abbrev pub Laid : List ℕ → ℕ → Type 0
  Laid now i = now ≡ over out start (write_dims (take i dims))

  dims-more : (i : ℕ) → i < length dims → write_dims (take (i + 1) dims) ≡ write_dims (take i dims) ++ bytes_of 8 (get_or sizes i 0)
  dims-more i h =
      let l : i < count = omega (arith, length-dims sizes count) in
      let v : dim_number (get_or dims i (dim_of 0)) ≡ get_or sizes i 0 = ap dim_number (get_or-map dim_of (take count sizes) i 0 ∙ ap dim_of (get_or-take count sizes i 0 l)) ∙ dim-number (get_or sizes i 0) in
      rw (add-one, take-suc dims i (dim_of 0) h) (write_dims_append (take i dims) (get_or dims i (dim_of 0) ∷ []) ∙ ap (λ w. write_dims (take i dims) ++ w) (append-nil (bytes_of 8 (dim_number (get_or dims i (dim_of 0)))) ∙ ap (bytes_of 8) v))

  length_some : (i : ℕ) → i ≤ length dims → length (write_dims (take i dims)) ≡ 8 * i
  length_some i h = length-write_dims (take i dims) ∙ ap (λ n. 8 * n) (length-take-le i dims h)

  pub lay_more : {now : List ℕ} {i : ℕ} → i < length dims → start + 8 * length dims ≤ length out → Laid now i → Laid (over now (start + 8 * i) (bytes_of 8 (get_or sizes i 0))) (i + 1)
  lay_more {now} {i} h fits laid =
      let w : List ℕ = write_dims (take i dims) in
      let b : List ℕ = bytes_of 8 (get_or sizes i 0) in
      let l : length w ≡ 8 * i = length_some i (omega arith) in
      ap (λ x. over x (start + 8 * i) b) laid
      ∙ ap (λ n. over (over out start w) (start + n) b) (sym l)
      ∙ over-over out start w (omega arith) b
      ∙ ap (over out start) (sym (dims-more i h))

  -- past the last of them nothing more is written
  module _ (i : ℕ) {now : List ℕ} (past : length dims ≤ i) (laid : Laid now i) where
    pub lay_all : now ≡ over out start (write_dims dims)
    lay_all = laid ∙ ap (λ ds. over out start (write_dims ds)) (take_all i dims past)

    pub lay_past : Laid now (i + 1)
    lay_past = lay_all ∙ sym (ap (λ ds. over out start (write_dims ds)) (take_all (i + 1) dims (omega arith)))
