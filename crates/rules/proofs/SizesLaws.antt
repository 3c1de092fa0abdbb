-- Laws about two sizes: their order, the larger of them, when they are compatible, and that neither the larger nor the join passes the largest size.
use Rattle.std.specs.Prelude.{ℕ, ◌<◌, Bool, true, false, ◌||◌, cond, ◌≡◌, refl, eqb, ltb}
use Rattle.std.proofs.Common.{arith, sym, ap, eqb-true, eq-eqb, ne_eqb, lt-ltb, le-ltb, ltb-true, ltb-false}
use Rattle.std.proofs.lemmas.Bool.{eqb-false}
use Rattle.model.specs.Types.{Dim, static, unknown}
use Rattle.model.specs.Within.{DimWithin}
use Rattle.rules.specs.Sizes.{Order, less, same, more, cmp_number, later_by, cmp_dim, larger, is_one, compatible, row_compatible, join_dim}

-- ---- numbers

eqb_comm : (m n : ℕ) → eqb m n ≡ eqb n m
eqb_comm m n = go (eqb m n) refl
  where
    go : (t : Bool) → eqb m n ≡ t → t ≡ eqb n m
    go true h = sym (eq-eqb n m (sym (eqb-true m n h)))
    go false h = sym (ne_eqb n m (λ e. eqb-false m n h (sym e)))

pub cmp_number-less : (m n : ℕ) → m < n → cmp_number m n ≡ less
cmp_number-less m n h = rw (lt-ltb m n h)

pub cmp_number-more : (m n : ℕ) → n < m → cmp_number m n ≡ more
cmp_number-more m n h = rw (le-ltb m n (omega arith), ne_eqb m n (λ e. omega arith))

pub cmp_number-refl : (n : ℕ) → cmp_number n n ≡ same
cmp_number-refl n = rw (le-ltb n n (omega arith), eq-eqb n n refl)

pub cmp_number-same : (m n : ℕ) → cmp_number m n ≡ same → m ≡ n
cmp_number-same m n h = go (ltb m n) (eqb m n) refl h
  where
    go : (t u : Bool) → eqb m n ≡ u → cond t less (cond u same more) ≡ same → m ≡ n
    go true u e h = cc
    go false true e h = eqb-true m n e
    go false false e h = cc

-- the other way round
abbrev pub flip : Order → Order
flip less = more
flip same = same
flip more = less

pub cmp_number-flip : (m n : ℕ) → cmp_number n m ≡ flip (cmp_number m n)
cmp_number-flip m n = go (ltb m n) (eqb m n) refl refl
  where
    go : (t u : Bool) → ltb m n ≡ t → eqb m n ≡ u → cmp_number n m ≡ flip (cond t less (cond u same more))
    go true u e h = cmp_number-more n m (ltb-true m n e)
    go false true e h = rw (eqb-true m n h) (cmp_number-refl n)
    go false false e h = let l = ltb-false m n e in let x = eqb-false m n h in cmp_number-less n m (omega arith)

-- ---- `Dim`'s order

pub cmp_dim-refl : (d : Dim) → cmp_dim d d ≡ same
unfolding cmp_dim
cmp_dim-refl (static n) = cmp_number-refl n
cmp_dim-refl unknown = refl

pub cmp_dim-same : (d e : Dim) → cmp_dim d e ≡ same → d ≡ e
unfolding cmp_dim
cmp_dim-same (static m) (static n) h = ap static (cmp_number-same m n h)
cmp_dim-same (static m) unknown h = go (eqb m 1) h
  where
    go : (t : Bool) → cond t less more ≡ same → static m ≡ unknown
    go true h = cc
    go false h = cc
cmp_dim-same unknown (static n) h = go (eqb n 1) h
  where
    go : (t : Bool) → cond t more less ≡ same → unknown ≡ static n
    go true h = cc
    go false h = cc
cmp_dim-same unknown unknown h = refl

pub cmp_dim-flip : (d e : Dim) → cmp_dim e d ≡ flip (cmp_dim d e)
unfolding cmp_dim
cmp_dim-flip (static m) (static n) = cmp_number-flip m n
cmp_dim-flip (static m) unknown = go (eqb m 1)
  where
    go : (t : Bool) → cond t more less ≡ flip (cond t less more)
    go true = refl
    go false = refl
cmp_dim-flip unknown (static n) = go (eqb n 1)
  where
    go : (t : Bool) → cond t less more ≡ flip (cond t more less)
    go true = refl
    go false = refl
cmp_dim-flip unknown unknown = refl

-- ---- the larger

-- the later of two is one of them
pub later_by-either {ℓ κ} : {A : Type ℓ} (P : A → Type κ) (x : Order) (a b : A) → P a → P b → P (later_by x a b)
later_by-either P less a b p q = q
later_by-either P same a b p q = q
later_by-either P more a b p q = p

pub larger-either {κ} : (P : Dim → Type κ) (d e : Dim) → P d → P e → P (larger d e)
unfolding larger
larger-either P d e p q = later_by-either P (cmp_dim d e) d e p q

pub larger_idem : (d : Dim) → larger d d ≡ d
larger_idem d = larger-either (λ x. x ≡ d) d d refl refl

pub larger-comm : (d e : Dim) → larger d e ≡ larger e d
unfolding larger
larger-comm d e = rw (cmp_dim-flip d e) (go (cmp_dim d e) refl)
  where
    go : (x : Order) → cmp_dim d e ≡ x → later_by x d e ≡ later_by (flip x) e d
    go less h = refl
    go same h = sym (cmp_dim-same d e h)
    go more h = refl

pub larger-within : (d e : Dim) → DimWithin d → DimWithin e → DimWithin (larger d e)
larger-within d e h k = larger-either DimWithin d e h k

-- ---- tests

pub compatible-refl : (d : Dim) → compatible d d ≡ true
unfolding compatible
compatible-refl (static n) = eq-eqb n n refl
compatible-refl unknown = refl

pub row_compatible-refl : (d : Dim) → row_compatible d d ≡ true
unfolding row_compatible
row_compatible-refl d = rw (compatible-refl d)

compatible-comm : (d e : Dim) → compatible d e ≡ compatible e d
unfolding compatible
compatible-comm (static m) (static n) = eqb_comm m n
compatible-comm (static m) unknown = refl
compatible-comm unknown (static n) = refl
compatible-comm unknown unknown = refl

pub row_compatible-comm : (d e : Dim) → row_compatible d e ≡ row_compatible e d
unfolding row_compatible
row_compatible-comm d e = rw (compatible-comm d e) (go (compatible e d) (is_one d) (is_one e))
  where
    go : (t x y : Bool) → (t || x || y) ≡ (t || y || x)
    go true x y = refl
    go false true true = refl
    go false true false = refl
    go false false true = refl
    go false false false = refl

-- ---- the join

pub join_dim_idem : (d : Dim) → join_dim d d ≡ d
unfolding join_dim
join_dim_idem (static n) = rw (eq-eqb n n refl)
join_dim_idem unknown = refl

pub join_dim-unknown : (d : Dim) → join_dim d unknown ≡ unknown
unfolding join_dim
join_dim-unknown (static n) = refl
join_dim-unknown unknown = refl

pub join_dim-comm : (d e : Dim) → join_dim d e ≡ join_dim e d
unfolding join_dim
join_dim-comm (static m) (static n) = rw (eqb_comm n m) (go (eqb m n) refl)
  where
    go : (t : Bool) → eqb m n ≡ t → cond t (static m) unknown ≡ cond t (static n) unknown
    go true h = ap static (eqb-true m n h)
    go false h = refl
join_dim-comm (static m) unknown = refl
join_dim-comm unknown (static n) = refl
join_dim-comm unknown unknown = refl

pub join_dim-within : (d e : Dim) → DimWithin d → DimWithin (join_dim d e)
unfolding join_dim
join_dim-within (static m) (static n) h = go (eqb m n)
  where
    go : (t : Bool) → DimWithin (cond t (static m) unknown)
    go true = h
    go false = tt
join_dim-within (static m) unknown h = tt
join_dim-within unknown e h = tt
