-- How often a value stands in a list. Two lists in which each value stands as often gather to the same in any commutative monoid.
use Rattle.std.specs.Prelude.{◌+◌, ◌<◌, Bool, true, false, cond, List, [], ◌∷◌, ◌≡◌, refl}
use Rattle.std.proofs.Common.{arith, sym, ◌∙◌, ap}
use Rattle.machine.specs.Conditions.{times_in}
use Rattle.orders.specs.Play.{gather, Commutes}

module _ {A : Type 0} (same : A → A → Bool) (same_refl : (a : A) → same a a ≡ true) (same_true : (a b : A) → same a b ≡ true → a ≡ b) where
  -- a list without the first a in it
  abbrev without : A → List A → List A
  without a [] = []
  without a (b ∷ l) = cond (same a b) l (b ∷ without a l)

  count-first : (a : A) (l : List A) → 0 < times_in same a (a ∷ l)
  count-first a l = rw (same_refl a) (omega arith)

  count-without : (a : A) (l : List A) → 0 < times_in same a l → (b : A) → times_in same b (a ∷ without a l) ≡ times_in same b l
  count-without a [] h b = absurd (omega arith)
  count-without a (c ∷ l) h b = go (same a c) refl (λ k. count-without a l k b)
    where
      go : (t : Bool) → same a c ≡ t → (0 < times_in same a l → times_in same b (a ∷ without a l) ≡ times_in same b l)
          → cond (same b a) 1 0 + times_in same b (cond t l (c ∷ without a l)) ≡ cond (same b c) 1 0 + times_in same b l
      go true e r = rw (same_true a c e)
      go false e r = let k : 0 < times_in same a l = (let j : 0 < cond false 1 0 + times_in same a l = rw e at h in omega arith) in omega (arith, r k)

  module _ {M : Type 0} {unit : M} {plus : M → M → M} (laws : Commutes unit plus) (value : A → M) where
    abbrev all : List A → M
    all l = gather unit plus value l

    gather-without : (a : A) (l : List A) → 0 < times_in same a l → all l ≡ plus (value a) (all (without a l))
    gather-without a [] h = absurd (omega arith)
    gather-without a (c ∷ l) h = go (same a c) refl (λ k. gather-without a l k)
      where
        go : (t : Bool) → same a c ≡ t → (0 < times_in same a l → all l ≡ plus (value a) (all (without a l))) → plus (value c) (all l) ≡ plus (value a) (all (cond t l (c ∷ without a l)))
        go true e r = rw (same_true a c e)
        go false e r =
            let k : 0 < times_in same a l = (let j : 0 < cond false 1 0 + times_in same a l = rw e at h in omega arith) in
            ap (plus (value c)) (r k)
            ∙ sym (laws.assoc (value c) (value a) (all (without a l)))
            ∙ ap (λ x. plus x (all (without a l))) (laws.comm (value c) (value a))
            ∙ laws.assoc (value a) (value c) (all (without a l))

    pub gather-counts : (l m : List A) → ((a : A) → times_in same a l ≡ times_in same a m) → all l ≡ all m
    gather-counts [] [] h = refl
    gather-counts [] (a ∷ m) h = absurd (omega (arith, h a, count-first a m))
    gather-counts (a ∷ l) m h =
        let k : 0 < times_in same a m = omega (arith, h a, count-first a l) in
        ap (plus (value a)) (gather-counts l (without a m) (λ b. rest b (h b ∙ sym (count-without a m k b))))
        ∙ sym (gather-without a m k)
      where
        rest : (b : A) → times_in same b (a ∷ l) ≡ times_in same b (a ∷ without a m) → times_in same b l ≡ times_in same b (without a m)
        rest b e = omega arith
