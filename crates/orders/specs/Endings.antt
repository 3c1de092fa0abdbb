-- The closing sizes that a list of puts and pervadings leaves: where at most two puts name closing sizes, they are told by
-- whether any put is open and by which ones name closing sizes, in whatever order.
use Rattle.std.specs.Prelude.{ℕ, ◌+◌, ◌≤◌, min, Bool, true, false, ◌||◌, List, [], ◌∷◌, ◌≡◌, refl}
use Rattle.std.proofs.Common.{arith, sym}
use Rattle.std.proofs.Math.Bool.{or_comm, or_assoc}
use Rattle.std.proofs.Math.Option.{Option, none, some}
use Rattle.model.specs.Types.{Dim, Shape}
use Rattle.rules.specs.Shapes.{is_open}
use Rattle.rules.specs.Pervade.{pervade_closing}
use Rattle.orders.specs.Play.{Commutes}
use Rattle.orders.specs.Asked.{closing_of}

-- ---- endings

-- Which lists of closing sizes are named: none, this one, two, or more.
pub data ClosingLists : Type 0 where
  no_list : ClosingLists
  one_list : Dim → List Dim → ClosingLists
  two_lists : ClosingLists
  more_lists : ClosingLists

abbrev add_lists : ClosingLists → ClosingLists → ClosingLists
add_lists no_list y = y
add_lists (one_list d c) no_list = one_list d c
add_lists (one_list d c) (one_list e k) = two_lists
add_lists (one_list d c) two_lists = more_lists
add_lists (one_list d c) more_lists = more_lists
add_lists two_lists no_list = two_lists
add_lists two_lists (one_list e k) = more_lists
add_lists two_lists two_lists = more_lists
add_lists two_lists more_lists = more_lists
add_lists more_lists y = more_lists

-- Whether any is open, and which lists are named.
pub data Ending : Type 0 where
  ending : Bool → ClosingLists → Ending

abbrev pub add_ending : Ending → Ending → Ending
add_ending (ending a x) (ending b y) = ending (a || b) (add_lists x y)

abbrev pub no_ending : Ending
no_ending = ending false no_list

abbrev lists_in : Option (List Dim) → ClosingLists
lists_in none = no_list
lists_in (some []) = no_list
lists_in (some (d ∷ c)) = one_list d c

abbrev pub ending_of : Shape → Ending
ending_of s = ending (is_open (closing_of s)) (lists_in (closing_of s))

-- the closing sizes that an ending tells
abbrev close_lists : ClosingLists → Bool → Option (List Dim)
close_lists no_list false = none
close_lists no_list true = some []
close_lists (one_list d c) a = some (d ∷ c)
close_lists two_lists a = some []
close_lists more_lists a = some []

abbrev pub close : Ending → Option (List Dim)
close (ending a x) = close_lists x a

-- ---- laws

lists-comm : (x y : ClosingLists) → add_lists x y ≡ add_lists y x
lists-comm no_list no_list = refl
lists-comm no_list (one_list e k) = refl
lists-comm no_list two_lists = refl
lists-comm no_list more_lists = refl
lists-comm (one_list d c) no_list = refl
lists-comm (one_list d c) (one_list e k) = refl
lists-comm (one_list d c) two_lists = refl
lists-comm (one_list d c) more_lists = refl
lists-comm two_lists no_list = refl
lists-comm two_lists (one_list e k) = refl
lists-comm two_lists two_lists = refl
lists-comm two_lists more_lists = refl
lists-comm more_lists no_list = refl
lists-comm more_lists (one_list e k) = refl
lists-comm more_lists two_lists = refl
lists-comm more_lists more_lists = refl

-- two or more, and one more
lists-full : (x : ClosingLists) (d : Dim) (c : List Dim) → add_lists two_lists (add_lists (one_list d c) x) ≡ more_lists
lists-full no_list d c = refl
lists-full (one_list e k) d c = refl
lists-full two_lists d c = refl
lists-full more_lists d c = refl

lists-assoc : (x y z : ClosingLists) → add_lists (add_lists x y) z ≡ add_lists x (add_lists y z)
lists-assoc no_list y z = refl
lists-assoc (one_list d c) no_list z = refl
lists-assoc (one_list d c) (one_list e k) no_list = refl
lists-assoc (one_list d c) (one_list e k) (one_list f j) = refl
lists-assoc (one_list d c) (one_list e k) two_lists = refl
lists-assoc (one_list d c) (one_list e k) more_lists = refl
lists-assoc (one_list d c) two_lists no_list = refl
lists-assoc (one_list d c) two_lists (one_list f j) = refl
lists-assoc (one_list d c) two_lists two_lists = refl
lists-assoc (one_list d c) two_lists more_lists = refl
lists-assoc (one_list d c) more_lists z = refl
lists-assoc two_lists no_list z = refl
lists-assoc two_lists (one_list e k) z = sym (lists-full z e k)
lists-assoc two_lists two_lists no_list = refl
lists-assoc two_lists two_lists (one_list f j) = refl
lists-assoc two_lists two_lists two_lists = refl
lists-assoc two_lists two_lists more_lists = refl
lists-assoc two_lists more_lists z = refl
lists-assoc more_lists y z = refl

ending-unital : (x : Ending) → add_ending no_ending x ≡ x
ending-unital (ending a x) = refl

ending-comm : (x y : Ending) → add_ending x y ≡ add_ending y x
ending-comm (ending a x) (ending b y) = rw (or_comm a b, lists-comm x y)

ending-assoc : (x y z : Ending) → add_ending (add_ending x y) z ≡ add_ending x (add_ending y z)
ending-assoc (ending a x) (ending b y) (ending c z) = rw (or_assoc a b c, lists-assoc x y z)

pub ending_commutes : Commutes no_ending add_ending
ending_commutes = record { unital = ending-unital; comm = ending-comm; assoc = ending-assoc }

-- ---- how many lists are named, counted up to three

abbrev how_many : ClosingLists → ℕ
how_many no_list = 0
how_many (one_list d c) = 1
how_many two_lists = 2
how_many more_lists = 3

abbrev pub endings : Ending → ℕ
endings (ending a x) = how_many x

many_add : (x y : ClosingLists) → how_many (add_lists x y) ≡ min 3 (how_many x + how_many y)
many_add no_list no_list = refl
many_add no_list (one_list e k) = refl
many_add no_list two_lists = refl
many_add no_list more_lists = refl
many_add (one_list d c) no_list = refl
many_add (one_list d c) (one_list e k) = refl
many_add (one_list d c) two_lists = refl
many_add (one_list d c) more_lists = refl
many_add two_lists no_list = refl
many_add two_lists (one_list e k) = refl
many_add two_lists two_lists = refl
many_add two_lists more_lists = refl
many_add more_lists y = omega arith

pub endings_add : (x y : Ending) → endings (add_ending x y) ≡ min 3 (endings x + endings y)
endings_add (ending a x) (ending b y) = many_add x y

-- ---- pervading adds endings, while at most two lists are named

pub close_of : (c : Option (List Dim)) → close_lists (lists_in c) (is_open c) ≡ c
close_of none = refl
close_of (some []) = refl
close_of (some (d ∷ c)) = refl

close-lists : (x y : ClosingLists) (a b : Bool) → how_many (add_lists x y) ≤ 2 → pervade_closing (close_lists x a) (close_lists y b) ≡ close_lists (add_lists x y) (a || b)
unfolding pervade_closing
close-lists no_list no_list false b h = refl
close-lists no_list no_list true false h = refl
close-lists no_list no_list true true h = refl
close-lists no_list (one_list e k) false b h = refl
close-lists no_list (one_list e k) true b h = refl
close-lists no_list two_lists false b h = refl
close-lists no_list two_lists true b h = refl
close-lists no_list more_lists a b h = absurd (omega arith)
close-lists (one_list d c) no_list a false h = refl
close-lists (one_list d c) no_list a true h = refl
close-lists (one_list d c) (one_list e k) a b h = refl
close-lists (one_list d c) two_lists a b h = absurd (omega arith)
close-lists (one_list d c) more_lists a b h = absurd (omega arith)
close-lists two_lists no_list a false h = refl
close-lists two_lists no_list a true h = refl
close-lists two_lists (one_list e k) a b h = absurd (omega arith)
close-lists two_lists two_lists a b h = absurd (omega arith)
close-lists two_lists more_lists a b h = absurd (omega arith)
close-lists more_lists y a b h = absurd (omega arith)

pub close_add : (x y : Ending) → endings (add_ending x y) ≤ 2 → pervade_closing (close x) (close y) ≡ close (add_ending x y)
close_add (ending a x) (ending b y) h = close-lists x y a b h
