-- What the parts of packing and of unpacking ask for and answer. Each asks for something that lies at a place in the layout that is read, and
-- for room for it in the one that is written. It says for whatever lies there what it did: so who calls it need not know what it found.
use Rattle.std.specs.Prelude.{ℕ, ◌+◌, ◌≤◌, ◌<◌, List, ◌≡◌, length}
use Rattle.std.proofs.Math.Option.{Option}
use Rattle.model.specs.Limits.{max_types, max_depth}
use Rattle.model.specs.Types.{Dim, Shape, Scalar, inside, below}
use Rattle.model.specs.Within.{All, Each, DimWithin, ShapeWithin, NameWithin, ScalarWithin}
use Rattle.format.specs.Views.{Stands}
use Rattle.lent.specs.Over.{over}
use Rattle.packing.specs.Heads.{held_count}
use Rattle.packing.specs.Layouts.{Layout, sizes_in, shape_in, def_head, head_in, scalar_in}
use Rattle.packing.specs.declared.Head.{Head}
use Rattle.packing.specs.declared.Places.{Places}

-- ---- what lies there, from place `from` on

-- so many sizes
pub record SizesThere (v : Layout) (s : List ℕ) (from count : ℕ) (ds : List Dim) : Type 0 where
  pub stands : Stands s from (sizes_in v ds)
  pub within : All DimWithin ds
  pub counted : length ds ≡ count

pub record ShapeThere (v : Layout) (s : List ℕ) (from : ℕ) (o : Shape) : Type 0 where
  pub stands : Stands s from (shape_in v o)
  pub within : ShapeWithin o

-- a scalar with its contents
pub record ScalarThere (v : Layout) (s : List ℕ) (from : ℕ) (k : Scalar) : Type 0 where
  pub stands : Stands s from (scalar_in v k)
  pub within : ScalarWithin k
  pub few : inside k < max_types
  pub shallow : below k ≤ max_depth

-- a Def past its form and up to its fields
pub record DefThere (s : List ℕ) (from : ℕ) (n : Option (List ℕ)) (count : ℕ) : Type 0 where
  pub stands : Stands s from (def_head n count)
  pub within : Each NameWithin n

-- ---- that there is one, with room for it from `to` on

module _ (v w : Layout) (s : List ℕ) (from : ℕ) (out : List ℕ) (to : ℕ) where
  pub record HasSizes (count : ℕ) : Type 0 where
    pub dims : List Dim
    pub there : SizesThere v s from count dims
    pub room : to + length (sizes_in w dims) ≤ length out

  pub record HasShape : Type 0 where
    pub shape : Shape
    pub there : ShapeThere v s from shape
    pub room : to + length (shape_in w shape) ≤ length out

  -- a scalar, and room for it up to its contents
  pub record HasHead : Type 0 where
    pub scalar : Scalar
    pub there : ScalarThere v s from scalar
    pub room : to + length (head_in w scalar) ≤ length out

pub record HasDef (s : List ℕ) (from : ℕ) (out : List ℕ) (to : ℕ) : Type 0 where
  pub name : Option (List ℕ)
  pub count : ℕ
  pub there : DefThere s from name count
  pub room : to + length (def_head name count) ≤ length out

-- ---- what was done

-- The bytes x were read and y written, nothing else, and these are the places reached.
pub record After (from : ℕ) (x out : List ℕ) (to : ℕ) (y out₁ : List ℕ) (from₁ to₁ : ℕ) : Type 0 where
  pub read : from₁ ≡ from + length x
  pub wrote : to₁ ≡ to + length y
  pub laid : out₁ ≡ over out to y

module _ (v w : Layout) (s : List ℕ) (from : ℕ) (out : List ℕ) (to : ℕ) where
  abbrev pub SizesDone : ℕ → List ℕ → Places → Type 0
  SizesDone count out₁ r = (ds : List Dim) → SizesThere v s from count ds → After from (sizes_in v ds) out to (sizes_in w ds) out₁ r.from r.to

  abbrev pub ShapeDone : List ℕ → Places → Type 0
  ShapeDone out₁ r = (o : Shape) → ShapeThere v s from o → After from (shape_in v o) out to (shape_in w o) out₁ r.from r.to

  abbrev pub HeadDone : List ℕ → Head → Type 0
  HeadDone out₁ r = (k : Scalar) → ScalarThere v s from k → After from (head_in v k) out to (head_in w k) out₁ r.from r.to × (r.contents ≡ held_count k)

abbrev pub DefDone : List ℕ → ℕ → List ℕ → ℕ → List ℕ → Head → Type 0
DefDone s from out to out₁ r =
    (n : Option (List ℕ)) (count : ℕ) → DefThere s from n count → After from (def_head n count) out to (def_head n count) out₁ r.from r.to × (r.contents ≡ count)
