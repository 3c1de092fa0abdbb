-- What a program is asked for by its first argument: two words are known, each the list of its ASCII codes.
use Rattle.std.specs.Prelude.{ℕ, List, [], ◌∷◌, ◌≡◌}
use Rattle.streams.specs.declared.Asked.{Asked}
use Rattle.streams.specs.declared.Asked.TheVariants.{Work, Help, Version, Unknown}

-- "--help" and "--version"
abbrev pub help_word : List ℕ
help_word = 45 ∷ 45 ∷ 104 ∷ 101 ∷ 108 ∷ 112 ∷ []

abbrev pub version_word : List ℕ
version_word = 45 ∷ 45 ∷ 118 ∷ 101 ∷ 114 ∷ 115 ∷ 105 ∷ 111 ∷ 110 ∷ []

-- No word but these two is known, and none asks for the program's work.
abbrev pub AskedBy : Asked → List ℕ → Type 0
AskedBy Work w = ⊥
AskedBy Help w = w ≡ help_word
AskedBy Version w = w ≡ version_word
AskedBy Unknown w = (w ≡ help_word → ⊥) × (w ≡ version_word → ⊥)
