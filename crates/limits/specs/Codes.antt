-- The codes of kinds and of a box's forms.
use Rattle.std.specs.Prelude.{ℕ, ◌<◌, ◌≡◌, Result, MatchResult}
use Rattle.limits.specs.declared.codes.Kind.{Kind}
use Rattle.limits.specs.declared.codes.Kind.TheVariants as kinds
use Rattle.limits.specs.declared.codes.Form.{Form}
use Rattle.limits.specs.declared.codes.Form.TheVariants as forms
use Rattle.limits.specs.declared.refusal.Reason.{Reason}
use Rattle.limits.specs.declared.refusal.Reason.TheVariants.{OutOfRange}

abbrev pub code_for : Kind → ℕ
code_for kinds.Bool = 0
code_for kinds.Nat = 1
code_for kinds.Int = 2
code_for kinds.Num = 3
code_for kinds.Complex = 4
code_for kinds.Ascii = 5
code_for kinds.Char = 6
code_for kinds.Stream = 7
code_for kinds.Box = 8
code_for kinds.Any = 9

abbrev pub form_code : Form → ℕ
form_code forms.Any = 0
form_code forms.All = 1
form_code forms.Def = 2

-- The kind of a byte, or that it is out of range.
abbrev pub KindOf : ℕ → Result Kind Reason → Type 0
KindOf code r = MatchResult r (λ k. code_for k ≡ code) (λ e. (e ≡ OutOfRange) × (code_for kinds.Any < code))

abbrev pub FormOf : ℕ → Result Form Reason → Type 0
FormOf code r = MatchResult r (λ f. form_code f ≡ code) (λ e. (e ≡ OutOfRange) × (form_code forms.Def < code))
