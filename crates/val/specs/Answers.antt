-- What is handed in, and what the answers of this crate say, in the terms of the definitions: for each case of each, the paper's number
-- and values.
use Rattle.std.specs.Prelude.{ℕ, List, Float, Result, Ok, Err, Some, None}
use Rattle.std.specs.Prelude as code
use Rattle.std.proofs.Math.Option.{Option, none, some}
use Rattle.model.specs.Types.{Dim, Ty}
use Rattle.format.specs.Records.{dim_of}
use Rattle.format.specs.Outcome.{Outcome, accepted, refused, mapped, lone, delivery}
use Rattle.record.specs.Answers.{dims_of}
use Rattle.rules.specs.Types.{into_row, into_first_row, into_last_row}
use Rattle.val.specs.declared.Value as declared
use Rattle.val.specs.declared.Value.TheVariants.{Num, List as Listed, Of}
use Rattle.limits.specs.Answers.{number_of, told}
use Rattle.limits.specs.declared.refusal.Refusal.{Refusal}
use Rattle.record.specs.declared.Dims.{Dims}
use Rattle.val.specs.declared.Row as declared_row
use Rattle.val.specs.declared.Row.TheVariants.{Number, Wrote}
use Rattle.val.specs.declared.RowKind.{RowKind}
use Rattle.val.specs.declared.RowKind.TheVariants.{Every, First, Last}
use Rattle.val.specs.Values.{Value, number, numbers, typed, Row, list_row, list_first, list_last, value_row_by, RowDelivery, handed, written}

-- A value by its case, with the list and the bytes that are lent beside it. A type's bytes are read first, and bytes that are no type
-- get their refusal.
abbrev pub value_of : declared.Value → List Float → List ℕ → Outcome Value
value_of (Num x) list bytes = accepted (number x)
value_of Listed list bytes = accepted (numbers list)
value_of Of list bytes = mapped typed (lone bytes)

-- all ones is ?
abbrev pub dim_for : code.Option ℕ → Option Dim
dim_for None = none
dim_for (Some n) = some (dim_of n)

abbrev pub maybe_dim : Result (code.Option ℕ) Refusal → Outcome (Option Dim)
maybe_dim r = mapped dim_for (told r)

abbrev pub dims_for : code.Option Dims → Option (List Dim)
dims_for None = none
dims_for (Some d) = some (dims_of d)

abbrev pub maybe_dims : Result (code.Option Dims) Refusal → Outcome (Option (List Dim))
maybe_dims r = mapped dims_for (told r)

-- the row of a list, of a type and of a value, by which of the three rows it is
abbrev pub list_row_for : RowKind → List Float → Row
list_row_for Every = list_row
list_row_for First = list_first
list_row_for Last = list_last

abbrev pub type_row_for : RowKind → Ty → Ty
type_row_for Every = into_row
type_row_for First = into_first_row
type_row_for Last = into_last_row

abbrev pub value_row_for : RowKind → Value → Row
value_row_for which = value_row_by (list_row_for which) (type_row_for which)

-- what a row's answer and the result buffer say together
abbrev pub row_delivered : Result declared_row.Row Refusal → List ℕ → RowDelivery
row_delivered (Ok (Number x)) buffer = handed x buffer
row_delivered (Ok (Wrote n)) buffer = written (delivery (accepted n) buffer)
row_delivered (Err r) buffer = written (delivery (refused (number_of r.0) r.1) buffer)
