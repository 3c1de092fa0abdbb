-- A name as it is read: one law for each way out of its reading.
use Prim.Native.Nat.{ℕ, suc, ◌+◌, ◌≤◌, ◌<◌}
use native.Mathlib.Omega.{arith}
use Rattle.std.specs.Prelude.{Result, Ok, Err}
use mathlib.Core.List.{List}
use mathlib.Core.Path.{◌≡◌, sym, ◌∙◌}
use lib.ListN.{length, get_or, drop}
use borrow.Author.Tests.{le-leb, lt-leb}
use Rattle.model.specs.Limits.{max_name}
use Rattle.model.specs.Refusals.{ended, out_of_range}
use Rattle.format.specs.Reader.{Bytes, got, stopped, map_read, judged}
use Rattle.format.specs.ReaderLaws.{byte-there, byte-ended}
use Rattle.format.specs.Records.{read_name}
use Rattle.limits.specs.declared.refusal.Refusal.{Refusal}
use Rattle.record.specs.Answers.{passing_of, nothing}
use Rattle.record.proofs.ReadingLaws.{got-map, stopped-map}
use Rattle.machine.specs.Written.{write_name}
use Rattle.machine.specs.Sheet.{name_from}
use Rattle.machine.proofs.StepsTook.{took-named}
use Rattle.machine.proofs.StepsReads.{reads-named}
use Rattle.names.specs.Table.{NameReadIs}

module _ (s : List ℕ) (p at : ℕ) where
  -- ---- its length

  pub name_ended : length s ≤ at → name_from s p at ≡ stopped ended p
  unfolding name_from judged
  name_ended h = rw (byte-ended s p at h)

  module _ (more : at < length s) where
    pub name_empty : get_or s at 0 ≡ 0 → name_from s p at ≡ stopped out_of_range p
    unfolding name_from judged
    name_empty e = rw (byte-there s p at more, e)

    pub name_long : max_name < get_or s at 0 → name_from s p at ≡ stopped out_of_range p
    unfolding name_from judged
    name_long h = rw (byte-there s p at more, le-leb 1 (get_or s at 0) (omega arith), lt-leb (get_or s at 0) max_name h)

    name_rest : 1 ≤ get_or s at 0 → get_or s at 0 ≤ max_name → name_from s p at ≡ read_name s (get_or s at 0) p (at + 1)
    unfolding name_from judged
    name_rest h l =
        let one : suc at ≡ at + 1 = omega arith in
        rw (byte-there s p at more, le-leb 1 (get_or s at 0) h, le-leb (get_or s at 0) max_name l, one)

    -- ---- its bytes

    -- what was read stands there
    module _ (some : 1 ≤ get_or s at 0) (few : get_or s at 0 ≤ max_name) (small : Bytes s) where
      pub name_told : (r : Result ℕ Refusal) → passing_of r ≡ map_read nothing (read_name s (get_or s at 0) p (at + 1)) → NameReadIs r s at (name_from s p at)
      name_told (Ok n) read =
          got-map nothing (read_name s (get_or s at 0) p (at + 1)) (sym read) λ name e _.
          let whole : name_from s p at ≡ got name n = name_rest some few ∙ e in
          let (took, given) = took-named s small p at name n whole in
          let again : name_from s p at ≡ got name (at + length (write_name name)) = (reads-named s name p given).run at (drop n s) took.is in
          let end : n ≡ at + length (write_name name) = let x : got name n ≡ got name (at + length (write_name name)) = sym whole ∙ again in cc in
          (name, whole, record { given = given; stands = rw end at took }, end)
      name_told (Err e) read = name_rest some few ∙ stopped-map nothing (read_name s (get_or s at 0) p (at + 1)) (sym read)
