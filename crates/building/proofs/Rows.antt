-- The bytes of fields one behind the other, and a packet's code as one byte.
-- Assumes nothing.
use native.Mathlib.Omega.{arith}
use mathlib.Core.Path.{◌≡◌, refl, sym, ap, ◌∙◌}
use mathlib.Core.List.{List, [], ◌∷◌, ◌++◌, append_assoc}
use Prim.Native.Nat.{ℕ, ◌≤◌}
use Rattle.connection.specs.declared.Kind.{Kind}
use Rattle.payload.specs.Code.{code_of}
use Rattle.building.specs.Field.{Field, fields_bytes}

-- the bytes of fields and of others behind them
pub bytes_append : (these those : List Field) → fields_bytes (these ++ those) ≡ fields_bytes these ++ fields_bytes those
bytes_append [] those = refl
bytes_append (field ∷ later) those =
    ap (λ (l : List ℕ). field.bytes ++ l) (bytes_append later those) ∙ sym (append_assoc field.bytes (fields_bytes later) (fields_bytes those))

-- a code is one byte
pub code_small : (kind : Kind) → code_of kind ≤ 10
code_small Kind.CPing = omega arith
code_small Kind.CPong = omega arith
code_small Kind.Forward = omega arith
code_small Kind.Body = omega arith
code_small Kind.GetBody = omega arith
code_small Kind.SendHeaders = omega arith
code_small Kind.BodyChunk = omega arith
code_small Kind.End = omega arith
