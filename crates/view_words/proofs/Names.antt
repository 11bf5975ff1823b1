-- A listed name as it is told.
-- Assumes nothing.
use native.Mathlib.Omega.{arith}
use mathlib.Core.Path.{◌≡◌}
use Prim.Native.Nat.{ℕ}
use lib.ListN.{length, length-append, length-replicate}
use Rattle.names.specs.Names.{name_for}
use Rattle.names.specs.Row.{name_room, row_of}
use Rattle.names.specs.declared.NameList.{NameList}
use Rattle.names.proofs.Codes.{name_length}

-- a name with zeros behind it has seventeen bytes
pub row_length : (list : NameList) (code : ℕ) → length (row_of (name_for list code)) ≡ name_room
row_length list code = rw (length-append, length-replicate) (omega (arith, (name_length list code).0))
