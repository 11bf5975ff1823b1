-- `table::name_of` meets its contract: the name's bytes are copied into zeros.
-- Assumes nothing.
use mathlib.Core.Path.{◌≡◌, sym, ap}
use mathlib.Core.List.{List, ◌++◌}
use Prim.Native.Nat.{ℕ, ◌≤◌}
use native.Mathlib.Omega.{arith}
use lib.ListN.{length, drop, replicate}
use lib.Seq.{length-take-le}
use Rattle.names.specs.declared.NameList.{NameList}
use Rattle.names.specs.Names.{name_for}
use Rattle.names.specs.Row.{row_of}
use Rattle.std.proofs.lemmas.List.{drop-replicate}
use Rattle.names.proofs.Laws.{as_padded}
use Rattle.names.proofs.Codes.{name_length}
use Rattle.names.proofs.table.name_of.Goals as goal

-- the name has room
fits : (list : NameList) (code : ℕ) (text : List ℕ) → text ≡ name_for list code → length text ≤ 17
fits list code text e = omega (arith, ap length e, (name_length list code).0)

pub slice_bounds-bytes-end : goal.slice_bounds-bytes-end
slice_bounds-bytes-end c = fits _ _ _ c.bytes_for-text.ensures

pub slice_bounds-copy_from_slice-end : goal.slice_bounds-copy_from_slice-end
slice_bounds-copy_from_slice-end c = sym (length-take-le _ (replicate 17 0) (fits _ _ _ c.bytes_for-text.ensures))

pub copy_from_slice-requires : goal.copy_from_slice-requires
copy_from_slice-requires c = length-take-le _ (replicate 17 0) (fits _ _ _ c.bytes_for-text.ensures)

-- a text over the front of zeros
over_zeros : (name text copied : List ℕ) → text ≡ name → copied ≡ text → copied ++ drop (length text) (replicate 17 0) ≡ row_of name
over_zeros name text copied e f = rw (f, e, drop-replicate {X = ℕ} (length name) 17 0)

pub returns : goal.returns
returns c =
    as_padded (name_for c.args.list c.args.code) _ _
    (over_zeros _ _ _ c.bytes_for-text.ensures c.copy_from_slice.ensures.after)
    (ap length c.bytes_for-text.ensures)
