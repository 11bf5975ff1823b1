-- Fields written one behind the other: each fits where the row of them does, and all together are the row's bytes laid over the buffer.
-- Assumes nothing.
use native.Mathlib.Omega.{arith}
use native.Mathlib.Nat.{add-zero}
use mathlib.Core.Path.{◌≡◌, refl, sym, ap, ◌∙◌}
use mathlib.Core.List.{List, [], ◌++◌}
use Prim.Native.Nat.{ℕ, ◌+◌, ◌≤◌}
use lib.ListN.{length, length-append}
use Rattle.wire.specs.Bytes.{over}
use Rattle.wire.specs.Packet.{max_packet, Fits}
use Rattle.wire.proofs.Bytes.{length_over, over_none, over_over}

-- bytes and more bytes behind them, where both fit
module _ (l : List ℕ) (at : ℕ) (a b : List ℕ) (h : Fits at (a ++ b) l) where
  -- the first of them fit
  pub fits_first : Fits at a l
  fits_first =
      let n : length (a ++ b) ≡ length a + length b = length-append a b in
      let p : at + length (a ++ b) ≤ length l = h.0 in
      let q : at + length (a ++ b) ≤ max_packet = h.1 in
      (omega arith, omega arith)

  -- where the first are written, the later ones fit behind them
  pub fits_later : (x : List ℕ) (next : ℕ) → x ≡ over l at a → next ≡ at + length a → Fits next b x
  fits_later x next e f =
      let n : length (a ++ b) ≡ length a + length b = length-append a b in
      let p : at + length (a ++ b) ≤ length l = h.0 in
      let q : at + length (a ++ b) ≤ max_packet = h.1 in
      let k : length x ≡ length l = ap length e ∙ length_over l at a (omega arith) in
      (omega arith, omega arith)

  -- where the later ones are written too, all of them are
  pub joined : (x y : List ℕ) (next : ℕ) → x ≡ over l at a → next ≡ at + length a → y ≡ over x next b → y ≡ over l at (a ++ b)
  joined x y next e f g =
      let n : length (a ++ b) ≡ length a + length b = length-append a b in
      let p : at + length (a ++ b) ≤ length l = h.0 in
      g ∙ ap (λ (z : List ℕ). over z next b) e ∙ over_over l at next a b f (omega arith)

-- a row of fields of which some are written: the buffer now, the place behind them, the bytes that are still to come
pub record Row (l : List ℕ) (at : ℕ) (all : List ℕ) (x : List ℕ) (next : ℕ) (rest : List ℕ) : Type 0 where
  pub fits : Fits next rest x
  pub whole : (y : List ℕ) → y ≡ over x next rest → y ≡ over l at all
  pub reach : next + length rest ≡ at + length all

-- none is written yet
pub row_start : (l : List ℕ) (at : ℕ) (all : List ℕ) → Fits at all l → Row l at all l at all
row_start l at all h = record { fits = h; whole = λ y e. e; reach = refl }

module _ (l : List ℕ) (at : ℕ) (all x : List ℕ) (next : ℕ) (b rest : List ℕ) (row : Row l at all x next (b ++ rest)) where
  -- the next one fits
  pub row_fits : Fits next b x
  row_fits = fits_first x next b rest row.fits

  -- one more is written
  pub row_next : (y : List ℕ) (after : ℕ) → y ≡ over x next b → after ≡ next + length b → Row l at all y after rest
  row_next y after e f = record {
    fits = fits_later x next b rest row.fits y after e f;
    whole = λ z g. row.whole z (joined x next b rest row.fits y z after e f g);
    reach = omega (arith, row.reach, length-append b rest, f);
  }

-- all are written
module _ (l : List ℕ) (at : ℕ) (all x : List ℕ) (next : ℕ) (row : Row l at all x next []) where
  pub row_done : x ≡ over l at all
  row_done = row.whole x (sym (over_none x next))

  pub row_end : next ≡ at + length all
  row_end = sym (add-zero next) ∙ row.reach
