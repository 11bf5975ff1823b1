-- The outcomes of the definitions of `Lists`, `Forward` and `SendHeaders`, each with the table that it leaves: a pair of what is answered and what the table holds.
-- Assumes nothing.
use mathlib.Core.Path.{◌≡◌, sym, ap, subst, ◌∙◌}
use mathlib.Core.List.{List, ◌++◌}
use Prim.Native.Nat.{ℕ, ◌+◌, ◌≤◌}
use native.Mathlib.Omega.{arith}
use lib.ListN.{length}
use Rattle.wire.specs.Bytes.{over}
use Rattle.packet.specs.declared.Direction.{Direction}
use Rattle.wire.proofs.Bytes.{over_over}
use Rattle.std.specs.Prelude.{Option}
use Rattle.headers.specs.Read.{HeadersRead}
use Rattle.payload.specs.Read.{FieldRead, ListsRead}
use Rattle.payload.specs.Sequence.{field_number}
use Rattle.payload.specs.Lists.{headers_after, attributes_behind, behind_headers, lists_at}
use Rattle.payload.proofs.Below.{headers_many}

-- the places of headers that are read: two for each of `count`
abbrev pub HeadersPlaces : ℕ → ℕ → HeadersRead → Type 0
HeadersPlaces count many (HeadersRead.Refused n) = Unit
HeadersPlaces count many (HeadersRead.Headers declared next) = many ≡ count + count

-- the headers behind a count, where they are read, have two places each
pub headers_places : (direction : Direction) (s : List ℕ) (count : FieldRead) (r : HeadersRead) → (headers_after direction s count).end ≡ r
    → HeadersPlaces (field_number count) (length (headers_after direction s count).places) r
unfolding headers_after
headers_places direction s (FieldRead.Refused n) r e = subst (HeadersPlaces 0 0) e tt
headers_places direction s (FieldRead.Field at value next) (HeadersRead.Refused n) e = tt
headers_places direction s (FieldRead.Field at value next) (HeadersRead.Headers declared end) e = headers_many direction s next value declared end e

-- a Forward's headers and attributes
module _ (s : List ℕ) (count : FieldRead) (entry middle : List ℕ)
    (holds : middle ≡ over entry 0 (headers_after Direction.ToContainer s count).places) where
  -- the headers are read, and the attributes follow: their places stand behind those of the headers, two for each header
  pub lists_read : (declared : Option ℕ) (next many : ℕ) (r : ListsRead) (exit : List ℕ)
      → HeadersRead.Headers declared next ≡ (headers_after Direction.ToContainer s count).end
      → many ≡ field_number count → many + many ≤ length entry
      → r ≡ (attributes_behind s declared next).end → exit ≡ over middle (many + many) (attributes_behind s declared next).places
      → (r ≡ (lists_at s count).end) × (exit ≡ over entry 0 (lists_at s count).places)
  unfolding lists_at
  lists_read declared next many r exit e m fits a b =
      let p = (headers_after Direction.ToContainer s count).places in
      let q = (attributes_behind s declared next).places in
      let l : length p ≡ many + many = rw m (headers_places Direction.ToContainer s count (HeadersRead.Headers declared next) (sym e)) in
      let w : exit ≡ over entry 0 (p ++ q) =
      b ∙ ap (λ (t : List ℕ). over t (many + many) q) holds ∙ over_over entry 0 (many + many) p q (omega arith) (omega arith) in (
        a ∙ ap (λ (h : HeadersRead). (behind_headers s h).end) e,
        w ∙ ap (λ (h : HeadersRead). over entry 0 (p ++ (behind_headers s h).places)) e,
      )
