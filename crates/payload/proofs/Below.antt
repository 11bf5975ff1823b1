-- What this crate takes from the laws of the headers and of the attributes: how many places they have, and how many attributes there are.
-- Assumes nothing.
use mathlib.Core.Path.{◌≡◌, subst}
use mathlib.Core.List.{List, []}
use Prim.Native.Nat.{ℕ, ◌+◌, ◌≤◌}
use native.Mathlib.Omega.{arith}
use lib.ListN.{length}
use Rattle.packet.specs.declared.Direction.{Direction}
use Rattle.std.specs.Prelude.{Option, None}
use Rattle.places.specs.Entries.{max_attributes}
use Rattle.headers.specs.Headers.{headers_at}
use Rattle.headers.specs.Read.{HeadersRead}
use Rattle.headers.proofs.Laws.{headers_inside}
use Rattle.attributes.specs.Attributes.{attributes_at, AttributesRead}
use Rattle.attributes.proofs.Laws.{attributes_inside}
use Rattle.attributes.specs.Facts.{AttributesEnd}

-- headers that are all read have two places each
pub headers_many : (d : Direction) (s : List ℕ) (at count : ℕ) (declared : Option ℕ) (next : ℕ)
    → (headers_at d s at count None).end ≡ HeadersRead.Headers declared next
    → length (headers_at d s at count None).places ≡ count + count
headers_many d s at count declared next e = (headers_inside d s at count None (HeadersRead.Headers declared next) e).0

-- how attributes that are all read end
attributes_end : (s : List ℕ) (at count next : ℕ) → (attributes_at s at max_attributes []).end ≡ AttributesRead.Attributes count next
    → AttributesEnd (length s) at max_attributes 0 (length (attributes_at s at max_attributes []).places) (AttributesRead.Attributes count next)
attributes_end s at count next e =
    subst (AttributesEnd (length s) at max_attributes 0 (length (attributes_at s at max_attributes []).places)) e
    (attributes_inside s at max_attributes []).ends

-- attributes that are all read have two places each
pub attributes_many : (s : List ℕ) (at count next : ℕ) → (attributes_at s at max_attributes []).end ≡ AttributesRead.Attributes count next
    → length (attributes_at s at max_attributes []).places ≡ count + count
attributes_many s at count next e = omega (arith, (attributes_end s at count next e).0)

-- and they are no more than may come
pub attributes_few : (s : List ℕ) (at count next : ℕ) → (attributes_at s at max_attributes []).end ≡ AttributesRead.Attributes count next → count ≤ max_attributes
attributes_few s at count next e = omega (arith, (attributes_end s at count next e).1.1.1)
