-- Laws of the headers' definitions: each outcome stated once, that what is answered lies inside the packet, and the loop that reads them.
-- Assumes nothing.
use mathlib.Core.Path.{◌≡◌, refl, sym, ap, subst}
use mathlib.Core.Bool.{Bool, true, false}
use mathlib.Core.List.{List, [], ◌∷◌}
use Prim.Native.Nat.{ℕ, zero, suc, ◌+◌, ◌-◌, ◌≤◌, ◌<◌}
use native.Mathlib.Nat.{zero-add}
use native.Mathlib.Omega.{arith}
use borrow.Author.Tests.{le-leb}
use lib.Dec.{leb, eqb}
use lib.ListN.{length, get_or}
use Rattle.wire.specs.Pick.{pick, all}
use Rattle.wire.specs.Refusal.{none, cut_short}
use Rattle.wire.specs.Bytes.{part, over}
use Rattle.wire.specs.Field.{integer_at, is_optional, string_at}
use Rattle.packet.specs.declared.Direction.{Direction}
use Rattle.wire.specs.declared.StringField.{StringField}
use Rattle.wire.specs.Read.{NumberRead, StringRead}
use Rattle.wire.specs.Facts.{NumberInside, StringInside}
use Rattle.wire.proofs.Field.{integer_inside, string_inside}
use Rattle.names.specs.Header.{begins_code, code_fault, spelled_fault}
use Rattle.std.specs.Prelude.{Option, None}
use Rattle.headers.specs.Read.{LengthRead, NameRead, HeaderRead, HeadersRead}
use Rattle.places.specs.Entries.{Entries, ended, front}
use Rattle.places.proofs.Filling.{Filling, filling_start, filling_turn, filling_stop, filling_end}
use Rattle.headers.specs.Headers.{code_name_of, spelled_at, spelled_of, name_at, declared_after, header_valued, header_value_of, header_value_at, header_of, header_at, header_then, headers_at}
use Rattle.headers.specs.Facts.{NameInside, HeaderInside, HeadersInside}

-- a name by its code, by the fault of the code and the test on it
pub code_is : (d : Direction) (number : NumberRead) (code next fault : ℕ) (t : Bool) → number ≡ NumberRead.Number code next
    → fault ≡ code_fault d code → eqb fault none ≡ t → pick t (NameRead.Code code next) (NameRead.Refused fault) ≡ code_name_of d number
unfolding code_name_of
code_is d number code next fault t p q r = rw (p, ← q, r)

-- a name that is spelled out, by its fault and the test on it
pub spelled_is : (d : Direction) (s : List ℕ) (start len next : ℕ) (text : List ℕ) (fault : ℕ) (t : Bool) → text ≡ part s start len
    → fault ≡ spelled_fault d text → eqb fault none ≡ t → pick t (NameRead.Spelled start len next) (NameRead.Refused fault) ≡ spelled_at d s start len next
unfolding spelled_at
spelled_is d s start len next text fault t p q r = rw (← p, ← q, r)

-- the name at a place, by its two tests and by what its string reads as; a proof that does not reach one says `refl`
pub name_is : (d : Direction) (s : List ℕ) (at : ℕ) (there code optional : Bool) (r : StringRead) → leb (at + 2) (length s) ≡ there
    → begins_code (get_or s at 0) ≡ code → optional ≡ is_optional StringField.HeaderName → string_at s at optional ≡ r
    → pick there (pick code (code_name_of d (integer_at s at)) (spelled_of d s r)) (NameRead.Refused cut_short) ≡ name_at d s at
unfolding name_at
name_is d s at there code optional r p q o e = rw (p, q, ← o, e)

-- a part of no bytes
pub part_none : (s : List ℕ) → part s 0 0 ≡ []
unfolding part
part_none s = refl

-- the value at a place, by what its string reads as
pub value_is : (s : List ℕ) (at : ℕ) (is_length : Bool) (before : Option ℕ) (optional : Bool) (r : StringRead)
    → optional ≡ is_optional StringField.HeaderValue → string_at s at optional ≡ r → header_value_of s at is_length before r ≡ header_value_at s at is_length before
unfolding header_value_at
value_is s at is_length before optional r o e = rw (← o, e)

-- the header at a place, by what its name reads as
pub header_is : (d : Direction) (s : List ℕ) (at : ℕ) (before : Option ℕ) (r : NameRead) → name_at d s at ≡ r
    → header_of d s before r ≡ header_at d s at before
unfolding header_at
header_is d s at before r e = ap (header_of d s before) (sym e)

-- a name by its code lies where the code does
code_inside : (n at : ℕ) (d : Direction) (r : NumberRead) → NumberInside n at 2 r → NameInside n at (code_name_of d r)
unfolding code_name_of
code_inside n at d (NumberRead.Refused k) h = tt
code_inside n at d (NumberRead.Number code next) h = go (eqb (code_fault d code) none)
  where
    go : (t : Bool) → NameInside n at (pick t (NameRead.Code code next) (NameRead.Refused (code_fault d code)))
    go true = h
    go false = tt

-- a name that is spelled out lies where its string does
spelled_inside : (n at : ℕ) (d : Direction) (s : List ℕ) (r : StringRead) → StringInside n at r → NameInside n at (spelled_of d s r)
unfolding spelled_at
spelled_inside n at d s (StringRead.Refused k) h = tt
spelled_inside n at d s (StringRead.Null next) h = tt
spelled_inside n at d s (StringRead.Text start len next) h = go (eqb (spelled_fault d (part s start len)) none)
  where
    go : (t : Bool) → NameInside n at (pick t (NameRead.Spelled start len next) (NameRead.Refused (spelled_fault d (part s start len))))
    go true = h
    go false = tt

-- a name at a place lies inside
pub name_inside : (d : Direction) (s : List ℕ) (at : ℕ) (r : NameRead) → name_at d s at ≡ r → NameInside (length s) at r
unfolding name_at
name_inside d s at r e = subst (NameInside (length s) at) e (go (leb (at + 2) (length s)) (begins_code (get_or s at 0)))
  where
    go : (t u : Bool)
        → NameInside (length s) at (pick t (pick u (code_name_of d (integer_at s at)) (spelled_of d s (string_at s at (is_optional StringField.HeaderName)))) (NameRead.Refused cut_short))
    go true true = code_inside (length s) at d (integer_at s at) (integer_inside s at (integer_at s at) refl)
    go true false = spelled_inside (length s) at d s (string_at s at (is_optional StringField.HeaderName)) (string_inside s at (is_optional StringField.HeaderName) (string_at s at (is_optional StringField.HeaderName)) refl)
    go false u = tt

-- a header lies inside whatever its value declares, where the value's ends do
valued_inside : (n at value next : ℕ) → at + 2 ≤ value → value + 2 ≤ next → next ≤ n → (r : LengthRead) → HeaderInside n at (header_valued value next r)
valued_inside n at value next h j k (LengthRead.Refused m) = tt
valued_inside n at value next h j k (LengthRead.Now declared) = (h, (j, k))

-- and where the value's string does
value_of_inside : (n at value : ℕ) (s : List ℕ) (is_length : Bool) (before : Option ℕ) → at + 2 ≤ value → (r : StringRead) → StringInside n value r
    → HeaderInside n at (header_value_of s value is_length before r)
value_of_inside n at value s is_length before h (StringRead.Refused k) i = tt
value_of_inside n at value s is_length before h (StringRead.Null next) i =
    valued_inside n at value next h (omega (arith, i.0)) i.1 (declared_after is_length before true [])
value_of_inside n at value s is_length before h (StringRead.Text start len next) i =
    valued_inside n at value next h (omega (arith, i.0, i.1.0)) i.1.1 (declared_after is_length before false (part s start len))

-- a value behind a name lies inside
value_inside : (s : List ℕ) (at value : ℕ) (is_length : Bool) (before : Option ℕ) → at + 2 ≤ value
    → HeaderInside (length s) at (header_value_at s value is_length before)
unfolding header_value_at
value_inside s at value is_length before h =
    value_of_inside (length s) at value s is_length before h (string_at s value true) (string_inside s value true (string_at s value true) refl)

-- a header lies inside where its name does
header_of_inside : (d : Direction) (s : List ℕ) (at : ℕ) (before : Option ℕ) (r : NameRead) → NameInside (length s) at r
    → HeaderInside (length s) at (header_of d s before r)
header_of_inside d s at before (NameRead.Refused k) i = tt
header_of_inside d s at before (NameRead.Code code next) i = value_inside s at next _ before (omega (arith, i.0))
header_of_inside d s at before (NameRead.Spelled start len next) i = value_inside s at next false before (omega (arith, i.0, i.1.0))

-- a header at a place lies inside
header_inside : (d : Direction) (s : List ℕ) (at : ℕ) (before : Option ℕ) (r : HeaderRead) → header_at d s at before ≡ r
    → HeaderInside (length s) at r
unfolding header_at
header_inside d s at before r e =
    subst (HeaderInside (length s) at) e (header_of_inside d s at before (name_at d s at) (name_inside d s at (name_at d s at) refl))

-- its value begins inside, and it ends there
pub header_bounds : (d : Direction) (s : List ℕ) (at : ℕ) (before declared : Option ℕ) (value next : ℕ)
    → header_at d s at before ≡ HeaderRead.Header value declared next → (at + 2 ≤ value) × ((value + 2 ≤ next) × (next ≤ length s))
header_bounds d s at before declared value next e = header_inside d s at before (HeaderRead.Header value declared next) e

-- headers that were read: at most two places each, every one with two bytes or more in the packet
record Read (n at count : ℕ) (h : Entries HeadersRead) : Type 0 where
  few : length h.places ≤ count + count
  within : all (λ (p : ℕ). leb (p + 2) n) h.places ≡ true
  inside : HeadersInside n at count h.places h.end

-- where later headers lie inside, they and one in front of them do
later_inside : (n at value next count : ℕ) (places : List ℕ) (r : HeadersRead) → at ≤ next → next ≤ n → HeadersInside n next count places r
    → HeadersInside n at (suc count) (at ∷ value ∷ places) r
later_inside n at value next count places (HeadersRead.Refused k) h j i = tt
later_inside n at value next count places (HeadersRead.Headers declared end) h j i =
    (omega (arith, i.0), (omega (arith, i.1.0), λ _. i.1.1 j))

-- what holds of later headers holds with one in front of them
read_more : (n at count : ℕ) (r : HeaderRead) (later : Option ℕ → ℕ → Entries HeadersRead) → HeaderInside n at r
    → ((after : Option ℕ) (next : ℕ) → Read n next count (later after next)) → Read n at (suc count) (header_then at r later)
unfolding all
read_more n at count (HeaderRead.Refused k) later i f = record {
  few = omega arith;
  within = refl;
  inside = tt;
}
read_more n at count (HeaderRead.Header value declared next) later i f =
    let R = f declared next in
    let p : leb (at + 2) n ≡ true = le-leb (at + 2) n (omega (arith, i)) in
    let q : leb (value + 2) n ≡ true = le-leb (value + 2) n (omega (arith, i)) in
    record {
      few = omega (arith, R.few);
      within = rw (p, q) R.within;
      inside = later_inside n at value next count (later declared next).places (later declared next).end (omega (arith, i)) i.1.1 R.inside;
    }

-- so it holds of any number of headers
read_all : (d : Direction) (s : List ℕ) (at count : ℕ) (declared : Option ℕ) → Read (length s) at count (headers_at d s at count declared)
unfolding headers_at all
read_all d s at zero declared = record {
  few = omega arith;
  within = refl;
  inside = (refl, (omega arith, λ h. h));
}
read_all d s at (suc count) declared =
    read_more (length s) at count (header_at d s at declared) (λ after next. headers_at d s next count after)
    (header_inside d s at declared (header_at d s at declared) refl) (λ after next. read_all d s next count after)

-- headers from a place on
module _ (d : Direction) (s : List ℕ) (at count : ℕ) (declared : Option ℕ) where
  -- there are at most two places each
  pub headers_few : length (headers_at d s at count declared).places ≤ count + count
  headers_few = (read_all d s at count declared).few

  -- every place has two bytes or more behind it in the packet
  pub headers_within : all (λ (p : ℕ). leb (p + 2) (length s)) (headers_at d s at count declared).places ≡ true
  headers_within = (read_all d s at count declared).within

  -- where none is refused, there are two places each, and they end inside the packet if they start there
  pub headers_inside : (r : HeadersRead) → (headers_at d s at count declared).end ≡ r
      → HeadersInside (length s) at count (headers_at d s at count declared).places r
  headers_inside r e =
      subst (HeadersInside (length s) at count (headers_at d s at count declared).places) e (read_all d s at count declared).inside

-- headers that are left
module _ (d : Direction) (s : List ℕ) (at count i : ℕ) (declared : Option ℕ) (more : i < count) where
  -- the next one is refused
  headers_refused : (n : ℕ) → header_at d s at declared ≡ HeaderRead.Refused n → headers_at d s at (count - i) declared ≡ ended (HeadersRead.Refused n)
  unfolding headers_at
  headers_refused n e = let q : count - i ≡ suc (count - (i + 1)) = omega arith in rw (q, e)

  -- the next one is read
  headers_more : (value : ℕ) (after : Option ℕ) (next : ℕ) → header_at d s at declared ≡ HeaderRead.Header value after next
      → headers_at d s at (count - i) declared ≡ front at value (headers_at d s next (count - (i + 1)) after)
  unfolding headers_at
  headers_more value after next e = let q : count - i ≡ suc (count - (i + 1)) = omega arith in rw (q, e)

-- none is left
headers_none : (d : Direction) (s : List ℕ) (at count i : ℕ) (declared : Option ℕ) → count ≤ i
    → headers_at d s at (count - i) declared ≡ ended (HeadersRead.Headers declared at)
unfolding headers_at
headers_none d s at count i declared h = let q : count - i ≡ 0 = omega arith in rw q

-- The loop after i headers: the table has their places, and those that are left are read from a place on.
pub record Reading (d : Direction) (s : List ℕ) (at count : ℕ) (entry table : List ℕ) (declared : Option ℕ) (place i : ℕ) : Type 0 where
  pub below : i ≤ count
  pub filling : Filling (headers_at d s at count None) (headers_at d s place (count - i) declared) entry table 0 i

-- before the first header
pub reading_start : (d : Direction) (s : List ℕ) (at count : ℕ) (entry : List ℕ) → Reading d s at count entry entry None at 0
reading_start d s at count entry =
    let q : count - 0 ≡ count = omega arith in
    record {
      below = omega arith;
      filling = rw q (filling_start (headers_at d s at count None) entry 0);
    }

-- what the loop answers: the end of the headers, and the table with their places
abbrev pub Answer : Direction → List ℕ → ℕ → ℕ → List ℕ → List ℕ → HeadersRead → Type 0
Answer d s at count entry table r =
    (r ≡ (headers_at d s at count None).end) × (table ≡ over entry 0 (headers_at d s at count None).places)

module _ (d : Direction) (s : List ℕ) (at count : ℕ) (entry table : List ℕ) (declared : Option ℕ) (place i : ℕ)
    (R : Reading d s at count entry table declared place i) where
  -- all headers, and those that are left
  abbrev whole : Entries HeadersRead
  whole = headers_at d s at count None

  abbrev later : Entries HeadersRead
  later = headers_at d s place (count - i) declared

  -- nothing comes behind what was read
  ends : (r : HeadersRead) → later ≡ ended r → Answer d s at count entry table r
  ends r e = (sym (filling_end whole entry 0 later table i R.filling r e), filling_stop whole entry 0 later table i R.filling r e)

  -- the next header is refused
  pub reading_stop : (n : ℕ) → i < count → header_at d s place declared ≡ HeaderRead.Refused n
      → Answer d s at count entry table (HeadersRead.Refused n)
  reading_stop n h e = ends (HeadersRead.Refused n) (headers_refused d s place count i declared h n e)

  -- all are read
  pub reading_done : count ≤ i → Answer d s at count entry table (HeadersRead.Headers declared place)
  reading_done h = ends (HeadersRead.Headers declared place) (headers_none d s place count i declared h)

  -- the next header is read, and its two places are put into the table
  pub reading_turn : (value : ℕ) (after : Option ℕ) (next : ℕ) → i < count → count + count ≤ length entry
      → header_at d s place declared ≡ HeaderRead.Header value after next
      → Reading d s at count entry (over table (i + i) (place ∷ value ∷ [])) after next (i + 1)
  reading_turn value after next h k e =
      let room : 0 + (i + i) + 2 ≤ length entry = omega arith in
      record {
        below = omega arith;
        filling = rw (zero-add (i + i)) at
            (filling_turn whole entry 0 later table i R.filling place value (headers_at d s next (count - (i + 1)) after)
            (headers_more d s place count i declared h value after next e) room);
      }
