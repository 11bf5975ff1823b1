-- What reading headers refuses with is a number of document 01.
-- Assumes nothing.
use mathlib.Core.Path.{◌≡◌, refl, subst}
use mathlib.Core.Bool.{Bool, true, false}
use mathlib.Core.List.{List, []}
use Prim.Native.Nat.{ℕ, zero, suc, ◌+◌}
use lib.Dec.{leb, eqb}
use lib.ListN.{length, get_or}
use Rattle.wire.specs.Pick.{pick}
use Rattle.wire.specs.Refusal.{none, cut_short, is_refusal, is_fault}
use Rattle.wire.specs.Bytes.{part}
use Rattle.wire.specs.Field.{integer_at, string_at, is_optional}
use Rattle.wire.specs.declared.StringField.{StringField}
use Rattle.wire.specs.Read.{NumberRead, StringRead}
use Rattle.wire.proofs.Refusals.{fault_refusal, NumberRefusal, integer_refusal, StringRefusal, string_refusal}
use Rattle.packet.specs.declared.Direction.{Direction}
use Rattle.names.specs.Header.{begins_code, code_fault, spelled_fault}
use Rattle.std.specs.Prelude.{Option}
use Rattle.headers.specs.Read.{LengthRead, NameRead, HeaderRead, HeadersRead}
use Rattle.names.proofs.Refusals.{code_fault_lem, spelled_fault_lem}
use Rattle.headers.proofs.ContentLength.{LengthRefusal, length_refusal}
use Rattle.places.specs.Entries.{Entries}
use Rattle.headers.specs.Headers.{name_unless, code_name_of, spelled_at, spelled_of, name_at, declares, declared_after, header_valued, header_value_of, header_value_at, header_of, header_at, header_then, headers_at}

-- a name, where it is refused
abbrev pub NameRefusal : NameRead → Type 0
NameRefusal (NameRead.Refused n) = is_refusal n ≡ true
NameRefusal (NameRead.Code code next) = Unit
NameRefusal (NameRead.Spelled start len next) = Unit

-- a name that is refused only with its fault
unless_refusal : (fault : ℕ) (name : NameRead) → is_fault fault ≡ true → NameRefusal name → NameRefusal (name_unless fault name)
unless_refusal fault name h k = go (eqb fault none) refl
  where
    go : (t : Bool) → eqb fault none ≡ t → NameRefusal (pick t name (NameRead.Refused fault))
    go true e = k
    go false e = fault_refusal fault h e

code_refusal : (d : Direction) (r : NumberRead) → NumberRefusal r → NameRefusal (code_name_of d r)
unfolding code_name_of
code_refusal d (NumberRead.Refused n) h = h
code_refusal d (NumberRead.Number code next) h = unless_refusal (code_fault d code) (NameRead.Code code next) (code_fault_lem d code) tt

spelled_refusal : (d : Direction) (s : List ℕ) (r : StringRead) → StringRefusal r → NameRefusal (spelled_of d s r)
unfolding spelled_at
spelled_refusal d s (StringRead.Refused n) h = h
spelled_refusal d s (StringRead.Null next) h = refl
spelled_refusal d s (StringRead.Text start len next) h =
    unless_refusal (spelled_fault d (part s start len)) (NameRead.Spelled start len next) (spelled_fault_lem d (part s start len)) tt

spelled_at_refusal : (d : Direction) (s : List ℕ) (at : ℕ) → NameRefusal (spelled_of d s (string_at s at (is_optional StringField.HeaderName)))
spelled_at_refusal d s at =
    let optional = is_optional StringField.HeaderName in
    spelled_refusal d s (string_at s at optional) (string_refusal s at optional (string_at s at optional) refl)

-- the name at a place
pub name_refusal : (d : Direction) (s : List ℕ) (at : ℕ) (r : NameRead) → name_at d s at ≡ r → NameRefusal r
unfolding name_at
name_refusal d s at r e = subst NameRefusal e (go (leb (at + 2) (length s)) (begins_code (get_or s at 0)))
  where
    go : (t u : Bool)
        → NameRefusal
        (pick t (pick u (code_name_of d (integer_at s at)) (spelled_of d s (string_at s at (is_optional StringField.HeaderName)))) (NameRead.Refused cut_short))
    go true true = code_refusal d (integer_at s at) (integer_refusal s at (integer_at s at) refl)
    go true false = spelled_at_refusal d s at
    go false u = refl

-- a header, where it is refused
abbrev pub HeaderRefusal : HeaderRead → Type 0
HeaderRefusal (HeaderRead.Refused n) = is_refusal n ≡ true
HeaderRefusal (HeaderRead.Header value declared next) = Unit

valued_refusal : (at next : ℕ) (r : LengthRead) → LengthRefusal r → HeaderRefusal (header_valued at next r)
valued_refusal at next (LengthRead.Refused n) h = h
valued_refusal at next (LengthRead.Now declared) h = tt

declared_refusal : (is_length : Bool) (before : Option ℕ) (null : Bool) (text : List ℕ) → LengthRefusal (declared_after is_length before null text)
unfolding declared_after
declared_refusal true before null text = length_refusal before null text
declared_refusal false before null text = tt

value_of_refusal : (s : List ℕ) (at : ℕ) (is_length : Bool) (before : Option ℕ) (r : StringRead) → StringRefusal r
    → HeaderRefusal (header_value_of s at is_length before r)
value_of_refusal s at is_length before (StringRead.Refused n) h = h
value_of_refusal s at is_length before (StringRead.Null next) h =
    valued_refusal at next (declared_after is_length before true []) (declared_refusal is_length before true [])
value_of_refusal s at is_length before (StringRead.Text start len next) h =
    valued_refusal at next (declared_after is_length before false (part s start len)) (declared_refusal is_length before false (part s start len))

value_refusal : (s : List ℕ) (at : ℕ) (is_length : Bool) (before : Option ℕ) → HeaderRefusal (header_value_at s at is_length before)
unfolding header_value_at
value_refusal s at is_length before =
    let r = string_at s at (is_optional StringField.HeaderValue) in
    value_of_refusal s at is_length before r (string_refusal s at (is_optional StringField.HeaderValue) r refl)

header_of_refusal : (d : Direction) (s : List ℕ) (before : Option ℕ) (r : NameRead) → NameRefusal r → HeaderRefusal (header_of d s before r)
header_of_refusal d s before (NameRead.Refused n) h = h
header_of_refusal d s before (NameRead.Code code next) h = value_refusal s next (declares d code) before
header_of_refusal d s before (NameRead.Spelled start len next) h = value_refusal s next false before

-- the header at a place
pub header_refusal : (d : Direction) (s : List ℕ) (at : ℕ) (before : Option ℕ) (r : HeaderRead) → header_at d s at before ≡ r → HeaderRefusal r
unfolding header_at
header_refusal d s at before r e =
    subst HeaderRefusal e (header_of_refusal d s before (name_at d s at) (name_refusal d s at (name_at d s at) refl))

-- headers, where one is refused
abbrev pub HeadersRefusal : HeadersRead → Type 0
HeadersRefusal (HeadersRead.Refused n) = is_refusal n ≡ true
HeadersRefusal (HeadersRead.Headers declared next) = Unit

then_refusal : (at : ℕ) (r : HeaderRead) (later : Option ℕ → ℕ → Entries HeadersRead) → HeaderRefusal r
    → ((declared : Option ℕ) (next : ℕ) → HeadersRefusal (later declared next).end) → HeadersRefusal (header_then at r later).end
then_refusal at (HeaderRead.Refused n) later h f = h
then_refusal at (HeaderRead.Header value declared next) later h f = f declared next

-- so many headers from a place on
pub headers_refusal : (d : Direction) (s : List ℕ) (at count : ℕ) (declared : Option ℕ) → HeadersRefusal (headers_at d s at count declared).end
unfolding headers_at
headers_refusal d s at zero declared = tt
headers_refusal d s at (suc count) declared =
    then_refusal at (header_at d s at declared) (λ after next. headers_at d s next count after)
    (header_refusal d s at declared (header_at d s at declared) refl) (λ after next. headers_refusal d s next count after)
