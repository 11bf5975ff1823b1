-- What reading attributes refuses with is a number of document 01.
-- Assumes nothing.
use mathlib.Core.Path.{◌≡◌, refl, subst}
use mathlib.Core.Bool.{Bool, true, false}
use mathlib.Core.List.{List, ◌∷◌}
use Prim.Native.Nat.{ℕ, zero, suc, ◌+◌}
use lib.Dec.{leb, eqb}
use lib.ListN.{length, get_or}
use Rattle.wire.specs.Pick.{pick, one_of}
use Rattle.wire.specs.Refusal.{none, cut_short, too_many, is_refusal}
use Rattle.wire.specs.Field.{integer_at, string_at, is_optional}
use Rattle.wire.specs.declared.StringField.{StringField}
use Rattle.wire.specs.Read.{NumberRead, StringRead}
use Rattle.wire.proofs.Refusals.{fault_refusal, NumberRefusal, integer_refusal, StringRefusal, string_refusal}
use Rattle.names.specs.Attribute.{attribute_kind, attribute_fault}
use Rattle.names.proofs.Refusals.{attribute_fault_lem}
use Rattle.packet.specs.declared.AttributeKind.{AttributeKind}
use Rattle.places.specs.Entries.{Entries, ended}
use Rattle.attributes.specs.Attributes.{ValueRead, AttributeRead, AttributesRead, last_mark, text_value_of, text_value_at, integer_value_of, integer_value_at, pair_value_of, pair_value_at, attribute_value_at, with_value, coded_at, attribute_at, attribute_then, attributes_at}

-- a value, where it is refused
abbrev ValueRefusal : ValueRead → Type 0
ValueRefusal (ValueRead.Refused n) = is_refusal n ≡ true
ValueRefusal (ValueRead.Value at next) = Unit

text_refusal : (s : List ℕ) (at : ℕ) → ValueRefusal (text_value_at s at)
unfolding text_value_at
text_refusal s at = go (string_at s at (is_optional StringField.AttributeValue)) (string_refusal s at (is_optional StringField.AttributeValue) _ refl)
  where
    go : (r : StringRead) → StringRefusal r → ValueRefusal (text_value_of at r)
    go (StringRead.Refused n) h = h
    go (StringRead.Null next) h = tt
    go (StringRead.Text start len next) h = tt

number_refusal : (s : List ℕ) (at : ℕ) → ValueRefusal (integer_value_at s at)
unfolding integer_value_at
number_refusal s at = go (integer_at s at) (integer_refusal s at _ refl)
  where
    go : (r : NumberRead) → NumberRefusal r → ValueRefusal (integer_value_of at r)
    go (NumberRead.Refused n) h = h
    go (NumberRead.Number value next) h = tt

pair_refusal : (s : List ℕ) (at : ℕ) → ValueRefusal (pair_value_at s at)
unfolding pair_value_at
pair_refusal s at = go (string_at s at (is_optional StringField.AttributeName)) (string_refusal s at (is_optional StringField.AttributeName) _ refl)
  where
    go : (r : StringRead) → StringRefusal r → ValueRefusal (pair_value_of s r)
    go (StringRead.Refused n) h = h
    go (StringRead.Null next) h = refl
    go (StringRead.Text start len next) h = text_refusal s next

value_refusal : (s : List ℕ) (at : ℕ) (kind : AttributeKind) → ValueRefusal (attribute_value_at s at kind)
value_refusal s at AttributeKind.NotServed = refl
value_refusal s at AttributeKind.Text = text_refusal s at
value_refusal s at AttributeKind.Integer = number_refusal s at
value_refusal s at AttributeKind.Pair = pair_refusal s at

-- an attribute, where it is refused
abbrev pub AttributeRefusal : AttributeRead → Type 0
AttributeRefusal (AttributeRead.Refused n) = is_refusal n ≡ true
AttributeRefusal (AttributeRead.Last next) = Unit
AttributeRefusal (AttributeRead.Attribute code value next) = Unit

with_refusal : (code : ℕ) (r : ValueRead) → ValueRefusal r → AttributeRefusal (with_value code r)
with_refusal code (ValueRead.Refused n) h = h
with_refusal code (ValueRead.Value at next) h = tt

coded_refusal : (s : List ℕ) (at code : ℕ) (again : Bool) → AttributeRefusal (coded_at s at code again)
unfolding coded_at
coded_refusal s at code again = go (eqb (attribute_fault code again) none) refl
  where
    go : (t : Bool) → eqb (attribute_fault code again) none ≡ t
        → AttributeRefusal (pick t (with_value code (attribute_value_at s at (attribute_kind code))) (AttributeRead.Refused (attribute_fault code again)))
    go true e = with_refusal code (attribute_value_at s at (attribute_kind code)) (value_refusal s at (attribute_kind code))
    go false e = fault_refusal (attribute_fault code again) (attribute_fault_lem code again) e

-- the attribute at a place
pub attribute_refusal : (s : List ℕ) (at : ℕ) (full : Bool) (seen : ℕ → Bool) (r : AttributeRead) → attribute_at s at full seen ≡ r
    → AttributeRefusal r
unfolding attribute_at
attribute_refusal s at full seen r e = subst AttributeRefusal e (go (leb (at + 1) (length s)) (eqb (get_or s at 0) last_mark) full)
  where
    go : (t u v : Bool)
        → AttributeRefusal
        (pick t
        (pick u (AttributeRead.Last (at + 1))
        (pick v (AttributeRead.Refused too_many) (coded_at s (at + 1) (get_or s at 0) (seen (get_or s at 0)))))
        (AttributeRead.Refused cut_short))
    go false u v = refl
    go true true v = tt
    go true false true = refl
    go true false false = coded_refusal s (at + 1) (get_or s at 0) (seen (get_or s at 0))

-- attributes, where one is refused
abbrev pub AttributesRefusal : AttributesRead → Type 0
AttributesRefusal (AttributesRead.Refused n) = is_refusal n ≡ true
AttributesRefusal (AttributesRead.Attributes count next) = Unit

then_refusal : (at count : ℕ) (r : AttributeRead) (later : ℕ → ℕ → Entries AttributesRead) → AttributeRefusal r
    → ((code next : ℕ) → AttributesRefusal (later code next).end) → AttributesRefusal (attribute_then at count r later).end
then_refusal at count (AttributeRead.Refused n) later h f = h
then_refusal at count (AttributeRead.Last next) later h f = tt
then_refusal at count (AttributeRead.Attribute code value next) later h f = f code next

-- attributes from a place on
pub attributes_refusal : (s : List ℕ) (at most : ℕ) (codes : List ℕ) → AttributesRefusal (attributes_at s at most codes).end
unfolding attributes_at
attributes_refusal s at zero codes =
    then_refusal at (length codes) (attribute_at s at true (one_of codes)) (λ code next. ended (AttributesRead.Refused too_many))
    (attribute_refusal s at true (one_of codes) _ refl) (λ code next. refl)
attributes_refusal s at (suc most) codes =
    then_refusal at (length codes) (attribute_at s at false (one_of codes)) (λ code next. attributes_at s next most (code ∷ codes))
    (attribute_refusal s at false (one_of codes) _ refl) (λ code next. attributes_refusal s next most (code ∷ codes))
