-- What the laws of reading attributes say: what is answered lies inside a packet of n bytes.
-- Assumes nothing.
use Rattle.std.specs.Prelude.{◌≡◌, true, ℕ, ◌+◌, ◌≤◌, ◌<◌, ltb, length}
use Rattle.wire.specs.Pick.{all}
use Rattle.places.specs.Entries.{Entries}
use Rattle.attributes.specs.Private.{set_room}
use Rattle.attributes.specs.Attributes.{AttributeRead, AttributesRead}

-- an attribute that is answered: a set of codes can hold its code; its value lies behind its code, and its end inside a packet of n bytes
abbrev pub AttributeInside : ℕ → ℕ → AttributeRead → Type 0
AttributeInside n at (AttributeRead.Refused k) = Unit
AttributeInside n at (AttributeRead.Last next) = (next ≡ at + 1) × (next ≤ n)
AttributeInside n at (AttributeRead.Attribute code value next) = (at + 1 ≤ value) × ((value + 2 ≤ next) × ((next ≤ n) × (code < set_room)))

-- how attributes end that are not refused: they have two places each, and the end lies behind the place and inside a packet of n bytes
abbrev pub AttributesEnd : ℕ → ℕ → ℕ → ℕ → ℕ → AttributesRead → Type 0
AttributesEnd n at most before places (AttributesRead.Refused k) = Unit
AttributesEnd n at most before places (AttributesRead.Attributes count next) =
    (places + (before + before) ≡ count + count) × ((next ≤ n) × ((at < next) × (count ≤ most + before)))

-- attributes from a place on, at most `most`, with `before` of them before: few places, each inside a packet of n bytes
pub record AttributesInside (n at most before : ℕ) (r : Entries AttributesRead) : Type 0 where
  pub few : length r.places ≤ most + most
  pub within : all (λ p. ltb p n) r.places ≡ true
  pub ends : AttributesEnd n at most before (length r.places) r.end
