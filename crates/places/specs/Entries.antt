-- Headers and attributes are entries: one after the other, each with two places in the lent table.
-- Document 01, 'Refusal numbers': the table of places; 'Server to container': the most headers and attributes.
-- Assumes nothing.
use Rattle.std.specs.Prelude.{List, [], ◌∷◌, ◌++◌, ℕ}

-- the most headers of a packet
abbrev pub max_headers : ℕ
max_headers = 100

-- the most attributes of a Forward
abbrev pub max_attributes : ℕ
max_attributes = 64

-- the most places that a packet needs: two for each
abbrev pub max_places : ℕ
max_places = 328

-- entries that were read: their places in the table's order, and how they end. Where one is refused, the places of those before it
pub record Entries (A : Type 0) : Type 0 where
  pub places : List ℕ
  pub end : A

-- no entry, only an end
abbrev pub ended : {A : Type 0} → A → Entries A
ended a = record { places = []; end = a }

-- an entry in front of others, by its two places
abbrev pub front : {A : Type 0} → ℕ → ℕ → Entries A → Entries A
front first second later = record { places = first ∷ second ∷ later.places; end = later.end }

-- entries and, behind them, others
abbrev pub followed : {A B : Type 0} → Entries A → Entries B → Entries B
followed these those = record { places = these.places ++ those.places; end = those.end }

-- the same places with another end
abbrev pub ending : {A B : Type 0} → (A → B) → Entries A → Entries B
ending f these = record { places = these.places; end = f these.end }
