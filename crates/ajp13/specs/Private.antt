-- What the functions of this crate ask of the closures that the exported calls pass: they may be called, and answer and leave what the
-- library's call says.
-- Assumes nothing.
use Rattle.std.specs.Prelude.{◌≡◌, List, [], ◌∷◌, ℕ, length, Result, Option}
use Rattle.std.specs.Borrow.{Bor, MutBor}
use Rattle.std.specs.Fn.{Once}
use Rattle.wire.specs.declared.refusal.Refusal.{Refusal}
use Rattle.packet.specs.declared.Direction.{Direction}
use Rattle.packet.specs.declared.Packet.{Packet}
use Rattle.packet.specs.declared.Part.{Part}
use Rattle.connection.specs.declared.Connection.{Connection}
use Rattle.connection.specs.declared.Kind.{Kind}
use Rattle.building.specs.Call.{Call, outcome, buffer_after}
use Rattle.building.specs.Sent.{Written, sent_outcome}
use Rattle.building_record.specs.declared.Building.{Building}
use Rattle.pieces.specs.Meaning.{added_outcome}
use Rattle.short_ways.specs.declared.ReadPart.{ReadPart}
use Rattle.short_ways.specs.Short.{part_meaning, short_reading}
use Rattle.words.specs.BuildingWords.{building_fault}
use Rattle.answers.specs.Answer.{part_words, packet_words}
use Rattle.ajp13.specs.Piece.{Piece}

-- a closure that reads packets of one kind a short way, at the end to which packets of this direction go; `of` makes the packet from its part
pub record GoesShort {F : Type 0} (g : Once F (Connection × (Bor (List ℕ) × Unit {0})) (Result (Option ReadPart) Refusal)) (f : F) (direction : Direction)
    (kind : Kind) (of : Part → Packet) : Type 0 where
  pub callable : (c : Connection) (s : Bor (List ℕ)) → g.pre f (c, (s, tt))
  pub answers : (c : Connection) (s : Bor (List ℕ)) (r : Result (Option ReadPart) Refusal) → g.post f (c, (s, tt)) r
      → part_meaning of r ≡ short_reading direction c s.now
  pub told : (part : Part) (taken : ℕ) → packet_words (of part) taken ≡ part_words kind part taken

-- a closure that sends, at any connection and over any buffer; the packet is all that it writes
pub record Sends {F : Type 0} (g : Once F (Connection × (MutBor (List ℕ) × Unit {0})) (Result Written Refusal × (MutBor (List ℕ) × Unit {0}))) (f : F)
    (call : Connection → Call Written) : Type 0 where
  pub callable : (c : Connection) (b : MutBor (List ℕ)) → g.pre f (c, (b, tt))
  pub answers : (c : Connection) (b left : MutBor (List ℕ)) (r : Result Written Refusal) → g.post f (c, (b, tt)) (r, (left, tt))
      → (sent_outcome r ≡ outcome (call c) (length b.now)) × (left.now ≡ buffer_after (call c) b.now)
  pub whole : (c : Connection) → ((call c).at ≡ 0) × ((call c).answer.size ≡ length (call c).bytes)

-- a closure that adds a piece, to any packet that is being built and over any buffer
pub record Adds {F : Type 0} (g : Once F (Building × (MutBor (List ℕ) × Unit {0})) (Result Building Refusal × (MutBor (List ℕ) × Unit {0}))) (f : F)
    (call : Building → List ℕ → Call Building) : Type 0 where
  pub callable : (r : Building) (b : MutBor (List ℕ)) → g.pre f (r, (b, tt))
  pub answers : (r : Building) (b left : MutBor (List ℕ)) (added : Result Building Refusal) → g.post f (r, (b, tt)) (added, (left, tt))
      → (added_outcome added ≡ outcome (call r b.now) (length b.now)) × (left.now ≡ buffer_after (call r b.now) b.now)

-- a piece by the words of a building record, the fault of the call's other arguments and the call that adds it
abbrev pub record_piece : List ℕ → ℕ → Call Building → Piece
record_piece building arguments call = record { faults = building_fault building ∷ arguments ∷ []; call = call }
