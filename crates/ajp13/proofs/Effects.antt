-- What reading leaves of a packet that goes a short way.
-- Assumes nothing.
use mathlib.Core.Path.{◌≡◌, sym, ap, subst, ◌∙◌}
use mathlib.Core.List.{List}
use Prim.Native.Nat.{ℕ, ◌≤◌}
use lib.ListN.{length}
use Rattle.packet.specs.declared.Direction.{Direction}
use Rattle.packet.specs.declared.Packet.{Packet}
use Rattle.packet.specs.declared.Part.{Part}
use Rattle.connection.specs.Connection.{max_packet}
use Rattle.connection.specs.declared.Connection.{Connection}
use Rattle.std.specs.Prelude.{Result, Ok, Err, Option, Some}
use Rattle.wire.specs.Refusal.{number_of}
use Rattle.wire.specs.declared.refusal.Refusal.{Refusal}
use Rattle.reader.specs.Meaning.{Meaning, refused, accepted}
use Rattle.reader.specs.Reading.{reading, table_after}
use Rattle.short_ways.specs.declared.ReadPart.{ReadPart}
use Rattle.short_ways.specs.Short.{answered, part_meaning, short_reading}
use Rattle.short_ways.proofs.ShortWays.{short_reads, short_keeps}
use Rattle.words.specs.ConnectionWords.{connection_in, connection_words}
use Rattle.words.specs.Status.{done}
use Rattle.answers.specs.Answer.{packet_words}
use Rattle.answers.specs.Effect.{Effect, leaves, call_fault}
use Rattle.answers.specs.Told.{after_reading}
use Rattle.answers.specs.Private.{ReadWithin}
use Rattle.ajp13.specs.Reading.{sound_reading, read_effect}
use Rattle.ajp13.proofs.Within.{read_within}

-- the packet goes one, at the end to which packets of this direction go: what its answer tells fits a word, and the table is as it was
module _ (direction : Direction) (c : Connection) (bytes table : List ℕ) (m : Meaning) (short : answered m ≡ short_reading direction c bytes) where
  pub short_within : ReadWithin m
  short_within =
      subst ReadWithin (sym (short_reads direction c bytes m short table)) (read_within direction c bytes (length table))

  pub short_sound : (connection answer : List ℕ) → c ≡ connection_in connection
      → after_reading m connection table answer ≡ sound_reading direction connection bytes table answer
  short_sound connection answer from =
      ap (λ (x : Meaning). after_reading x connection table answer) (short_reads direction c bytes m short table)
      ∙ ap (λ (l : List ℕ). after_reading (reading direction c bytes (length table)) connection l answer) (short_keeps direction c bytes m short table)
      ∙ ap (λ (x : Connection). after_reading (reading direction x bytes (length table)) connection (table_after direction x bytes table) answer) from

-- and so it is what the call leaves, where it has no fault
module _ (direction : Direction) (connection bytes table answer : List ℕ) (c : Connection) (m : Meaning)
    (short : answered m ≡ short_reading direction c bytes) where
  pub short_leaves : (found : ℕ) (e : Effect) → found ≡ call_fault connection answer → found ≡ 0 → c ≡ connection_in connection
      → e ≡ after_reading m connection table answer → e ≡ read_effect direction connection bytes table answer
  unfolding read_effect
  short_leaves found e is none from tells =
      rw (sym is ∙ none) (tells ∙ short_sound direction c bytes table m short connection answer from)

-- by what the short way answered, where that was refused, and where a part was read
module _ (direction : Direction) (of : Part → Packet) {r : Result (Option ReadPart) Refusal} {c : Connection} (connection bytes table answer : List ℕ)
    (says : part_meaning of r ≡ short_reading direction c bytes) (from : c ≡ connection_in connection) where
  pub refused_sound : {refusal : Refusal} → r ≡ Err refusal
      → leaves (number_of refusal) connection table answer ≡ sound_reading direction connection bytes table answer
  refused_sound {refusal} e =
      short_sound direction c bytes table (refused (number_of refusal)) (ap (part_meaning of) (sym e) ∙ says) connection answer from

  pub part_sound : {read : ReadPart} → r ≡ Ok (Some read)
      → leaves done (connection_words read.connection) table (packet_words (of read.part) read.taken) ≡ sound_reading direction connection bytes table answer
  part_sound {read} e =
      short_sound direction c bytes table (accepted (of read.part) read.taken read.connection) (ap (part_meaning of) (sym e) ∙ says) connection answer from

  pub part_within : {read : ReadPart} → r ≡ Ok (Some read) → read.taken ≤ max_packet
  part_within {read} e =
      short_within direction c bytes table (accepted (of read.part) read.taken read.connection) (ap (part_meaning of) (sym e) ∙ says)
