-- `wire::write::string` meets its contract: a text is its length, its bytes and a zero, one behind the other.
-- Assumes nothing.
use mathlib.Core.Path.{◌≡◌, subst, sym, ap, ◌∙◌}
use mathlib.Core.List.{List, [], ◌∷◌, ◌++◌}
use Prim.Native.Nat.{ℕ}
use denote.Ref.{Bor}
use lib.ListN.{length}
use Rattle.std.specs.Prelude.{Option, Some}
use Rattle.wire.specs.Bytes.{over, integer_bytes}
use Rattle.wire.specs.Field.{string_bytes}
use Rattle.wire.specs.Text.{is_null, bytes_in}
use Rattle.wire.specs.Packet.{Fits}
use Rattle.wire.proofs.Rows.{fits_later, joined}
use Rattle.wire.proofs.write.string.Goals as goal

-- a text's field
text_is : (t : Option (Bor (List ℕ))) (text : Bor (List ℕ)) → t ≡ Some text
    → string_bytes (is_null t) (bytes_in t) ≡ integer_bytes (length text.now) ++ (text.now ++ (0 ∷ []))
unfolding string_bytes
text_is t text e = ap (λ (u : Option (Bor (List ℕ))). string_bytes (is_null u) (bytes_in u)) e

pub returns-clause-buffer_after : goal.returns-clause-buffer_after
returns-clause-buffer_after c =
    let a = c.args in
    let text = c.in-Some.text.now in
    let first = c.integer-start.ensures in
    let second = c.bytes-end.ensures in
    let fits = subst (λ l. Fits a.at l a.buffer.now) (text_is _ _ c.in-Some.is) c.requires in
    let behind = fits_later a.buffer.now a.at (integer_bytes (length text)) (text ++ (0 ∷ [])) fits _ _ first.buffer_after first.value in
    let tail = joined _ _ text (0 ∷ []) behind _ _ _ second.buffer_after second.value c.byte.ensures.buffer_after in
    joined a.buffer.now a.at (integer_bytes (length text)) (text ++ (0 ∷ [])) fits _ _ _ first.buffer_after first.value tail
    ∙ ap (over a.buffer.now a.at) (sym (text_is _ _ c.in-Some.is))
