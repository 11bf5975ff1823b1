-- `is_fault` meets its contract: the numbers of all refusals are those of the table.
-- Assumes nothing.
use mathlib.Core.Path.{ap, ◌∙◌}
use mathlib.Core.List.{List}
use Prim.Native.Nat.{ℕ}
use Rattle.wire.specs.Pick.{one_of}
use Rattle.checking_words.proofs.Laws.{listed_any, fault_some}
use Rattle.checking_words.proofs.is_fault.Goals as goal

pub returns-else-word-eq0 : goal.returns-else-word-eq0
returns-else-word-eq0 c =
    let n = c.args.word in
    c.is_one_of.ensures ∙ listed_any c.all.result n ∙ ap (λ (l : List ℕ). one_of l n) c.all.ensures ∙ fault_some n c.if-word-eq0.false
