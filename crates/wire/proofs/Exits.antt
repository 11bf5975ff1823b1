-- The exit of a `?`: a call that passes a refusal on fails with that refusal.
-- Assumes nothing.
use mathlib.Core.Path.{◌≡◌, refl, ap, ◌∙◌}
use mathlib.Core.Bool.{false}
use lib.Dec.{eqb}
use Rattle.wire.specs.Refusal.{none, number_of}
use Rattle.std.specs.Prelude.{Result, Err, IsErrAnd}
use Rattle.std.proofs.lemmas.Result.{err_from_is_err_and}
use Rattle.wire.specs.declared.refusal.Refusal.{Refusal}

-- what the call's answer says, by the refusal that was passed on
pub exits : {T A : Type 0} (meaning : Result T Refusal → A) (r : Result T Refusal) (refusal : Refusal) → IsErrAnd r (λ e. e ≡ refusal)
    → meaning r ≡ meaning (Err refusal)
exits meaning r refusal h =
    let p = err_from_is_err_and r h in
    ap meaning (p.1 ∙ ap Err p.2)

-- no refusal has the number of none
pub refused_some : (refusal : Refusal) → eqb (number_of refusal) none ≡ false
refused_some Refusal.LeadingWrong = refl
refused_some Refusal.TooLong = refl
refused_some Refusal.CutShort = refl
refused_some Refusal.CodeWrong = refl
refused_some Refusal.CodeNotServed = refl
refused_some Refusal.StringWrong = refl
refused_some Refusal.OutOfRange = refl
refused_some Refusal.NameWrong = refl
refused_some Refusal.AttributeWrong = refl
refused_some Refusal.ContentLengthWrong = refl
refused_some Refusal.TooMany = refl
refused_some Refusal.LeftOver = refl
refused_some Refusal.NotNow = refl
refused_some Refusal.BodySizeWrong = refl
refused_some Refusal.BufferTooShort = refl
refused_some Refusal.RecordWrong = refl
refused_some Refusal.UnfinishedPacket = refl
refused_some Refusal.CaptureTooLong = refl
