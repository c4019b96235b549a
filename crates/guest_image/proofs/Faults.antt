-- The fault of a header is what reading answers.
use Rattle.std.proofs.Common.{◌≡◌, ◌≢◌, ◌≤◌, refl, sym, ap, ◌∙◌, ℕ, List, length, false, nat_lt, Result, Ok, Err, arith}
use Rattle.std.proofs.lemmas.Grind.{common_steps}
use Rattle.std.proofs.lemmas.Bool.Decides.{nat_tests}
use Rattle.std.specs.Prelude.{IsErrAnd}
use Rattle.guest_image.specs.declared.image.Image.{Image}
use Rattle.guest_image.specs.declared.fault.ImageFault.{ImageFault}
use Rattle.guest_image.specs.declared.fault.ImageFault.TheVariants.{Short, Magic, Version, RootKind, Limit, Window}
use Rattle.guest_image.specs.declared.fault.ImageFault.TheVariants.{NoTask, Memory}
use Rattle.guest_image.specs.ImageValue.{ImageValue}
use Rattle.guest_image.specs.Reading.{GivesImage, Fails, image_of, header_fault}

-- a fault of the bytes is told as it is
fails : (e : ImageFault) (read : Result (ImageValue × ℕ) ImageFault) → e ≢ Memory → read ≡ Err e → Fails e read
fails Memory read own is = absurd (own refl)
fails (Short need have) read own is = is
fails Magic read own is = is
fails (Version found) read own is = is
fails (RootKind found) read own is = is
fails (Limit field value) read own is = is
fails Window read own is = is
fails NoTask read own is = is

image_of-fault : (bytes : List ℕ) (e : ImageFault) → 32 ≤ length bytes → header_fault bytes ≡ Err e
    → image_of bytes ≡ Err e
unfolding image_of
image_of-fault bytes e enough is =
    let long : nat_lt (length bytes) 32 ≡ false = grind (arith, nat_tests, common_steps) in
    rw (long, is) refl

-- reading hands the fault of the header on
pub gives_fault : (bytes : List ℕ) (result : Result (Image × ℕ) ImageFault) (e : ImageFault)
    → IsErrAnd result (λ told. told ≡ e)
    → 32 ≤ length bytes → Err e ≡ header_fault bytes → e ≢ Memory → GivesImage result (image_of bytes)
gives_fault bytes (Ok x) e told enough is own = absurd told
gives_fault bytes (Err f) e told enough is own =
    fails f (image_of bytes) (λ memory. own (sym told ∙ memory)) (image_of-fault bytes e enough (sym is) ∙ ap (λ x. Err x) (sym told))
