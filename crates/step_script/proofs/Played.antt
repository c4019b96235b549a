-- What acts do, one after another.
use Rattle.std.proofs.Common.{◌≡◌, ℕ, ◌+◌, ◌<◌, List, [], ◌∷◌, ◌++◌, length, take, Result, Ok, Err, refl, subst, sym}
use Rattle.std.specs.Prelude.{OnErr, slice_index_or}
use Rattle.std.proofs.lemmas.List.{take_more}
use Rattle.guest_image.specs.ImageValue.{ImageValue}
use Rattle.conflict_book.specs.event_def.Book.{BookView}
use Rattle.step_script.specs.declared.act.Act.{Act}
use Rattle.step_script.specs.declared.saying.Said.{Said}
use Rattle.step_script.specs.Playing.{HeldLeg, PlayState, Does, DoesAll, PlaysSome}

-- one act more
pub does_more : (N : Type 0) (image : ImageValue) (script : List Act) (act : Act) (old mid new : PlayState) (saids : List Said) (said : Said)
    → DoesAll N image script old saids mid → Does N image act mid said new
    → DoesAll N image (script ++ act ∷ []) old (saids ++ said ∷ []) new
does_more N image [] act old mid new [] said same does =
    (new, subst (λ x. Does N image act x said new) (sym same) does, refl)
does_more N image [] act old mid new (s ∷ saids) said none does = absurd none
does_more N image (a ∷ script) act old mid new [] said none does = absurd none
does_more N image (a ∷ script) act old mid new (s ∷ saids) said (between, one, rest) does =
    (between, one, does_more N image script act between mid new saids said rest does)

pub one_more : (N : Type 0) (image : ImageValue) (script : List Act) (i : ℕ) (d : Act) (old mid new : PlayState) (saids after : List Said) (said : Said)
    → i < length script → DoesAll N image (take i script) old saids mid
    → Does N image (slice_index_or script i d) mid said new
    → after ≡ saids ++ said ∷ [] → DoesAll N image (take (i + 1) script) old after new
one_more N image script i d old mid new saids after said inside played does told =
    subst (λ s. DoesAll N image (take (i + 1) script) old s new) (sym told)
    (subst (λ front. DoesAll N image front old (saids ++ said ∷ []) new) (sym (take_more script i d inside))
    (does_more N image (take i script) (slice_index_or script i d) old mid new saids said played does))

-- so many acts were played, and the book is as they left it
pub some_played : {T E : Type 0} (N : Type 0) (image : ImageValue) (script : List Act) (count : ℕ) (old mid new : BookView) (said : List Said)
    (held : List HeldLeg) (r : Result T E)
    → DoesAll N image (take count script) (record { book = old; held = [] }) said (record { book = mid; held = held })
    → new ≡ mid → OnErr r (PlaysSome N image script old new)
some_played N image script count old mid new said held (Ok t) played same = tt
some_played N image script count old mid new said held (Err e) played same = record {
  count = count;
  said = said;
  plays =
      (held, subst (λ b. DoesAll N image (take count script) (record { book = old; held = [] }) said (record { book = b; held = held })) (sym same) played);
}
