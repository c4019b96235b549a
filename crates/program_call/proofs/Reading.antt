-- What a call reads of its input: all of it, none, or more than may be; and so what it was asked for.
use Rattle.std.proofs.Common.{◌≡◌, ◌<◌, ◌≤◌, ◌++◌, ◌∙◌, inl, inr, refl, ℕ, List, [], drop, Some, None, append-nil, ap}
use Rattle.std.proofs.Common.{arith, length, length-append, subst, sym}
use Rattle.std.specs.declared.option.Option.{Option}
use Rattle.std.specs.Io.KnownBytes.{Consumes, IsAtEnd}
use Rattle.sim_io.specs.Parts.{ReadsAll, ReadsPast, ReadsSome}
use Rattle.sim_io.specs.Streams.{SourceState}
use Rattle.guest_image.specs.ImageValue.{ImageValue}
use Rattle.guest_image.specs.Reading.{image_of}
use Rattle.program_call.specs.Call.{Input, input_limit}
use Rattle.program_call.specs.Complete.{BeginsWithImage, IsKnown}
use Rattle.program_call.specs.Front.{Front}
use Rattle.program_call.specs.Given.{ReadsAsAsked, ReadsImage, ReadsInput}

-- ---- of a source

-- what was read to the end was read
pub read_some : (old new : SourceState) (limit : ℕ) (found : List ℕ) → ReadsAll old new limit found
    → ReadsSome old new limit
read_some old new limit found h = record { found = found; taken = h.taken; within = h.within }

-- what was read to the end is all that there is
pub all_read : (bytes found : List ℕ) (old new : SourceState) (limit : ℕ) → old.left ≡ Some bytes
    → ReadsAll old new limit found → found ≡ bytes
all_read bytes found old new limit is h = go new.left old.left is h.taken h.ended where
  go : (after before : Option (List ℕ)) → before ≡ Some bytes → Consumes before after found → IsAtEnd after
      → found ≡ bytes
  go (Some ys) before at taken ended =
      let k : bytes ≡ found ++ ys = subst (λ l. Consumes l (Some ys) found) at taken in
      sym (k ∙ ap (λ z. found ++ z) ended ∙ append-nil found)
  go None before at taken ended = absurd (subst (λ l. Consumes l None found) at taken)

-- and where more than the limit was taken there is more
pub past_all : (bytes : List ℕ) (old new : SourceState) (limit : ℕ) → old.left ≡ Some bytes → ReadsPast old new limit
    → limit < length bytes
past_all bytes old new limit is h = go new.left (subst (λ l. Consumes l new.left h.found) is h.taken) where
  go : (after : Option (List ℕ)) → Consumes (Some bytes) after h.found → limit < length bytes
  go (Some ys) taken =
      let k : length bytes ≡ length (h.found ++ ys) = ap length taken in
      omega (arith, length-append h.found ys, h.past)
  go None taken = absurd taken

-- of a source that was left alone no byte was read
read_none : (old new : SourceState) (limit : ℕ) → new ≡ old → ReadsSome old new limit
read_none old new limit same =
    subst (λ after. ReadsSome old after limit) (sym same)
    (record { found = []; taken = go old.left; within = omega arith }) where
      go : (left : Option (List ℕ)) → Consumes left left []
      go None = tt
      go (Some bytes) = refl

-- ---- for words that ask for it

module _ (front : Front) where
  -- what was taken for words that ask for what reads the source
  pub asked_for : (input : Input) (asked : front.Asked) → front.asked_in input.words ≡ Some asked → front.Reads asked
      → ReadsSome input.source_before input.source_after input_limit → ReadsAsAsked front input
  asked_for input asked asks reads some =
      record { read = some; untouched = λ none. absurd (none asked asks reads) }

  -- all was taken
  pub read_as_asked : (input : Input) (asked : front.Asked) (bytes : List ℕ) → ReadsInput front input asked bytes
      → ReadsAsAsked front input
  read_as_asked input asked bytes h =
      asked_for input asked h.asks h.reads
      (read_some input.source_before input.source_after input_limit bytes h.read)

  -- nothing was taken
  pub left_alone : (input : Input) → input.source_after ≡ input.source_before → ReadsAsAsked front input
  left_alone input same = record {
    read = read_none input.source_before input.source_after input_limit same;
    untouched = λ none. same;
  }

  -- the bytes of a source that is read are known
  pub told_bytes : (input : Input) (bytes : List ℕ) (asked : front.Asked) → IsKnown front input bytes
      → front.asked_in input.words ≡ Some asked → front.Reads asked → input.source_before.left ≡ Some bytes
  told_bytes input bytes asked (inl is) asks reads = is
  told_bytes input bytes asked (inr none) asks reads = absurd (none asked asks reads)

  -- the words ask for this, which reads the source, and these are all the bytes that there are
  pub record IsAll (words : List (List ℕ)) (bytes found : List ℕ) (asked : front.Asked) : Type 0 where
    pub asks : front.asked_in words ≡ Some asked
    pub reads : front.Reads asked
    pub same : found ≡ bytes
    pub within : length bytes ≤ input_limit

  pub asks_all : (input : Input) (bytes found : List ℕ) (asked : front.Asked) → IsKnown front input bytes
      → ReadsInput front input asked found → IsAll input.words bytes found asked
  asks_all input bytes found asked known h =
      let is = told_bytes input bytes asked known h.asks h.reads in
      let same = all_read bytes found input.source_before input.source_after input_limit is h.read in
      let within = subst (λ b. length b ≤ input_limit) same h.read.within in
      record { asks = h.asks; reads = h.reads; same = same; within = within }

  -- the image that was read stands at the front of all the bytes that there are
  pub begins : (input : Input) (bytes : List ℕ) (asked : front.Asked) (image : ImageValue) (behind : List ℕ)
      → IsKnown front input bytes → ReadsImage front input asked image behind
      → BeginsWithImage front input.words bytes asked image behind
  begins input bytes asked image behind known given =
      let all = asks_all input bytes given.bytes asked known given.read in
      record {
        asks = all.asks;
        within = all.within;
        size = given.size;
        image_is = ap image_of (sym all.same) ∙ given.image_is;
        behind_is = given.behind_is ∙ ap (drop given.size) all.same;
      }
