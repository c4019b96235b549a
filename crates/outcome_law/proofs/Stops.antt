-- Plays of one script that stop for want of memory agree as far as both got.
use Rattle.std.proofs.Common.{◌≡◌, ◌++◌, zero, suc, ℕ, List, [], ◌∷◌, take, drop, refl, sym, ap, subst, ◌∙◌}
use Rattle.std.specs.List.{AllByRecursion}
use Rattle.std.proofs.lemmas.List.{take-append-drop, take-take}
use Rattle.guest_image.specs.ImageValue.{ImageValue, IsImage}
use Rattle.place_policy.specs.Policy.{Policy}
use Rattle.trace_tap.specs.TapValue.{TapValue}
use Rattle.step_script.specs.spec_state.declared.settings.Settings.{Settings}
use Rattle.step_script.specs.spec_state.Settings.{IsValid}
use Rattle.step_script.specs.event_def.Book.{BookView}
use Rattle.step_script.specs.event_def.Opening.{IsOpening}
use Rattle.step_script.proofs.Below.event_law.Proved.{opening_is_sound}
use Rattle.step_script.specs.declared.act.Act.{Act}
use Rattle.step_script.specs.declared.saying.Said.{Said}
use Rattle.step_script.specs.Playing.{PlayState, DoesAll, Plays}
use Rattle.step_script.specs.Ranges.{ActIsInRange}
use Rattle.outcome_law.specs.Stops.{PlaysOnBehind, FrontIsOne, StopIsOne, StopsAreOne}
use Rattle.outcome_law.proofs.Opened.{opening_is_one}
use Rattle.outcome_law.proofs.Scripts.{all_one}

-- a play of acts in front and of others behind, parted between them
record IsParted (N : Type 0) (image : ImageValue) (front behind : List Act) (p : PlayState) (said : List Said)
    (q : PlayState) : Type 0 where
  mid : PlayState
  first : List Said
  rest : List Said
  said_is : said ≡ first ++ rest
  plays : DoesAll N image front p first mid
  goes_on : DoesAll N image behind mid rest q

part : (N : Type 0) (image : ImageValue) (front behind : List Act) (p q : PlayState) (said : List Said)
    → DoesAll N image (front ++ behind) p said q → IsParted N image front behind p said q
part N image [] behind p q said does =
    record { mid = p; first = []; rest = said; said_is = refl; plays = refl; goes_on = does }
part N image (act ∷ acts) behind p q (s ∷ said) does =
    let parted = part N image acts behind does.0 q said does.2 in
    record {
      mid = parted.mid;
      first = s ∷ parted.first;
      rest = parted.rest;
      said_is = ap (λ l. s ∷ l) parted.said_is;
      plays = (does.0, does.1, parted.plays);
      goes_on = parted.goes_on;
    }
part N image (act ∷ acts) behind p q [] does = absurd does

pub front_is_one : (N : Type 0) → FrontIsOne N
front_is_one N image front behind old other new other_new said all_said sound sound' same inside one two =
    let begun : PlayState = record { book = other; held = [] } in
    let parted = part N image front behind begun (record { book = other_new; held = two.0 }) all_said two.1 in
    let both =
    all_one N image old.view.settings front (record { book = old; held = [] }) begun
    (record { book = new; held = one.0 }) parted.mid said parted.first
    (record { books = same; held = refl; sound = sound; sound' = sound'; settings_are = refl; runs = tt })
    inside one.1 parted.plays in
    record {
      mid = parted.mid;
      plays = subst (λ s. DoesAll N image front begun s parted.mid) both.0 parted.plays;
      books = both.1.books;
      said_behind = parted.rest;
      said_is = parted.said_is ∙ ap (λ s. s ++ parted.rest) both.0;
      held = two.0;
      goes_on = parted.goes_on;
    }

-- some first acts of a script are within what the script is
inside_front : (P : Act → Type 0) (count : ℕ) (script : List Act) → AllByRecursion P script
    → AllByRecursion P (take count script)
inside_front P zero script inside = tt
inside_front P (suc n) [] inside = tt
inside_front P (suc n) (act ∷ acts) inside = (inside.0, inside_front P n acts inside.1)

module _ (N : Type 0) (image : ImageValue) (settings : Settings) (placers : List Policy) (taps : List TapValue)
    (opened other_opened new other_new : BookView) (is_image : IsImage image) (valid : IsValid settings)
    (one : IsOpening image settings placers taps opened)
    (two : IsOpening image settings placers taps other_opened) where
  from_openings : (front behind whole : List Act) (said other_said : List Said) → front ++ behind ≡ whole
      → AllByRecursion (ActIsInRange opened.view.settings.tiles opened.view.settings.cores) front
      → Plays N image front opened said new → Plays N image whole other_opened other_said other_new
      → PlaysOnBehind N image front behind said new other_opened other_said other_new
  from_openings front behind whole said other_said is inside plays plays' =
      front_is_one N image front behind opened other_opened new other_new said other_said
      (opening_is_sound image settings placers taps opened is_image valid one)
      (opening_is_sound image settings placers taps other_opened is_image valid two)
      (opening_is_one image settings placers taps opened other_opened one two) inside plays
      (subst (λ acts. Plays N image acts other_opened other_said other_new) (sym is) plays')

pub stop_is_one : (N : Type 0) → StopIsOne N
stop_is_one N image settings placers taps script opened other_opened new other_new other_said is_image valid one two
    inside stopped plays =
    let count = stopped.count in
    from_openings N image settings placers taps opened other_opened new other_new is_image valid one two
    (take count script) (drop count script) script stopped.said other_said (take-append-drop count script)
    (inside_front _ count script inside) stopped.plays plays

pub stops_are_one : (N : Type 0) → StopsAreOne N
stops_are_one N image settings placers taps script opened other_opened new other_new is_image valid one two inside
    stopped other le =
    let count = stopped.count in
    let front = take other.count script in
    from_openings N image settings placers taps opened other_opened new other_new is_image valid one two
    (take count script) (drop count front) front stopped.said other.said
    (ap (λ f. f ++ drop count front) (sym (take-take count other.count script le)) ∙ take-append-drop count front)
    (inside_front _ count script inside) stopped.plays other.plays
