-- An act that is a moment, and its line.
use Rattle.std.proofs.Common.{◌≡◌, ◌≢◌, ◌++◌, ℕ, List, [], length, refl, sym, ap, subst, ◌∙◌, Bool, true}
use Rattle.std.proofs.Common.{if◌then◌else◌}
use Rattle.std.specs.declared.option.Option.{Option}
use Rattle.guest_image.specs.ImageValue.{ImageValue}
use Rattle.rv_core.specs.LegValue.{LegValue}
use Rattle.task_request.specs.declared.request.Request.{Request}
use Rattle.watch_counts.specs.spec_state.Effects.{EffectValue}
use Rattle.watch_counts.specs.spec_state.View.{View}
use Rattle.watch_counts.specs.event_def.declared.event.Reply.{Reply}
use Rattle.watch_counts.specs.event_def.declared.event.Reply.TheVariants as replies
use Rattle.watch_counts.specs.step_script.declared.act.Act.{Act}
use Rattle.watch_counts.specs.step_script.declared.asked.Asked.{Asked}
use Rattle.watch_counts.specs.step_script.Playing.{PlayState}
use Rattle.watch_counts.specs.step_script.Asking.{Attempt, AttemptComes, AttemptTells, AsksFor, asks_of}
use Rattle.watch_counts.proofs.Below.step_script.Proved.{comes_of}
use Rattle.watch_counts.specs.watch_text.Lines.{line_of, rest_text}
use Rattle.watch_counts.specs.watch_text.Moments.{IsAbout, IsAskedFor, Moment}
use Rattle.watch_counts.specs.watch_text.Requests.{front_text}
use Rattle.watch_play.specs.declared.telling.Telling.{Telling}
use Rattle.watch_play.specs.Playing.{IsMomentAt}
use Rattle.watch_play.specs.Texts.{has_lines, moment_lines, view_text}

-- a text that is told where lines are, by whether they are
pub where_lines : (telling : Telling) (text : List ℕ) (lines : Bool) → has_lines telling ≡ lines
    → (if has_lines telling then text else []) ≡ (if lines then text else [])
where_lines telling text lines is = ap (λ (b : Bool). if b then text else []) is

module _ (N : Type 0) (image : ImageValue) (at number : ℕ) (act : Act) (old new : PlayState) (asks : Attempt N)
    (task : Option ℕ) (request : Option Request) (reply : Reply) (aborted : ℕ) (effect : EffectValue) where
  -- the moment
  abbrev pub made : Moment N
  made = record {
    at = at;
    number = number;
    act = act;
    asks = asks;
    task = task;
    request = request;
    reply = reply;
    aborted = aborted;
    effect = effect;
    old = old.book;
    new = new.book;
  }

  pub is_made : AsksFor image act old asks new.held → IsAbout old.book.view asks task
      → IsAskedFor old.book.view asks request → reply ≢ replies.Memory
      → AttemptComes asks reply aborted old.book new.book
      → AttemptTells asks reply aborted old.book new.book effect
      → IsMomentAt image at number act made old new
  is_made asked about asked_for there came told = record {
    act_is = refl;
    at_is = refl;
    number_is = refl;
    moment = record {
      old_is = refl;
      new_is = refl;
      asked = asked;
      about = about;
      asked_for = asked_for;
      came = comes_of asks reply aborted old.book new.book there came;
      told = told;
    };
  }

  -- by what is read of a state that is the book's, and where what is told behind it leaves the play
  pub moment_is : (seen : View) (after : PlayState) → seen ≡ old.book.view → after ≡ new
      → AsksFor image act old asks new.held → IsAbout seen asks task → IsAskedFor seen asks request
      → reply ≢ replies.Memory → AttemptComes asks reply aborted old.book new.book
      → AttemptTells asks reply aborted old.book new.book effect
      → IsMomentAt image at number act made old after
  moment_is seen after same left asked about asked_for there came told =
      subst (λ p. IsMomentAt image at number act made old p) (sym left)
      (is_made asked (subst (λ v. IsAbout v asks task) same about)
      (subst (λ v. IsAskedFor v asks request) same asked_for)
      there came told)

  -- its line, and the view behind it
  pub line_is : (telling : Telling) (cleared front line : List ℕ) (output : ℕ) → has_lines telling ≡ true
      → cleared ≡ [] → front ≡ cleared ++ front_text at act asks task request → output ≡ length old.book.view.output
      → line ≡ front ++ rest_text effect output new.book.view asks task request reply aborted new.book.steps
      ++ view_text telling number new.book.view new.book.steps → line ≡ moment_lines telling made
  unfolding line_of
  line_is telling cleared front line output lines none begun output_is is =
      let first : front ≡ front_text at act asks task request =
      begun ∙ ap (λ l. l ++ front_text at act asks task request) none in
      let text = λ (n : ℕ). rest_text effect n new.book.view asks task request reply aborted new.book.steps in
      let behind = view_text telling number new.book.view new.book.steps in
      is ∙ (λ i. (first i ++ text (output_is i)) ++ behind)
      ∙ sym (where_lines telling (line_of made ++ behind) true lines)

-- the same by the leg that stands ready, of which another reader tells
module _ (N : Type 0) (image : ImageValue) (at number : ℕ) (act : Act) (old new : PlayState) (asked : Asked)
    (leg ready : LegValue) (task : Option ℕ) (request : Option Request) (reply : Reply) (aborted : ℕ)
    (effect : EffectValue) (same : leg ≡ ready) where
  abbrev pub told_by : LegValue → Moment N
  told_by l = made N image at number act old new (asks_of asked l) task request reply aborted effect

  pub is_told : (seen : View) (after : PlayState) → seen ≡ old.book.view → after ≡ new
      → AsksFor {N = N} image act old (asks_of asked ready) new.held → IsAbout {N = N} seen (asks_of asked leg) task
      → IsAskedFor {N = N} seen (asks_of asked leg) request → reply ≢ replies.Memory
      → AttemptComes {N = N} (asks_of asked ready) reply aborted old.book new.book
      → AttemptTells {N = N} (asks_of asked ready) reply aborted old.book new.book effect
      → IsMomentAt image at number act (told_by leg) old after
  is_told seen after read left asks about asked_for there came told =
      moment_is N image at number act old new (asks_of asked leg) task request reply aborted effect seen after read left
      (subst (λ l. AsksFor {N = N} image act old (asks_of asked l) new.held) (sym same) asks) about asked_for there
      (subst (λ l. AttemptComes {N = N} (asks_of asked l) reply aborted old.book new.book) (sym same) came)
      (subst (λ l. AttemptTells {N = N} (asks_of asked l) reply aborted old.book new.book effect) (sym same) told)
