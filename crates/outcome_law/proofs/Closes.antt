-- The same events on sound books that are alike, and as many events for the least tasks, leave books that are alike,
-- the former with the same answers; and closed, such books leave the same.
use Rattle.std.proofs.Common.{◌≡◌, zero, suc, ℕ, true, [], ◌∷◌, refl, sym, ap, subst, ◌∙◌, arith}
use Rattle.std.specs.List.{AllByRecursion}
use Rattle.guest_image.specs.ImageValue.{ImageValue}
use Rattle.step_script.specs.spec_law.Sound.{Sound}
use Rattle.step_script.specs.event_def.declared.event.Reply.TheVariants as replies
use Rattle.step_script.specs.event_def.Advancing.{AdvancesBy}
use Rattle.step_script.specs.event_def.Book.{BookView}
use Rattle.step_script.specs.event_def.Events.{IsGiven}
use Rattle.step_script.specs.event_def.Happens.{Happens}
use Rattle.step_script.proofs.Below.event_law.Proved.{event_stays_sound, happens_keeps, next_event_is_given}
use Rattle.outcome_law.specs.Laws.{AreSameBooks, EventsAreOne, LeastRunIsOne, CloseIsOne}
use Rattle.outcome_law.proofs.Aborts.{undone_alike}
use Rattle.outcome_law.proofs.Nexts.{next_one}
use Rattle.outcome_law.proofs.Outcomes.{outcome_is_one}

pub close_is_one : CloseIsOne
close_is_one old other closed other_closed same one two =
    let memory = undone_alike same.0 old.view other.view same.1.view (λ id. true) (λ id. true) (λ k. refl) one.left.memory two.left.memory one.undone.memory two.undone.memory in
    let history : other_closed.journal ≡ closed.journal = two.journal ∙ (ap (λ v. v.history) two.undone.frame ∙ (ap (λ v. v.history) same.1.view.frame ∙ (sym (ap (λ v. v.history) one.undone.frame) ∙ sym one.journal))) in
    let output : other_closed.output ≡ closed.output = two.output ∙ (ap (λ v. v.output) two.undone.frame ∙ (ap (λ v. v.output) same.1.view.frame ∙ (sym (ap (λ v. v.output) one.undone.frame) ∙ sym one.output))) in
    let memories : other_closed.memory ≡ closed.memory = two.memory ∙ (memory ∙ sym one.memory) in
    let steps : other_closed.steps ≡ closed.steps = two.steps ∙ (same.1.steps ∙ sym one.steps) in
    λ i. record { journal = history i; memory = memories i; output = output i; steps = steps i }

pub events_are_one : (N : Type 0) → EventsAreOne N
events_are_one N image old other new other_new [] [] [] sound sound' same given has has' one two =
    (refl, subst (λ (x : BookView). AreSameBooks x other_new) one (subst (λ (y : BookView). AreSameBooks old y) two same))
events_are_one N image old other new other_new (e ∷ es) (x ∷ xs) (y ∷ ys) sound sound' same given has has' one two =
    let is = outcome_is_one N image old other one.0 two.0 e x.reply y.reply x.aborted y.aborted sound sound' same one.1 two.1 has.0 has'.0 in
    let kept = happens_keeps N image old one.0 e x.aborted given.0 sound x.reply one.1 in
    let given' = subst (λ s. IsGiven image s e) (sym (ap (λ v. v.settings) same.1.view.frame)) given.0 in
    let kept' = happens_keeps N image other two.0 e y.aborted given' sound' y.reply two.1 in
    let rest = events_are_one N image one.0 two.0 new other_new es xs ys kept.now kept'.now is.books (subst (λ s. AllByRecursion (IsGiven image s) es) (sym kept.settings) given.1) has.1 has'.1 one.2 two.2 in
    ((λ i. record { reply = is.reply_is i; aborted = is.aborted_is i } ∷ rest.0 i), rest.1)
events_are_one N image old other new other_new [] (x ∷ xs) ys sound sound' same given has has' one two = absurd one
events_are_one N image old other new other_new [] [] (y ∷ ys) sound sound' same given has has' one two = absurd two
events_are_one N image old other new other_new (e ∷ es) [] ys sound sound' same given has has' one two = absurd one
events_are_one N image old other new other_new (e ∷ es) (x ∷ xs) [] sound sound' same given has has' one two =
    absurd two

-- as many events for the least tasks leave sound books that are alike, as the next event needs
least_runs_keep : (N : Type 0) (image : ImageValue) (n : ℕ) (old other new other_new : BookView) → Sound image old.view
    → Sound image other.view → AreSameBooks old other
    → AdvancesBy N image n old new → AdvancesBy N image n other other_new
    → AreSameBooks new other_new × Sound image new.view × Sound image other_new.view
least_runs_keep N image zero old other new other_new sound sound' same one two =
    subst (λ (x : BookView). AreSameBooks x other_new × Sound image x.view × Sound image other_new.view) one (subst (λ (y : BookView). AreSameBooks old y × Sound image old.view × Sound image y.view) two (same, sound, sound'))
least_runs_keep N image (suc n) old other new other_new sound sound' same one two =
    let before = least_runs_keep N image n old other one.0 two.0 sound sound' same one.2 two.2 in
    let e = one.3.event in
    let events : two.3.event ≡ e = next_one image before.0.0 one.0.view two.0.view before.0.1.view e two.3.event one.3.next.least two.3.next.least in
    let happens' = subst (λ f. Happens two.0 f replies.Ok two.1 other_new) events two.3.happens in
    let is = outcome_is_one N image one.0 two.0 new other_new e replies.Ok replies.Ok one.1 two.1 before.1 before.2 before.0 one.3.happens happens' (λ c. absurd (cc (c))) (λ c. absurd (cc (c))) in (
      is.books,
      event_stays_sound N image one.0 new e replies.Ok one.1 (next_event_is_given N image one.0.view e before.1 one.3.next) before.1 one.3.happens,
      event_stays_sound N image two.0 other_new two.3.event replies.Ok two.1 (next_event_is_given N image two.0.view two.3.event before.2 two.3.next) before.2 two.3.happens,
    )

pub least_run_is_one : (N : Type 0) → LeastRunIsOne N
least_run_is_one N image n old other new other_new sound sound' same one two =
    (least_runs_keep N image n old other new other_new sound sound' same one two).0
