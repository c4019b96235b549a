-- What a reply says of an event.
use Rattle.std.proofs.Common.{ℕ, zero, suc, ◌≡◌, ◌≢◌, ◌<◌, ◌⊎◌, inl, inr, refl, sym, ap, arith, ◌∙◌}
use Rattle.event_def.specs.declared.event.Event.{Event}
use Rattle.event_def.specs.declared.event.Reply.{Reply}
use Rattle.event_def.specs.declared.event.Reply.TheVariants as replies
use Rattle.event_def.specs.Book.{BookView}
use Rattle.event_def.specs.Causes.{refusal_rank, IsRefused, IsGranted}
use Rattle.event_def.specs.Happens.{Happens, Refuses, IsUnchanged}
use Rattle.event_law.specs.Laws.{RefusalsChangeNothing, ReplyIsOne}

module _ {N : Type 0} (old new : BookView) (event : Event N) (aborted : ℕ) where
  -- what is unchanged, as two facts
  both_same : IsUnchanged old aborted new → (aborted ≡ 0) × (new ≡ old)
  both_same same = (same.none, same.same)

  -- a refusal leaves the book as it was
  unchanged_by : (reply : Reply) → Refuses old event reply aborted new → (aborted ≡ 0) × (new ≡ old)
  unchanged_by reply refuses = both_same refuses.unchanged

  -- each reply but Ok does
  pub unchanged : (reply : Reply) → Happens old event reply aborted new → reply ≢ replies.Ok
      → (aborted ≡ 0) × (new ≡ old)
  unchanged replies.Ok happens not_made = absurd (not_made refl)
  unchanged replies.Empty happens not_made = unchanged_by replies.Empty happens
  unchanged replies.Busy happens not_made = unchanged_by replies.Busy happens
  unchanged replies.Stall happens not_made = unchanged_by replies.Stall happens
  unchanged replies.Stale happens not_made = unchanged_by replies.Stale happens
  unchanged replies.Firm happens not_made = unchanged_by replies.Firm happens
  unchanged replies.Ended happens not_made = unchanged_by replies.Ended happens
  unchanged replies.Memory happens not_made = both_same happens.1

pub refusals_change_nothing : (N : Type 0) → RefusalsChangeNothing N
refusals_change_nothing N old new event reply aborted happens not_made =
    unchanged old new event aborted reply happens not_made

-- the reply of a rank
of_rank : ℕ → Reply
of_rank zero = replies.Ended
of_rank (suc zero) = replies.Empty
of_rank (suc (suc zero)) = replies.Busy
of_rank (suc (suc (suc zero))) = replies.Stale
of_rank (suc (suc (suc (suc zero)))) = replies.Firm
of_rank (suc (suc (suc (suc (suc zero))))) = replies.Stall
of_rank (suc (suc (suc (suc (suc (suc zero)))))) = replies.Memory
of_rank (suc (suc (suc (suc (suc (suc (suc n))))))) = replies.Ok

-- a rank tells its reply
told_by : (reply : Reply) → of_rank (refusal_rank reply) ≡ reply
unfolding of_rank
told_by replies.Ok = refl
told_by replies.Empty = refl
told_by replies.Busy = refl
told_by replies.Stall = refl
told_by replies.Stale = refl
told_by replies.Firm = refl
told_by replies.Ended = refl
told_by replies.Memory = refl

-- replies of one rank are one
rank_is_one : (reply other : Reply) → refusal_rank reply ≡ refusal_rank other → reply ≡ other
rank_is_one reply other same = sym (told_by reply) ∙ (ap of_rank same ∙ told_by other)

module _ {N : Type 0} (old new : BookView) (event : Event N) (aborted : ℕ) where
  -- what a refusal says
  refused_by : (reply : Reply) → Refuses old event reply aborted new
      → ((reply ≡ replies.Ok) × IsGranted old event) ⊎ IsRefused old event reply
  refused_by reply refuses = inr refuses.refused

  -- want of memory aside, an event is granted or refused for a cause
  outcome : (reply : Reply) → Happens old event reply aborted new → reply ≢ replies.Memory
      → ((reply ≡ replies.Ok) × IsGranted old event) ⊎ IsRefused old event reply
  outcome replies.Ok happens has_memory = inl (refl, happens.granted)
  outcome replies.Empty happens has_memory = refused_by replies.Empty happens
  outcome replies.Busy happens has_memory = refused_by replies.Busy happens
  outcome replies.Stall happens has_memory = refused_by replies.Stall happens
  outcome replies.Stale happens has_memory = refused_by replies.Stale happens
  outcome replies.Firm happens has_memory = refused_by replies.Firm happens
  outcome replies.Ended happens has_memory = refused_by replies.Ended happens
  outcome replies.Memory happens has_memory = absurd (has_memory refl)

module _ {N : Type 0} (book : BookView) (event : Event N) (reply other : Reply) where
  -- of two refusals neither is tried before the other, so they are one
  one_refusal : IsRefused book event reply → IsRefused book event other → reply ≡ other
  one_refusal one two =
      let not_before : refusal_rank reply < refusal_rank other → ⊥ = λ before. two.first reply before one.cause in
      let not_behind : refusal_rank other < refusal_rank reply → ⊥ = λ before. one.first other before two.cause in
      rank_is_one reply other (grind (arith, not_before, not_behind))

  -- and what is granted is not refused: two outcomes have one reply
  one_outcome : ((reply ≡ replies.Ok) × IsGranted book event) ⊎ IsRefused book event reply
      → ((other ≡ replies.Ok) × IsGranted book event) ⊎ IsRefused book event other → reply ≡ other
  one_outcome (inl granted) (inl also) = granted.0 ∙ sym also.0
  one_outcome (inl granted) (inr refused) = absurd (granted.1 other refused.cause)
  one_outcome (inr refused) (inl granted) = absurd (granted.1 reply refused.cause)
  one_outcome (inr refused) (inr also) = one_refusal refused also

pub reply_is_one : (N : Type 0) → ReplyIsOne N
reply_is_one N old new other_new event reply other aborted other_aborted happens happens_too has has_too =
    one_outcome old event reply other (outcome old new event aborted reply happens has) (outcome old other_new event other_aborted other happens_too has_too)
