-- What the crates above may cite of these proofs, but for what three name by its file: `machine_run`, `outcome_law`
-- and `watch_play`.
pub use Rattle.event_law.proofs.Ends.{not_all, one_least}
pub use Rattle.event_law.proofs.Falls.Falls.{advances_fall}
pub use Rattle.event_law.proofs.Falls.Heir.{abort_leaves_heir}
pub use Rattle.event_law.proofs.Falls.Rest.{not_both}
pub use Rattle.event_law.proofs.Falls.Spilled.{room_leaves_spilled}
pub use Rattle.event_law.proofs.Few.{least_events_are_few}
pub use Rattle.event_law.proofs.Given.{leg_is_run, next_event_is_given, running_within}
pub use Rattle.event_law.proofs.Granted.{is_idle, least_event_is_granted}
pub use Rattle.event_law.proofs.Histories.{close_is_serial, events_join}
pub use Rattle.event_law.proofs.Keeps.Calls.{filter_fewer, running_is_busy}
pub use Rattle.event_law.proofs.Keeps.Events.{event_stays_sound, makes_leads, spilled_asks, spilled_no_heir}
pub use Rattle.event_law.proofs.Keeps.Forced.{heir_is, idle_is_open, least_is_heir, running_is_dispatched, spared_stays}
pub use Rattle.event_law.proofs.Keeps.Room.{asker_is_there, room_follows, room_is_free}
pub use Rattle.event_law.proofs.Lists.{at_each_place}
pub use Rattle.event_law.proofs.Openings.Opened.{opening_is_sound}
pub use Rattle.event_law.proofs.Openings.Queued.{kept_at, kept_fewer}
pub use Rattle.event_law.proofs.Openings.Rooted.{coalesced_was}
pub use Rattle.event_law.proofs.Openings.Sized.{FitsQueue, none_fit, there_of}
pub use Rattle.event_law.proofs.Openings.Untouched.{all_kept, IsUntouched, none_touched}
pub use Rattle.event_law.proofs.Rests.Rest.{rest_is_bounded}
pub use Rattle.event_law.proofs.Rests.RestThere.{goes_on, rest_is_there}
pub use Rattle.event_law.proofs.Serials.Ends.{end_is_serial}
pub use Rattle.event_law.proofs.Serials.Free.{all_committed}
pub use Rattle.event_law.proofs.Rests.RestOne.{some_rest}
pub use Rattle.event_law.proofs.Openings.Sizes.{none_held}
pub use Rattle.event_law.proofs.Stays.{Stays, event_stays}
pub use Rattle.event_law.proofs.Ends.{end_is_one}
pub use Rattle.event_law.proofs.Keeps.Events.{happens_keeps}
pub use Rattle.event_law.proofs.Keeps.Idle.{least_idle}
pub use Rattle.event_law.proofs.Openings.Queued.{last_was}
pub use Rattle.event_law.proofs.Replies.{refusals_change_nothing, reply_is_one}
