-- What the crates above may cite of these proofs.
pub use Rattle.task_request.proofs.Asked.{allowed_by-limits, AllowedBy, call_at-is, request_at-allowed_spawn, request_at-call, request_at-continue}
pub use Rattle.task_request.proofs.Asked.{request_at-end, request_at-load, request_at-store, sub_allowed-limits}
pub use Rattle.task_request.proofs.Reaching.{request_at-reaches}
pub use Rattle.task_request.proofs.Stepping.{after_request-size, after_request-used, after_stop-used, HasSize, HasUsed}
