-- A task in progress.
pub use Rattle.task_request.specs.TaskState.{TaskState}
