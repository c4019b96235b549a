-- What contracts see of a board's writer and of its readers.
use Rattle.std.specs.Prelude.{◌≡◌, ◌<◌, List, length}
use Rattle.atomic_table.specs.Seated.{TableId}
use Rattle.progress_cell.specs.Readings.{last_of}
use Rattle.progress_cell.specs.Rule.{readings_of, joined_of}
use Rattle.progress_cell.specs.declared.reading.Reading.{Reading}
use Rattle.progress_cell.specs.declared.view.PassView.{PassView}
use Rattle.progress_cell.specs.declared.view.PassView.TheVariants.{Writes, Reads}

-- the board that a writer belongs to, and the readings that it wrote
pub record WriterValue : Type 0 where
  pub board : TableId
  pub told : List Reading

-- the board that a reader belongs to, and the readings that it saw
pub record ReaderValue : Type 0 where
  pub board : TableId
  pub seen : List Reading

-- this view is a writer's, and this is the last reading that it wrote
pub record IsWriter (v : PassView) (last : Reading) : Type 0 where
  pub writes : v ≡ Writes (readings_of v) (joined_of v)
  pub last_told : last ≡ last_of (readings_of v)

-- this view is a reader's, which saw some reading
pub record IsReader (v : PassView) : Type 0 where
  pub reads : v ≡ Reads (readings_of v)
  pub some : 0 < length (readings_of v)
