use Rattle.memory_law.specs.Notes.{notes_of}
use Rattle.memory_law.proofs.Filters.{noted_all}
use Rattle.memory_law.proofs.laws.filter_leaves_none_out.Goals as goal

pub returns : goal.returns
returns g c = λ filter size line log within notes.
    noted_all size line (g.F.Filter.touched filter) (g.F.Filter.wrote filter) log within (record {
      touched_too = λ at is. g.met.F.Filter.noted_touched filter (notes_of line log) at notes is;
      wrote_too = λ at is. g.met.F.Filter.noted_wrote filter (notes_of line log) at notes is;
    })
