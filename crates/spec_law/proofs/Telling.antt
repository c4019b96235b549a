-- What filters tell in a sound view.
use Rattle.std.proofs.Common.{◌≡◌, ℕ, [], sym, ap, subst, ◌∙◌}
use Rattle.std.specs.Prelude.{option_map}
use Rattle.line_table.specs.declared.lines.FilterKind.TheVariants.{Modulo}
use Rattle.line_table.specs.Lines.{IsLines, touched_by, wrote_by}
use Rattle.line_table.specs.Signature.{touched_of, wrote_of}
use Rattle.line_table.proofs.Proved.{bits_meet_modulo, cleared_tells_none, exact_tells_noted, meets_of-Meet}
use Rattle.line_table.proofs.Proved.{noted_is_told, touched_as, wrote_as}
use Rattle.memory_law.specs.Notes.{notes_of}
use Rattle.memory_law.specs.Tasks.{IsNoted}
use Rattle.spec_state.specs.declared.settings.Settings.{Settings}
use Rattle.spec_state.specs.declared.task.Task.{Task}
use Rattle.spec_state.specs.Filters.{HasNotes, has_touched, has_written}
use Rattle.spec_state.specs.Groups.{logged_task}
use Rattle.spec_state.proofs.Proved.{told_touched, told_written}
use Rattle.spec_law.specs.FilterLaws.{ExactFiltersTell, FiltersLeaveNoneOut, FiltersTell, ModuloPullsByBits}
use Rattle.spec_law.specs.FilterLaws.{TellsNoted}

-- it is a part of the chain of accesses
pub filters_leave_none_out : FiltersLeaveNoneOut
filters_leave_none_out image view id task sound there =
    let chained = sound.memory.chained in
    subst (λ size. IsNoted size view.settings.line (logged_task task)) (sym chained.size)
    (chained.noted id (logged_task task) (ap (option_map logged_task) there))

module _ (settings : Settings) (task : Task) (line : ℕ) (has : HasNotes settings task.lines task.log) where
  tells_noted : TellsNoted task settings.line line
  tells_noted =
      let told = noted_is_told settings.filter settings.line task.lines (notes_of settings.line task.log) line has in
      record {
        touched = λ is. told_touched settings task line has ∙ told.0 is;
        written = λ is. told_written settings task line has ∙ told.1 is;
        both = λ is. told_touched settings task line has
            ∙ told.2 (sym (told_written settings task line has) ∙ is);
        none = λ empty.
            let clear = cleared_tells_none settings.filter settings.line task.lines line
            (subst (HasNotes settings task.lines) empty has) in (
              ap (λ log. touched_by task.lines (notes_of task.lines.size log) line) empty ∙ clear.0,
              ap (λ log. wrote_by task.lines (notes_of task.lines.size log) line) empty ∙ clear.1,
            );
      }

pub filters_tell : FiltersTell
filters_tell image view id task line sound there =
    tells_noted view.settings task line (sound.memory.noted id task there)

pub exact_filters_tell : ExactFiltersTell
exact_filters_tell image view id task line sound there exact =
    let has = sound.memory.noted id task there in
    let notes = notes_of view.settings.line task.log in
    let told = exact_tells_noted view.settings.line task.lines notes line
    (subst (λ k. IsLines k view.settings.line task.lines notes) exact has) in
    (told_touched view.settings task line has ∙ told.0, told_written view.settings task line has ∙ told.1)

-- a filter that tells lines apart by their numbers modulo 1,024 tells what its bits say
module _ (settings : Settings) (task : Task) (has : HasNotes settings task.lines task.log)
    (is : settings.filter ≡ Modulo) where
  modulo : IsLines Modulo settings.line task.lines (notes_of settings.line task.log)
  modulo = subst (λ k. IsLines k settings.line task.lines (notes_of settings.line task.log)) is has

  bit_touched : (line : ℕ) → has_touched task line ≡ touched_of task.lines.near line
  bit_touched line =
      told_touched settings task line has
      ∙ touched_as Modulo settings.line task.lines (notes_of settings.line task.log) line modulo

  bit_written : (line : ℕ) → has_written task line ≡ wrote_of task.lines.near line
  bit_written line =
      told_written settings task line has
      ∙ wrote_as Modulo settings.line task.lines (notes_of settings.line task.log) line modulo

pub modulo_pulls_by_bits : ModuloPullsByBits
modulo_pulls_by_bits image view a b writer reader sound is there there' =
    let s = view.settings in
    let has = sound.memory.noted a writer there in
    let had = sound.memory.noted b reader there' in
    let bits = bits_meet_modulo s.line writer.lines reader.lines (notes_of s.line writer.log)
    (notes_of s.line reader.log) (modulo s writer has is) (modulo s reader had is) in
    let rows = meets_of-Meet writer.lines.near reader.lines.near in (
      λ meet.
          let row = rows.0 (bits.1 (meet.0, meet.1, sym (told_touched s reader meet.0 had) ∙ meet.2)) in
          (row.0, bit_written s writer has is row.0 ∙ row.1, bit_touched s reader had is row.0 ∙ row.2),
      λ meet.
          let log = bits.0 (rows.1 (
            meet.0,
            sym (bit_written s writer has is meet.0) ∙ meet.1,
            sym (bit_touched s reader had is meet.0) ∙ meet.2,
          )) in
          (log.0, log.1, told_touched s reader log.0 had ∙ log.2),
    )
