use Rattle.std.proofs.Common.{◌∙◌, ℕ, slice_index_or}
use Rattle.slab.specs.Slab.{get}
use Rattle.std.proofs.lemmas.Option.{slice_get-get_or}
use Rattle.spec_commit.proofs.Committed.{each_more, noted_more}
use Rattle.spec_commit.proofs.committing.adopt_noted.Goals as goal

pub loop-key-preserved : goal.loop-key-preserved
loop-key-preserved c =
    let was = c.loop-key.invariant in
    let key : ℕ = slice_index_or c.args.keys.now c.loop-key.key-index 0 in
    let here = slice_get-get_or c.args.keys.now c.loop-key.key-index 0 c.loop-key-test.true in
    record {
      each =
          each_more c.args.id c.args.turn c.loop-key.key-index key c.args.keys.now (get c.args.tasks.now) (get c.loop-key.tasks) (get c.adopt_at.new.tasks) here was.each was.noted c.adopt_at.ensures.changed c.adopt_at.ensures.others;
      noted =
          noted_more c.args.id c.args.turn c.loop-key.key-index key c.args.keys.now (get c.args.tasks.now) (get c.loop-key.tasks) (get c.adopt_at.new.tasks) here was.each was.noted c.adopt_at.ensures.changed c.adopt_at.ensures.others;
      len = c.adopt_at.ensures.len ∙ was.len;
      capacity = c.adopt_at.ensures.capacity ∙ was.capacity;
    }
