use Rattle.std.proofs.Common.{rules, arith, ℕ, List, take, drop, ◌++◌, ◌+◌, ap, ◌∙◌}
use Rattle.guest_image.specs.Numbers.{word_bytes, half_bytes}
use Rattle.task_desc.specs.Record.{record_bytes, desc_of}
use Rattle.task_desc.proofs.RecordBytes.{InRange, desc_back}
use Rattle.task_desc.proofs.record.put_desc.Goals as goal

-- the bytes with these from a place on
put : ℕ → ℕ → List ℕ → List ℕ → List ℕ
put at n word bytes = take at bytes ++ word ++ drop (at + n) bytes

pub returns-clause-value : goal.returns-clause-value
unfolding put record_bytes
returns-clause-value c =
    let d = c.args.desc.now in
    c.put_half-2.ensures ∙ ap (put 34 2 (half_bytes d.kinds))
    (c.put_half.ensures ∙ ap (λ n. put 32 2 (half_bytes n) c.put_word-8.new.bytes) c.from.ensures ∙ ap (put 32 2 (half_bytes d.depth))
    (c.put_word-8.ensures ∙ ap (put 28 4 (word_bytes d.name.index))
    (c.put_word-7.ensures ∙ ap (put 24 4 (word_bytes d.name.creator))
    (c.put_word-6.ensures ∙ ap (put 20 4 (word_bytes d.hint))
    (c.put_word-5.ensures ∙ ap (put 16 4 _)
    (c.put_word-4.ensures ∙ ap (put 12 4 _)
    (c.put_word-3.ensures ∙ ap (put 8 4 _)
    (c.put_word-2.ensures ∙ ap (put 4 4 (word_bytes d.ts)) c.put_word.ensures))))))))

pub returns-clause-back : goal.returns-clause-back
returns-clause-back c =
    let fits : InRange c.args.desc.now =
    record {
      entry = omega arith;
      ts = omega arith;
      args = search rules;
      arg1 = omega arith;
      arg2 = omega arith;
      arg3 = omega arith;
      hint = omega arith;
      creator = omega arith;
      index = omega arith;
      depth = omega arith;
      kinds = omega arith;
    }
    in
    ap desc_of (returns-clause-value c) ∙ desc_back c.args.desc.now fits c.requires
