use Rattle.std.proofs.Common.{◌≡◌, ◌<◌, ◌∙◌, ◌++◌, ◌∷◌, [], sym, ap, length, take, rules}
use Rattle.report_text.specs.Report.{window_of, window_word}
use Rattle.report_text.proofs.Replays.{last_other, last_same}
use Rattle.report_text.proofs.Written.{length-window_of, slice_get-window_of}
use Rattle.report_text.proofs.checking.wrong_word.Goals as goal
use Rattle.fractal_vt.proofs.Proved.{take_one_more}

pub returns-then-not-is_word_at-clause-place : goal.returns-then-not-is_word_at-clause-place
returns-then-not-is_word_at-clause-place c =
    let lt : c.loop-place.place < c.args.image.now.window_words = search rules in
    record {
      same = c.loop-place.invariant;
      other =
          λ h. c.if-not-is_word_at.ensures (h ∙ (rw c.word_of.ensures (slice_get-window_of c.args.image.now c.args.memory.now c.loop-place.place lt)));
    }

pub loop-place-preserved : goal.loop-place-preserved
loop-place-preserved c =
    let lt : c.loop-place.place < c.args.image.now.window_words = search rules in
    let word = window_word c.args.image.now c.args.memory.now c.loop-place.place in
    take_one_more c.args.window.now c.loop-place.place word (rw c.word_of.ensures at c.if-not-is_word_at.ensures)
    ∙ ap (λ front. front ++ word ∷ []) c.loop-place.invariant
    ∙ sym (take_one_more _ c.loop-place.place word (slice_get-window_of c.args.image.now c.args.memory.now c.loop-place.place lt))

pub returns-then-window-words-clause-place : goal.returns-then-window-words-clause-place
returns-then-window-words-clause-place c =
    let image = c.args.image.now in
    let memory = c.args.memory.now in
    let end : c.loop-place.place ≡ length (window_of image memory) = search (rules, length-window_of image memory) in
    let all : length c.args.window.now ≡ c.loop-place.place = search rules in
    last_same c.args.window.now (window_of image memory) c.loop-place.place end c.loop-place.invariant all

pub returns-else-window-words-clause-place : goal.returns-else-window-words-clause-place
returns-else-window-words-clause-place c =
    let image = c.args.image.now in
    let memory = c.args.memory.now in
    let here : c.loop-place.place ≡ c.window_len-words.result = search rules in
    let end : c.window_len-words.result ≡ length (window_of image memory) = search (rules, length-window_of image memory) in
    let same : take c.window_len-words.result c.args.window.now ≡ take c.window_len-words.result (window_of image memory) = (rw here at c.loop-place.invariant) in
    record {
      same = same;
      other = last_other c.args.window.now (window_of image memory) c.window_len-words.result end same (search rules);
    }
