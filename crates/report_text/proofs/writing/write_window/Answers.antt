use Rattle.std.proofs.Common.{◌≡◌, ◌<◌, rules}
use Rattle.report_text.proofs.Written.{word_written, word_failed, words_written}
use Rattle.report_text.proofs.writing.write_window.Goals as goal

pub returns-in-Err : goal.returns-in-Err
returns-in-Err g c =
    let state = g.K.Sink.state in
    let lt : c.loop-place.place < c.args.image.now.window_words = search rules in
    word_failed c.args.image.now c.args.memory.now c.loop-place.place (state c.args.sink.now) (state c.loop-place.sink) (state c.write_word.new.sink) c.in-Err.failed lt c.loop-place.invariant (rw c.word_of.ensures at c.in-Err.ensures)

pub loop-place-preserved : goal.loop-place-preserved
loop-place-preserved g c =
    let state = g.K.Sink.state in
    let lt : c.loop-place.place < c.args.image.now.window_words = search rules in
    word_written c.args.image.now c.args.memory.now c.loop-place.place (state c.args.sink.now) (state c.loop-place.sink) (state c.write_word.new.sink) lt c.loop-place.invariant (rw c.word_of.ensures at c.in-Ok.ensures)

pub returns : goal.returns
returns g c =
    let state = g.K.Sink.state in
    let all : c.loop-place.place ≡ c.args.image.now.window_words = search rules in
    words_written c.args.image.now c.args.memory.now c.loop-place.place (state c.args.sink.now) (state c.loop-place.sink) all c.loop-place.invariant
