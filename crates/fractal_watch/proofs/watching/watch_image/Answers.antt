use Rattle.std.proofs.Common.{map}
use Rattle.watch_play.proofs.Below.machine_run.Proved.{opening_settings}
use Rattle.fractal_watch.proofs.Told.{book_tells, opening_without_taps, want_tells}
use Rattle.fractal_watch.proofs.watching.watch_image.Goals as goal

pub tell_book-requires-clause-settings : goal.tell_book-requires-clause-settings
tell_book-requires-clause-settings g c =
    opening_settings g.N.Naming.image c.args.asking.now.request.settings _ _ _ c.in-Ok.ensures

pub returns-in-Ok : goal.returns-in-Ok
returns-in-Ok g c =
    let placers = map g.P.Placer.policy c.args.placers.items in
    book_tells g.row.N.Denot c.args.image.now g.N.Naming.image c.args.asking.now c.args.script.items placers _
    (g.K.Sink.state c.args.sink.now) (g.K.Sink.state c.tell_book.new.sink) c.tell_book.result
    c.requires.named.image_is (opening_without_taps _ _ _ _ c.new-taps.result.items _ c.new-taps.ensures.items
    c.in-Ok.ensures) c.tell_book.ensures

pub returns-in-Err : goal.returns-in-Err
returns-in-Err g c =
    let placers = map g.P.Placer.policy c.args.placers.items in
    want_tells g.row.N.Denot c.args.image.now c.args.asking.now c.args.script.items placers
    (g.K.Sink.state c.args.sink.now) c.empty.result c.empty.ensures.status c.empty.ensures.empty
