use Rattle.std.proofs.Common.{◌≡◌, refl, sym, ap, ◌∙◌, subst, All, Err}
use Rattle.watch_play.specs.spec_state.declared.settings.Settings.{Settings}
use Rattle.watch_play.specs.conflict_book.BookViews.{machine_view, view_of}
use Rattle.watch_play.specs.step_script.Ranges.{ActIsInRange}
use Rattle.watch_play.specs.Telling.{IsAllTold, Tells}
use Rattle.fractal_watch.specs.Watched.{plan_of}
use Rattle.fractal_watch.proofs.Told.{finished_tells, stopped_tells}
use Rattle.fractal_watch.proofs.watching.tell_book.Goals as goal

pub tell_course-told-requires-clause-within : goal.tell_course-told-requires-clause-within
tell_course-told-requires-clause-within g c =
    let same : (machine_view c.new-watch.result.play.book).settings ≡ c.args.asking.now.request.settings =
    ap (λ b. (machine_view b).settings) c.new-watch.ensures.book ∙ c.requires.settings in
    subst (λ (s : Settings). All (ActIsInRange s.tiles s.cores) c.args.script.items) (sym same) c.requires.within

pub returns-in-Ok : goal.returns-in-Ok
returns-in-Ok g c = λ input behind given script_is is_opening.
    let asking = c.args.asking.now in
    let image = g.N.Naming.image in
    let script = c.args.script.items in
    let plan = plan_of asking image script in
    let named = c.requires.named in
    let begun = c.new-watch.ensures.book in
    let seen = view_of g.P.Placer.policy g.T.Tap.notes in
    let last = seen c.tell_course-told.new.watch.play.book in
    let before = g.K.Sink.state c.args.sink.now in
    let between = g.K.Sink.state c.tell_course-told.new.sink in
    let settings_is : asking.request.settings ≡ (machine_view c.new-watch.result.play.book).settings =
    sym (ap (λ b. (machine_view b).settings) begun ∙ c.requires.settings) in
    let told : IsAllTold g.row.N.Denot plan (seen c.args.book) last before between =
    subst (λ b. IsAllTold g.row.N.Denot plan (seen b) last before between) begun
    (c.in-Ok.ensures plan (sym named.image_is) settings_is (sym c.new-watch.ensures.telling) refl) in
    finished_tells g.row.N.Denot input asking image behind given script script_is (seen c.args.book) is_opening last
    g.N.Naming.commits g.N.Naming.budget named.commits_is named.budget_is before between
    (g.K.Sink.state c.finish.new.sink) c.finish.result told c.finish.ensures

pub returns : goal.returns
returns g c = λ input behind given script_is is_opening.
    let asking = c.args.asking.now in
    let image = g.N.Naming.image in
    let script = c.args.script.items in
    let plan = plan_of asking image script in
    let named = c.requires.named in
    let begun = c.new-watch.ensures.book in
    let seen = view_of g.P.Placer.policy g.T.Tap.notes in
    let last = seen c.tell_course-told.new.watch.play.book in
    let stop = c.in-Err.stop in
    let before = g.K.Sink.state c.args.sink.now in
    let after = g.K.Sink.state c.tell_course-told.new.sink in
    let settings_is : asking.request.settings ≡ (machine_view c.new-watch.result.play.book).settings =
    sym (ap (λ b. (machine_view b).settings) begun ∙ c.requires.settings) in
    let told : Tells g.row.N.Denot plan (seen c.args.book) last before after (Err stop) =
    subst (λ b. Tells g.row.N.Denot plan (seen b) last before after (Err stop)) begun
    (c.in-Err.ensures plan (sym named.image_is) settings_is (sym c.new-watch.ensures.telling) refl) in
    stopped_tells g.row.N.Denot input asking image behind given script script_is (seen c.args.book) is_opening last
    g.N.Naming.commits g.N.Naming.budget named.commits_is named.budget_is before after stop c.break_off.result told
    c.break_off.ensures
