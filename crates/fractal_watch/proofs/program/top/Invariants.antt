use Rattle.fractal_watch.proofs.program.top.Given as goal

abbrev pub ghosts-watch_image : goal.ghosts-watch_image
ghosts-watch_image g a =
    let settings = a.asking.now.request.settings in
    record { image = a.image.now; budget = settings.budget; commits = settings.commits }
