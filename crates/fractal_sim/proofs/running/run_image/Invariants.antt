use Rattle.fractal_sim.proofs.running.run_image.Given as goal

abbrev pub ghosts-run : goal.ghosts-run
ghosts-run g a = record { image = a.image.now; budget = a.settings.budget; commits = a.settings.commits }
