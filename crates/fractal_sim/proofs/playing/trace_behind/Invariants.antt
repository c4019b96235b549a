use Rattle.fractal_sim.proofs.playing.trace_behind.Given as goal

abbrev pub ghosts-trace_script : goal.ghosts-trace_script
ghosts-trace_script g a = record { image = a.image.now; budget = a.settings.budget; commits = a.settings.commits }
