use Rattle.fractal_sim.proofs.playing.play_behind.Given as goal

abbrev pub ghosts-play_script : goal.ghosts-play_script
ghosts-play_script g a = record { image = a.image.now; budget = a.settings.budget; commits = a.settings.commits }
