use Rattle.fractal_sim.proofs.saving.save_image.Given as goal

abbrev pub ghosts-run_to_save : goal.ghosts-run_to_save
ghosts-run_to_save g a = record { image = a.image.now; budget = a.settings.budget; commits = a.settings.commits }
