use Rattle.machine_tests.proofs.whole_runs.an_image_runs_without_workers.Given as goal

abbrev pub ghosts-ran : goal.ghosts-ran
ghosts-ran g a = record { image = a.image.now; budget = a.settings.budget; commits = a.settings.commits }
