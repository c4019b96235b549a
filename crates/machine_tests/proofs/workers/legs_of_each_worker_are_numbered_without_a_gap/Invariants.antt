use Rattle.machine_tests.proofs.workers.legs_of_each_worker_are_numbered_without_a_gap.Given as goal

abbrev pub ghosts-run_by : goal.ghosts-run_by
ghosts-run_by g a = record { image = a.image.now; budget = a.settings.budget; commits = a.settings.commits }
