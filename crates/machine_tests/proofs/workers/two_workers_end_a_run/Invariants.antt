use Rattle.machine_tests.proofs.workers.two_workers_end_a_run.Given as goal

abbrev pub ghosts-run_by : goal.ghosts-run_by
ghosts-run_by g a = record { image = a.image.now; budget = a.settings.budget; commits = a.settings.commits }
