use Rattle.machine_tests.proofs.steps.a_task_and_its_child_run_step_by_step.Given as goal

abbrev pub ghosts-runs_whole : goal.ghosts-runs_whole
ghosts-runs_whole g a = record { image = a.image.now; budget = a.settings.budget; commits = a.settings.commits }
