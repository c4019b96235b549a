use Rattle.machine_tests.proofs.saved_runs.children_of_a_running_task_do_not_pend.Given as goal

abbrev pub ghosts-keeps_the_maker : goal.ghosts-keeps_the_maker
ghosts-keeps_the_maker g a = record { image = a.image.now; budget = a.settings.budget; commits = a.settings.commits }
