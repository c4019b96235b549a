use Rattle.machine_tests.proofs.states.an_added_task_is_idle.Given as goal

abbrev pub ghosts-begins_with_one : goal.ghosts-begins_with_one
ghosts-begins_with_one g a = record { image = a.image.now; budget = a.settings.budget; commits = a.settings.commits }
