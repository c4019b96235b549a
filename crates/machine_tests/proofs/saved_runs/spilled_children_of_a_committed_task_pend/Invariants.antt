use Rattle.machine_tests.proofs.saved_runs.spilled_children_of_a_committed_task_pend.Given as goal

abbrev pub ghosts-keeps_the_spilled : goal.ghosts-keeps_the_spilled
ghosts-keeps_the_spilled g a = record { image = a.image.now; budget = a.settings.budget; commits = a.settings.commits }
