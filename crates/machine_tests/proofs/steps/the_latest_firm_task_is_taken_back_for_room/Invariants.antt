use Rattle.machine_tests.proofs.steps.the_latest_firm_task_is_taken_back_for_room.Given as goal

abbrev pub ghosts-takes_the_latest : goal.ghosts-takes_the_latest
ghosts-takes_the_latest g a = record { image = a.image.now; budget = a.settings.budget; commits = a.settings.commits }
