use Rattle.machine_tests.proofs.steps.the_creator_of_a_latest_task_that_is_not_firm_is_taken_back.Given as goal

abbrev pub ghosts-takes_the_creator : goal.ghosts-takes_the_creator
ghosts-takes_the_creator g a = record { image = a.image.now; budget = a.settings.budget; commits = a.settings.commits }
