use Rattle.machine_tests.proofs.books.the_least_tasks_end_a_run.Given as goal

abbrev pub ghosts-least_run : goal.ghosts-least_run
ghosts-least_run g a = record { image = a.image.now; budget = a.settings.budget; commits = a.settings.commits }
