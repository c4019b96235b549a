use Rattle.machine_tests.proofs.books.a_task_that_is_taken_back_begins_with_an_empty_stack.Given as goal

abbrev pub ghosts-begins_anew : goal.ghosts-begins_anew
ghosts-begins_anew g a = record { image = a.image.now; budget = a.settings.budget; commits = a.settings.commits }
