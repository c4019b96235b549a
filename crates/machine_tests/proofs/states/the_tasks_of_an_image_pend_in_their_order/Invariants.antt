use Rattle.machine_tests.proofs.states.the_tasks_of_an_image_pend_in_their_order.Given as goal

abbrev pub ghosts-begins_with_both : goal.ghosts-begins_with_both
ghosts-begins_with_both g a = record { image = a.image.now; budget = a.settings.budget; commits = a.settings.commits }
