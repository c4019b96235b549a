use Rattle.machine_tests.proofs.states.a_new_state_has_no_task.Given as goal

abbrev pub ghosts-begins_with_nothing : goal.ghosts-begins_with_nothing
ghosts-begins_with_nothing g a =
    record { image = a.image.now; budget = a.settings.budget; commits = a.settings.commits }
