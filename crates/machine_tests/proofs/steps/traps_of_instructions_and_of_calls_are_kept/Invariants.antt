use Rattle.machine_tests.proofs.steps.traps_of_instructions_and_of_calls_are_kept.Given as goal

abbrev pub ghosts-comes_to_traps : goal.ghosts-comes_to_traps
ghosts-comes_to_traps g a = record { image = a.image.now; budget = a.settings.budget; commits = a.settings.commits }
