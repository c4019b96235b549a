use Rattle.part_tests.proofs.cores.legs_are_runs_of_plain_instructions.Given as goal

abbrev pub ghosts-assert_alike : goal.ghosts-assert_alike
ghosts-assert_alike g a = record { image = a.image.now; budget = a.program.now.budget; commits = 0 }
