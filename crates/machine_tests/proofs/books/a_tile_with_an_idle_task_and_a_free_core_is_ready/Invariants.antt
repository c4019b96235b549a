use Rattle.machine_tests.proofs.books.a_tile_with_an_idle_task_and_a_free_core_is_ready.Given as goal

abbrev pub ghosts-is_ready_after_each : goal.ghosts-is_ready_after_each
ghosts-is_ready_after_each g a =
    record { image = a.image.now; budget = a.settings.budget; commits = a.settings.commits }
