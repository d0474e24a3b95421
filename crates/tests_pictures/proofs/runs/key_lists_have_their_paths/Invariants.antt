use Rattle.tests_pictures.proofs.runs.key_lists_have_their_paths.Given as goal

abbrev pub ghosts-calls_met : goal.ghosts-calls_met
ghosts-calls_met g a = record { name = a.blank.name; parts = a.blank.parts }
