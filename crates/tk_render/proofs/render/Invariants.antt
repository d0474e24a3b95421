use Rattle.tk_render.proofs.render.Given as goal

abbrev pub ghosts-render_counting : goal.ghosts-render_counting
ghosts-render_counting a = record { name = a.blank.name; parts = a.blank.parts }
