use Rattle.page_core.proofs.steps.tell_steps.Given as goal

-- the rows begin after the step that is reached
abbrev pub ghosts-rows_to : goal.ghosts-rows_to
ghosts-rows_to a = record { from = a.stage.made }
